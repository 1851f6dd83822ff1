-- The envelope of a product of two numbers between their ends (McCormick 1976): four rows for `scale * w = a * b`.
use Rattle.std.specs.Prelude.{ℕ, ◌==◌, if◌then◌else◌, ℤ, neg_ℤ, ◌*ℤ◌}

-- the ends of a and of b
pub record Ends : Type 0 where
  pub a_low : ℤ
  pub a_high : ℤ
  pub b_low : ℤ
  pub b_high : ℤ

-- a side: the coefficients of w, a and b, and the constant of a row that is at least 0
pub record Side : Type 0 where
  pub of_w : ℤ
  pub of_a : ℤ
  pub of_b : ℤ
  pub constant : ℤ

abbrev pub first_side : ℤ → Ends → Side
first_side scale e = record { of_w = scale; of_a = neg_ℤ e.b_low; of_b = neg_ℤ e.a_low; constant = e.a_low *ℤ e.b_low }

abbrev pub second_side : ℤ → Ends → Side
second_side scale e = record { of_w = scale; of_a = neg_ℤ e.b_high; of_b = neg_ℤ e.a_high; constant = e.a_high *ℤ e.b_high }

abbrev pub third_side : ℤ → Ends → Side
third_side scale e = record { of_w = neg_ℤ scale; of_a = e.b_low; of_b = e.a_high; constant = neg_ℤ (e.a_high *ℤ e.b_low) }

abbrev pub fourth_side : ℤ → Ends → Side
fourth_side scale e = record { of_w = neg_ℤ scale; of_a = e.b_high; of_b = e.a_low; constant = neg_ℤ (e.a_low *ℤ e.b_high) }

-- the side of a number, from 1 to 4
abbrev pub side : ℕ → ℤ → Ends → Side
side number scale e =
    if number == 1 then first_side scale e
    else (if number == 2 then second_side scale e
    else (if number == 3 then third_side scale e
    else fourth_side scale e))

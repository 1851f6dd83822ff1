-- The rests and the constants of a proof, part by part, and the number's size.
use Rattle.std.proofs.Common.{◌≡◌, ℕ, ◌+◌, ◌*◌, ◌^◌, ◌<◌, ◌≤◌, List, map, length, get_or, take, ℤ, pos, ◌+ℤ◌, ◌-ℤ◌, ◌*ℤ◌, unsigned_abs, arith, ap, ◌∙◌, FitsSigned}
use Rattle.std.specs.List.{sum_by}
use Rattle.std.specs.Int.{int_min}
use Rattle.std.proofs.Math.ListN.{get_or-map}
use Rattle.std.proofs.Math.Nat.{mul-le-mul, mul-le-mul_right}
use Rattle.std.proofs.lemmas.Int.{ints, unsigned_abs-mul, fits_signed_from_abs}
use Rattle.std.proofs.lemmas.List.{length-map}
use Rattle.std.proofs.lemmas.List.Sums.{sum_by_more}
use mir.Syntax.{w64, w128}
use Rattle.integers.specs.Sums.{int_sum_below, sum_below}
use Rattle.integers.proofs.Ring.{additive}
use Rattle.integers.proofs.ByList.{int_sum_by_more, abs-int_sum_by}
use Rattle.integers.proofs.ByIndex.{int_sum_below-same}
use Rattle.integers.proofs.AtKey.{sum_below-le, abs-int_sum_below_to}
use Rattle.pool_model.specs.Network.{Net}
use Rattle.row_model.specs.Boxes.{Box}
use Rattle.row_model.specs.Variables.{variables, by_number, costs, lows, highs}
use Rattle.row_model.specs.Multipliers as multipliers
use Rattle.box_space.specs.Views.{shown_part}
use Rattle.linear_program.specs.declared.multipliers.Part.{Part}
use Rattle.row_book.specs.Sizes.{end_size}
use Rattle.row_book.specs.PartRows.{coef_at, constant_at}
use Rattle.row_book.specs.PartSums.{constants_of, rest_of, rest_weight_of, number_of, weight_of, part_weight}
use Rattle.row_book.proofs.Least.{least_size}
use Rattle.row_book.proofs.WeightSums.{weight-parts}
use Rattle.row_book.proofs.AllParts.{no_part}

-- ---- sizes of a rest, whatever its variable's ends are
pub size64 : (m : ℤ) → FitsSigned w64 m → unsigned_abs m ≤ 2 ^ 63
size64 m h = omega (arith, ints)

-- a multiplied coefficient
product_size : (m c : ℕ) → m ≤ 2 ^ 63 → c < 2 ^ 48 → m * c ≤ 2 ^ 111
product_size m c h k = omega (arith, mul-le-mul h (le_of c k))
  where
    le_of : (c : ℕ) → c < 2 ^ 48 → c ≤ 2 ^ 48
    le_of c k = omega arith

pub part_room : (r m c : ℕ) → r + 2 ^ 111 ≤ 2 ^ 126 → m ≤ 2 ^ 63 → c < 2 ^ 48 → r + m * c ≤ 2 ^ 126
part_room r m c h i j = omega (arith, product_size m c i j)

pub rest_small : (z r m c : ℤ) → z ≡ r -ℤ m *ℤ c → unsigned_abs m ≤ 2 ^ 63 → unsigned_abs c < 2 ^ 48 → unsigned_abs z ≤ unsigned_abs r + 2 ^ 111
rest_small z r m c e i j = omega (arith, ints, product_size (unsigned_abs m) (unsigned_abs c) i j, unsigned_abs-mul m c)

-- ---- sizes within the weight
module _ (n : Net) (b : Box) (scale : ℕ) (parts : List multipliers.Part) where
  rest_size : (v : ℕ) → unsigned_abs (rest_of n b scale parts v) ≤ rest_weight_of n b scale parts v
  rest_size v = omega (
    arith,
    ints,
    unsigned_abs-mul (pos scale) (by_number n (costs n) v),
    abs-int_sum_by (λ q. q.mult *ℤ coef_at n b q.row v) (λ q. unsigned_abs q.mult * unsigned_abs (coef_at n b q.row v)) parts (λ q. omega (arith, unsigned_abs-mul q.mult (coef_at n b q.row v))),
  )

  pub constants_size : unsigned_abs (constants_of n b parts) ≤ sum_by (λ q. unsigned_abs q.mult * unsigned_abs (constant_at n b q.row)) parts
  constants_size = abs-int_sum_by (λ q. q.mult *ℤ constant_at n b q.row) (λ q. unsigned_abs q.mult * unsigned_abs (constant_at n b q.row)) parts
      (λ q. omega (arith, unsigned_abs-mul q.mult (constant_at n b q.row)))

  -- of what was read, where it is the rests
  pub ends-light : (r : ℕ → ℤ) → ((v : ℕ) → v < variables n → r v ≡ rest_of n b scale parts v) → weight_of n b record { scale = scale; parts = parts } ≤ 2 ^ 126
      → sum_below (λ v. unsigned_abs (r v) * end_size n b v) (variables n) ≤ 2 ^ 126
  ends-light r h w = omega (
    arith,
    sum_below-le (λ v. unsigned_abs (r v) * end_size n b v) (λ v. rest_weight_of n b scale parts v * end_size n b v) (variables n)
        (λ v lt. mul-le-mul_right (end_size n b v) (let e : unsigned_abs (r v) ≤ rest_weight_of n b scale parts v = omega (arith, ap unsigned_abs (h v lt), rest_size v) in e)),
  )

  pub number-fits : weight_of n b record { scale = scale; parts = parts } ≤ 2 ^ 126 → FitsSigned w128 (number_of n b record { scale = scale; parts = parts })
  number-fits w =
      let least : ℕ → ℤ = λ v. int_min (rest_of n b scale parts v *ℤ by_number n (lows n b) v) (rest_of n b scale parts v *ℤ by_number n (highs n b) v) in
      fits_signed_from_abs w128 (number_of n b record { scale = scale; parts = parts }) (omega (
        arith,
        ints,
        constants_size,
        abs-int_sum_below_to least (λ v. rest_weight_of n b scale parts v * end_size n b v) (variables n) (λ v lt. small v),
      ))
    where
      small : (v : ℕ) → unsigned_abs
          (int_min (rest_of n b scale parts v *ℤ by_number n (lows n b) v) (rest_of n b scale parts v *ℤ by_number n (highs n b) v)) ≤ rest_weight_of n b scale parts v * end_size n b v
      small v = omega (arith, least_size (rest_of n b scale parts v) (by_number n (lows n b) v) (by_number n (highs n b) v), mul-le-mul_right (end_size n b v) (rest_size v))

  -- the number, of what was read, where it is the rests
  pub number-read : (r : ℕ → ℤ) (ends constants : ℤ) → ((v : ℕ) → v < variables n → r v ≡ rest_of n b scale parts v)
      → ends ≡ int_sum_below (λ v. int_min (r v *ℤ by_number n (lows n b) v) (r v *ℤ by_number n (highs n b) v)) (variables n)
      → constants ≡ constants_of n b parts → ends -ℤ constants ≡ number_of n b record { scale = scale; parts = parts }
  number-read r ends constants h e c =
      ap (λ z. z -ℤ constants) e ∙ ap (λ z. int_sum_below (λ v. int_min (r v *ℤ by_number n (lows n b) v) (r v *ℤ by_number n (highs n b) v)) (variables n) -ℤ z) c
      ∙ ap (λ z. z -ℤ constants_of n b parts) (int_sum_below-same
      (λ v. int_min (r v *ℤ by_number n (lows n b) v) (r v *ℤ by_number n (highs n b) v))
      (λ v. int_min (rest_of n b scale parts v *ℤ by_number n (lows n b) v) (rest_of n b scale parts v *ℤ by_number n (highs n b) v)) (variables n)
      (λ v lt. ap (λ z. int_min (z *ℤ by_number n (lows n b) v) (z *ℤ by_number n (highs n b) v)) (h v lt)))

-- ---- one part more
module _ (n : Net) (b : Box) (scale : ℕ) (parts : List Part) (k : ℕ) (lt : k < length parts) where
  shown_lt : k < length (map shown_part parts)
  shown_lt = omega (arith, length-map parts shown_part)

  part_at : get_or (map shown_part parts) k (shown_part no_part) ≡ shown_part (get_or parts k no_part)
  part_at = get_or-map shown_part parts k no_part

  pub rest-more : (v : ℕ) → rest_of n b scale (take (k + 1) (map shown_part parts)) v
      ≡ rest_of n b scale (take k (map shown_part parts)) v -ℤ (get_or parts k no_part).mult *ℤ coef_at n b (get_or parts k no_part).row v
  rest-more v =
      let f : multipliers.Part → ℤ = λ q. q.mult *ℤ coef_at n b q.row v in
      omega (arith, additive, int_sum_by_more f (map shown_part parts) k (shown_part no_part) shown_lt, ap f part_at)

  pub constants-more : constants_of n b (take (k + 1) (map shown_part parts))
      ≡ constants_of n b (take k (map shown_part parts)) +ℤ (get_or parts k no_part).mult *ℤ constant_at n b (get_or parts k no_part).row
  constants-more =
      let f : multipliers.Part → ℤ = λ q. q.mult *ℤ constant_at n b q.row in
      int_sum_by_more f (map shown_part parts) k (shown_part no_part) shown_lt ∙ ap (λ z. constants_of n b (take k (map shown_part parts)) +ℤ z) (ap f part_at)

  pub weight-more : weight_of n b record { scale = scale; parts = take (k + 1) (map shown_part parts) }
      ≡ weight_of n b record { scale = scale; parts = take k (map shown_part parts) } + part_weight n b (shown_part (get_or parts k no_part))
  weight-more = omega (
    arith,
    weight-parts (by_number n (costs n)) (end_size n b) (coef_at n b) (constant_at n b) (variables n) scale (take k (map shown_part parts)),
    weight-parts (by_number n (costs n)) (end_size n b) (coef_at n b) (constant_at n b) (variables n) scale (take (k + 1) (map shown_part parts)),
    sum_by_more (part_weight n b) (map shown_part parts) k (shown_part no_part) shown_lt,
    ap (part_weight n b) part_at,
  )

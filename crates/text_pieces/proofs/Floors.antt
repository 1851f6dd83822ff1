-- Fractions rounded down and up: the number that is meant is the only one.
use Rattle.std.proofs.Common.{◌≡◌, ℕ, ◌/◌, ◌<◌, ℤ, pos, negsuc, neg_ℤ, ◌+ℤ◌, ◌-ℤ◌, ◌*ℤ◌, ◌≤ℤ◌, ◌<ℤ◌, FitsSigned, arith, ap}
use Rattle.std.specs.Int.{int_div_euclid, int_rem_euclid}
use Rattle.std.proofs.Math.Nat.{lt-div-mul-add, div-mul-le_self, mod-lt, mul-le-mul_left}
use Rattle.std.proofs.lemmas.Nat.{div-add-mod'}
use Rattle.std.proofs.lemmas.Int.{ints}
use mir.Syntax.{w128}
use Rattle.integers.proofs.Ring.{additive, linear, sorted, mul_comm_ℤ, add-mul, neg-mul, scaled}
use Rattle.integers.proofs.Order.{floor-le, lt-cancel}
use Rattle.text_pieces.specs.Rounding.{rounded_down, rounded_up}

-- ---- down

-- one divisor more is above the number
above : (z : ℤ) (d : ℕ) → 0 < d → z <ℤ (int_div_euclid z (pos d) *ℤ pos d +ℤ pos d)
above (pos a) d h = omega (arith, linear, lt-div-mul-add {a = a} h)
above (negsuc a) d h = omega (arith, linear, div-mul-le_self a d)

pub floor-lt : (z : ℤ) (d : ℕ) → 0 < d → z <ℤ ((int_div_euclid z (pos d) +ℤ pos 1) *ℤ pos d)
floor-lt z d h = omega (arith, additive, above z d h, add-mul (int_div_euclid z (pos d)) (pos 1) (pos d))

-- no other whole number is at most the fraction, and above it with one more
pub floor-only : (z q : ℤ) (d : ℕ) → 0 < d → (q *ℤ pos d) ≤ℤ z → z <ℤ ((q +ℤ pos 1) *ℤ pos d) → q ≡ int_div_euclid z (pos d)
floor-only z q d h low high =
    let f = int_div_euclid z (pos d) in
    let some : pos 0 <ℤ pos d = omega (arith, ints) in
    let under : (pos d *ℤ f) <ℤ (pos d *ℤ (q +ℤ pos 1)) = omega (arith, additive, floor-le z d h, high, mul_comm_ℤ (pos d) f, mul_comm_ℤ (pos d) (q +ℤ pos 1)) in
    let over : (pos d *ℤ q) <ℤ (pos d *ℤ (f +ℤ pos 1)) = omega (arith, additive, floor-lt z d h, low, mul_comm_ℤ (pos d) q, mul_comm_ℤ (pos d) (f +ℤ pos 1)) in
    omega (arith, additive, lt-cancel (pos d) f (q +ℤ pos 1) some under, lt-cancel (pos d) q (f +ℤ pos 1) some over)

-- ---- up

pub ceiling-ge : (z : ℤ) (d : ℕ) → 0 < d → z ≤ℤ (rounded_up z d *ℤ pos d)
ceiling-ge z d h = omega (arith, additive, floor-le (neg_ℤ z) d h, neg-mul (rounded_down (neg_ℤ z) d) (pos d))

pub ceiling-gt : (z : ℤ) (d : ℕ) → 0 < d → ((rounded_up z d -ℤ pos 1) *ℤ pos d) <ℤ z
ceiling-gt z d h =
    let f = rounded_down (neg_ℤ z) d in
    omega (arith, additive, floor-lt (neg_ℤ z) d h, less_is f (pos d))
  where
    less_is : (f e : ℤ) → (neg_ℤ f -ℤ pos 1) *ℤ e ≡ neg_ℤ ((f +ℤ pos 1) *ℤ e)
    less_is f e = simp sorted (omega (arith, additive))

-- no other whole number is at least the fraction, and below it with one less
pub ceiling-only : (z q : ℤ) (d : ℕ) → 0 < d → z ≤ℤ (q *ℤ pos d) → ((q -ℤ pos 1) *ℤ pos d) <ℤ z → q ≡ rounded_up z d
ceiling-only z q d h high low =
    let down = floor-only (neg_ℤ z) (neg_ℤ q) d h (omega (arith, additive, high, neg-mul q (pos d))) (omega (arith, additive, low, more_is q (pos d))) in
    omega (arith, additive, down)
  where
    more_is : (q e : ℤ) → (neg_ℤ q +ℤ pos 1) *ℤ e ≡ neg_ℤ ((q -ℤ pos 1) *ℤ e)
    more_is q e = simp sorted (omega (arith, additive))

-- ---- by what is left

left_is : (z : ℤ) (d : ℕ) → 0 < d → int_div_euclid z (pos d) *ℤ pos d +ℤ int_rem_euclid z (pos d) ≡ z
left_is (pos a) d h = omega (arith, linear, div-add-mod' a d)
left_is (negsuc a) d h = omega (arith, linear, div-add-mod' a d, mod-lt a h)

left-range : (z : ℤ) (d : ℕ) → 0 < d → (pos 0 ≤ℤ int_rem_euclid z (pos d)) × (int_rem_euclid z (pos d) <ℤ pos d)
left-range (pos a) d h = let small = mod-lt a h in (omega (arith, ints), omega (arith, ints))
left-range (negsuc a) d h = let small = mod-lt a h in (omega (arith, ints), omega (arith, ints))

-- nothing is left: down and up are the same
pub up_same : (z q r : ℤ) (d : ℕ) → 0 < d → q ≡ int_div_euclid z (pos d) → r ≡ int_rem_euclid z (pos d) → r ≡ pos 0 → q ≡ rounded_up z d
up_same z q r d h e f none =
    let whole : q *ℤ pos d ≡ z = omega (arith, additive, left_is z d h, ap (λ x. x *ℤ pos d) e, f, none) in
    ceiling-only z q d h (omega (arith, additive, whole)) (omega (arith, additive, whole, one_less q (pos d)))
  where
    one_less : (q e : ℤ) → (q -ℤ pos 1) *ℤ e ≡ q *ℤ e -ℤ e
    one_less q e = simp sorted (omega (arith, additive, scaled))

-- something is left: up is one more than down
pub up_more : (z q r : ℤ) (d : ℕ) → 0 < d → q ≡ int_div_euclid z (pos d) → r ≡ int_rem_euclid z (pos d) → (r ≡ pos 0 → ⊥) → q +ℤ pos 1 ≡ rounded_up z d
up_more z q r d h e f some =
    let whole : q *ℤ pos d +ℤ r ≡ z = omega (arith, additive, left_is z d h, ap (λ x. x *ℤ pos d) e, f) in
    let range = left-range z d h in
    let low : pos 0 ≤ℤ r = omega (arith, additive, range.0, f) in
    let high : r <ℤ pos d = omega (arith, additive, range.1, f) in
    let above_0 : pos 0 <ℤ r = positive r low some in
    ceiling-only z (q +ℤ pos 1) d h (omega (arith, additive, whole, high, add-mul q (pos 1) (pos d))) (omega (arith, additive, whole, above_0, back q (pos d)))
  where
    positive : (r : ℤ) → pos 0 ≤ℤ r → (r ≡ pos 0 → ⊥) → pos 0 <ℤ r
    positive r low some = grind (arith, ints)

    back : (q e : ℤ) → (q +ℤ pos 1 -ℤ pos 1) *ℤ e ≡ q *ℤ e
    back q e = simp sorted (omega (arith, additive))

-- where the divisor is more than 1, one more than the quotient is in range
pub more_fits : (z q : ℤ) (d : ℕ) → 1 < d → FitsSigned w128 z → q ≡ int_div_euclid z (pos d) → FitsSigned w128 (q +ℤ pos 1)
more_fits (pos a) q d h fits e = let twice = mul-le-mul_left (a / d) h in omega (arith, ints, e, div-mul-le_self a d, twice)
more_fits (negsuc a) q d h fits e = let twice = mul-le-mul_left (a / d) h in omega (arith, ints, e, div-mul-le_self a d, twice)

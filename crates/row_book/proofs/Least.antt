-- The least of a rest times what lies between two ends, and sums of these.
use Rattle.std.proofs.Common.{◌≡◌, ℕ, suc, ◌+◌, ◌*◌, ◌^◌, ◌<◌, ◌≤◌, max, ℤ, pos, ◌+ℤ◌, ◌*ℤ◌, unsigned_abs, add-one, arith, refl, sym, ap, subst, ◌∙◌, FitsSigned}
use Rattle.std.specs.Int.{int_min}
use Rattle.std.proofs.Math.IntN.{zero-*ℤ}
use Rattle.std.proofs.Math.Nat.{mul-le-mul_left, le-max_left, le-max_right}
use Rattle.std.proofs.lemmas.Int.{unsigned_abs-mul, fits_signed_from_abs}
use mir.Syntax.{w128}
use Rattle.integers.specs.Sums.{int_sum_below, sum_below}
use Rattle.integers.proofs.Order.{abs-min}
use Rattle.integers.proofs.AtKey.{sum_below-part, abs-int_sum_below}

-- it is within the size of the larger end
pub least_size : (r low high : ℤ) → unsigned_abs (int_min (r *ℤ low) (r *ℤ high)) ≤ unsigned_abs r * max (unsigned_abs low) (unsigned_abs high)
least_size r low high = omega (
  arith,
  abs-min (r *ℤ low) (r *ℤ high),
  unsigned_abs-mul r low,
  unsigned_abs-mul r high,
  mul-le-mul_left (unsigned_abs r) (le-max_left (unsigned_abs low) (unsigned_abs high)),
  mul-le-mul_left (unsigned_abs r) (le-max_right (unsigned_abs low) (unsigned_abs high)),
)

-- the sum so far and one more stay within the size of the whole
pub sum_fits : (r a b : ℕ → ℤ) (i n : ℕ) → i < n → sum_below (λ i. unsigned_abs (r i) * max (unsigned_abs (a i)) (unsigned_abs (b i))) n ≤ 2 ^ 126
    → FitsSigned w128 (int_sum_below (λ i. int_min (r i *ℤ a i) (r i *ℤ b i)) i +ℤ int_min (r i *ℤ a i) (r i *ℤ b i))
sum_fits r a b i n lt h =
    let least = λ (i : ℕ). int_min (r i *ℤ a i) (r i *ℤ b i) in
    let size = λ (i : ℕ). unsigned_abs (r i) * max (unsigned_abs (a i)) (unsigned_abs (b i)) in
    fits_signed_from_abs w128 (int_sum_below least i +ℤ least i)
    (omega (arith, sum_below-part size i n lt, abs-int_sum_below least size (suc i) (λ i. least_size (r i) (a i) (b i))))

-- a rest of 0 makes 0 between any ends
pub least_zero : (rest low high : ℤ) → rest ≡ pos 0 → pos 0 ≡ int_min (rest *ℤ low) (rest *ℤ high)
least_zero rest low high e = rw (e, zero-*ℤ low, zero-*ℤ high) refl

-- ---- between ends that were read
module _ (rest low high a b : ℤ) (low_is : low ≡ a) (high_is : high ≡ b) where
  pub room-read : (most : ℕ) → unsigned_abs rest * max (unsigned_abs a) (unsigned_abs b) ≤ most → unsigned_abs rest * max (unsigned_abs low) (unsigned_abs high) ≤ most
  room-read most h = rw (low_is, high_is) h

  pub least-read : (least : ℤ) → least ≡ int_min (rest *ℤ low) (rest *ℤ high) → least ≡ int_min (rest *ℤ a) (rest *ℤ b)
  least-read least e = e ∙ rw (low_is, high_is) refl

-- ---- one variable more
module _ (r a b : ℕ → ℤ) (i n : ℕ) (lt : i < n) where
  pub room-here : sum_below (λ i. unsigned_abs (r i) * max (unsigned_abs (a i)) (unsigned_abs (b i))) n ≤ 2 ^ 126 → unsigned_abs (r i) * max (unsigned_abs (a i)) (unsigned_abs (b i)) ≤ 2 ^ 126
  room-here h = omega (arith, sum_below-part (λ i. unsigned_abs (r i) * max (unsigned_abs (a i)) (unsigned_abs (b i))) i n lt, h)

  pub sum-more : (total least : ℤ) → total ≡ int_sum_below (λ i. int_min (r i *ℤ a i) (r i *ℤ b i)) i → least ≡ int_min (r i *ℤ a i) (r i *ℤ b i)
      → total +ℤ least ≡ int_sum_below (λ i. int_min (r i *ℤ a i) (r i *ℤ b i)) (i + 1)
  sum-more total least t e = rw add-one (ap (λ z. z +ℤ least) t ∙ ap (λ z. int_sum_below (λ i. int_min (r i *ℤ a i) (r i *ℤ b i)) i +ℤ z) e)

  pub sum-more_fits : (total least : ℤ) → total ≡ int_sum_below (λ i. int_min (r i *ℤ a i) (r i *ℤ b i)) i → least ≡ int_min (r i *ℤ a i) (r i *ℤ b i)
      → sum_below (λ i. unsigned_abs (r i) * max (unsigned_abs (a i)) (unsigned_abs (b i))) n ≤ 2 ^ 126 → FitsSigned w128 (total +ℤ least)
  sum-more_fits total least t e h = subst (λ z. FitsSigned w128 z) (sym (sum-more total least t e)) (rw add-one (sum_fits r a b i n lt h))

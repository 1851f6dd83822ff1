-- Means of numbers by weights, over the indices of one key.
use Rattle.std.proofs.Common.{◌≡◌, ℕ, ◌<◌, inl, inr, ◌==◌, if◌then◌else◌, ℤ, pos, ◌*ℤ◌, ◌≤ℤ◌, arith, ap, ◌∙◌}
use Rattle.integers.specs.Sums.{sum_at, int_sum_at}
use Rattle.integers.proofs.Ring.{additive}
use Rattle.integers.proofs.Order.{le-mul_pos}
use Rattle.integers.proofs.ByIndex.{int_sum_below-le}
use Rattle.integers.proofs.AtKey.{same_or_other, chosen, passed, int_sum_at-mul, pos-sum_at}

pub int_sum_at-le : (key : ℕ → ℕ) (k : ℕ) (f g : ℕ → ℤ) (n : ℕ) → ((i : ℕ) → i < n → key i ≡ k → f i ≤ℤ g i) → int_sum_at key k f n ≤ℤ int_sum_at key k g n
int_sum_at-le key k f g n h = int_sum_below-le (λ i. if key i == k then f i else pos 0) (λ i. if key i == k then g i else pos 0) n
    (λ i lt. elim (same_or_other (key i) k) [
      | inl e ↦ omega (arith, additive, chosen (key i) k (f i) (pos 0) e, chosen (key i) k (g i) (pos 0) e, h i lt e)
      | inr d ↦ omega (arith, additive, passed (key i) k (f i) (pos 0) d, passed (key i) k (g i) (pos 0) d)
    ])

-- a number times the weights at a key
pub weighed-even : (key : ℕ → ℕ) (k : ℕ) (a : ℤ) (weight : ℕ → ℕ) (n : ℕ) → int_sum_at key k (λ i. a *ℤ pos (weight i)) n ≡ a *ℤ pos (sum_at key k weight n)
weighed-even key k a weight n = int_sum_at-mul key k a (λ i. pos (weight i)) n ∙ ap (λ z. a *ℤ z) (pos-sum_at key k weight n)

-- a mean is no less than the least and no more than the greatest
pub mean-low : (key : ℕ → ℕ) (k : ℕ) (low : ℤ) (a : ℕ → ℤ) (weight : ℕ → ℕ) (n : ℕ) → ((i : ℕ) → i < n → key i ≡ k → low ≤ℤ a i)
    → (low *ℤ pos (sum_at key k weight n)) ≤ℤ int_sum_at key k (λ i. a i *ℤ pos (weight i)) n
mean-low key k low a weight n h =
    omega (arith, additive, weighed-even key k low weight n, int_sum_at-le key k (λ i. low *ℤ pos (weight i)) (λ i. a i *ℤ pos (weight i)) n (λ i lt e. le-mul_pos (weight i) low (a i) (h i lt e)))

pub mean-high : (key : ℕ → ℕ) (k : ℕ) (high : ℤ) (a : ℕ → ℤ) (weight : ℕ → ℕ) (n : ℕ) → ((i : ℕ) → i < n → key i ≡ k → a i ≤ℤ high)
    → int_sum_at key k (λ i. a i *ℤ pos (weight i)) n ≤ℤ (high *ℤ pos (sum_at key k weight n))
mean-high key k high a weight n h =
    omega (arith, additive, weighed-even key k high weight n, int_sum_at-le key k (λ i. a i *ℤ pos (weight i)) (λ i. high *ℤ pos (weight i)) n (λ i lt e. le-mul_pos (weight i) (a i) high (h i lt e)))

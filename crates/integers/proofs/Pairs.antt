-- Sums over the indices of each key: all keys together, pairs of indices of one key, and sums taken or left out as a whole.
use Rattle.std.proofs.Common.{◌≡◌, ℕ, ◌<◌, Bool, true, false, ◌==◌, if◌then◌else◌, ℤ, pos, arith, refl, sym, ap, ◌∙◌}
use Rattle.std.proofs.lemmas.Bool.Decides.{nat_tests}
use Rattle.integers.specs.Sums.{int_sum_below, int_sum_at}
use Rattle.integers.proofs.ByIndex.{int_sum_below-same, int_sum_below-swap}
use Rattle.integers.proofs.AtKey.{chosen, passed}
use Rattle.integers.proofs.ByNode.{int_sum_below-one, int_sum_below-nothing}

same_tests : (i j : ℕ) → (i == j) ≡ (j == i)
same_tests i j = grind (arith, nat_tests)

-- the sums at all keys together are the sum over all
pub int_sum_at-keys : (key : ℕ → ℕ) (f : ℕ → ℤ) (m n : ℕ) → ((i : ℕ) → i < n → key i < m) → int_sum_below (λ k. int_sum_at key k f n) m ≡ int_sum_below f n
int_sum_at-keys key f m n h =
    int_sum_below-swap (λ k i. if key i == k then f i else pos 0) m n
    ∙ int_sum_below-same (λ i. int_sum_below (λ k. if key i == k then f i else pos 0) m) f n (λ i lt.
    int_sum_below-one (λ k. if key i == k then f i else pos 0) (key i) m (h i lt) (λ k lk ne. passed (key i) k (f i) (pos 0) (λ e. ne (sym e)))
    ∙ chosen (key i) (key i) (f i) (pos 0) refl)

-- pairs of two indices that have one key, by the first and by the second
pub int_sum_at-swap : (f : ℕ → ℕ → ℤ) (a b : ℕ → ℕ) (m n : ℕ)
    → int_sum_below (λ i. int_sum_at b (a i) (f i) n) m ≡ int_sum_below (λ j. int_sum_at a (b j) (λ i. f i j) m) n
int_sum_at-swap f a b m n =
    int_sum_below-swap (λ i j. if b j == a i then f i j else pos 0) m n
    ∙ int_sum_below-same (λ j. int_sum_below (λ i. if b j == a i then f i j else pos 0) m) (λ j. int_sum_at a (b j) (λ i. f i j) m) n (λ j lj.
    int_sum_below-same (λ i. if b j == a i then f i j else pos 0) (λ i. if a i == b j then f i j else pos 0) m (λ i li.
    ap (λ t. if t then f i j else pos 0) (same_tests (b j) (a i))))

-- a sum that is taken or left out as a whole
pub int_sum_at-whole : (t : Bool) (key : ℕ → ℕ) (k : ℕ) (f : ℕ → ℤ) (n : ℕ) → int_sum_at key k (λ i. if t then f i else pos 0) n ≡ (if t then int_sum_at key k f n else pos 0)
int_sum_at-whole true key k f n = refl
int_sum_at-whole false key k f n = int_sum_below-nothing (λ i. if key i == k then pos 0 else pos 0) n (λ i lt. none (key i == k))
  where
    none : (b : Bool) → (if b then pos 0 else pos 0) ≡ pos 0
    none true = refl
    none false = refl

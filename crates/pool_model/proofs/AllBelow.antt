-- Laws of `all_below`.
use Rattle.std.proofs.Common.{◌≡◌, ℕ, zero, suc, ◌<◌, ◌⊎◌, inl, inr, Bool, true, false, ◌&&◌, arith, refl, ap, ◌∙◌}
use Rattle.pool_model.specs.Starting.{all_below}

-- what passes below a count passes at each number
pub all_below-each : (test : ℕ → Bool) (n i : ℕ) → all_below test n ≡ true → i < n → test i ≡ true
all_below-each test zero i a h = absurd (omega arith)
all_below-each test (suc n) i a h = elim (same_or_less i n h) [
  | inl e ↦ ap test e ∙ right (all_below test n) (test n) a
  | inr l ↦ all_below-each test n i (left (all_below test n) (test n) a) l
]
  where
    same_or_less : (i n : ℕ) → i < suc n → (i ≡ n) ⊎ (i < n)
    same_or_less i n h = grind arith

    left : (a b : Bool) → (a && b) ≡ true → a ≡ true
    left true b e = refl
    left false b e = e

    right : (a b : Bool) → (a && b) ≡ true → b ≡ true
    right true b e = e
    right false b e = cc

pub all_below-all : (test : ℕ → Bool) (n : ℕ) → ((i : ℕ) → i < n → test i ≡ true) → all_below test n ≡ true
all_below-all test zero h = refl
all_below-all test (suc n) h = both (all_below test n) (test n) (all_below-all test n (λ i lt. h i (omega arith))) (h n (omega arith))
  where
    both : (a b : Bool) → a ≡ true → b ≡ true → (a && b) ≡ true
    both true b e f = f
    both false b e f = e

-- a test that fails somewhere below the count fails
pub all_below-false : (test : ℕ → Bool) (n i : ℕ) → i < n → test i ≡ false → all_below test n ≡ false
all_below-false test n i lt h = fails (all_below test n) refl
  where
    fails : (b : Bool) → all_below test n ≡ b → all_below test n ≡ false
    fails true e = cc (all_below-each test n i e lt)
    fails false e = e

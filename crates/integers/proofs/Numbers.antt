-- Laws of `numbers_at`: which numbers stand in it, their order, one number more, and sums over them.
use Rattle.std.proofs.Common.{◌≡◌, ◌≢◌, ℕ, zero, suc, ◌+◌, ◌<◌, inl, inr, Bool, true, false, List, [], ◌∷◌, ◌++◌, ◌==◌, if◌then◌else◌, ℤ, pos, ◌+ℤ◌, add-one, refl, sym, ap, subst, ◌∙◌, arith}
use Rattle.std.specs.List.{All, AllPairs, Contains, sum_by}
use Rattle.std.proofs.lemmas.List.{append-nil}
use Rattle.std.proofs.lemmas.List.Sums.{sum_by-append, sum_by-cons}
use Rattle.std.proofs.lemmas.List.Elements.{All-nil, All-cons, All-append, All-weaker, Contains-append_left, Contains-append_right}
use Rattle.integers.specs.Sums.{int_sum_by, int_sum_at, sum_at}
use Rattle.integers.specs.Numbers.{numbers_at}
use Rattle.integers.proofs.Ring.{additive}
use Rattle.integers.proofs.AtKey.{same_or_other, chosen, passed}
use Rattle.integers.proofs.ByList.{int_sum_by-append}
use Rattle.integers.proofs.Pairwise.{AllPairs-nil, AllPairs-append}

-- ---- which numbers they are
pub numbers_at-each : (key : ℕ → ℕ) (k n : ℕ) → All (λ i. (i < n) × (key i ≡ k)) (numbers_at key k n)
numbers_at-each key k zero = All-nil (λ i. (i < zero) × (key i ≡ k))
numbers_at-each key k (suc n) =
    All-append (λ i. (i < suc n) × (key i ≡ k)) (numbers_at key k n) (if key n == k then n ∷ [] else [])
    (All-weaker (λ i. (i < n) × (key i ≡ k)) (λ i. (i < suc n) × (key i ≡ k)) (λ i h. (omega arith, h.1)) (numbers_at key k n) (numbers_at-each key k n))
    (elim (same_or_other (key n) k) [
      | inl e ↦ subst (λ (xs : List ℕ). All (λ i. (i < suc n) × (key i ≡ k)) xs) (sym (chosen (key n) k (n ∷ []) [] e))
          (All-cons (λ i. (i < suc n) × (key i ≡ k)) n [] (omega arith, e) (All-nil (λ i. (i < suc n) × (key i ≡ k))))
      | inr d ↦ subst (λ (xs : List ℕ). All (λ i. (i < suc n) × (key i ≡ k)) xs) (sym (passed (key n) k (n ∷ []) [] d)) (All-nil (λ i. (i < suc n) × (key i ≡ k)))
    ])

pub numbers_at-every : (key : ℕ → ℕ) (k n i : ℕ) → i < n → key i ≡ k → Contains (numbers_at key k n) i
numbers_at-every key k zero i lt is = absurd (omega arith)
numbers_at-every key k (suc n) i lt is = elim (same_or_other i n) [
  | inl e ↦ Contains-append_right (numbers_at key k n) (if key n == k then n ∷ [] else []) i
      (subst (λ (xs : List ℕ). Contains xs i) (sym (chosen (key n) k (n ∷ []) [] (sym (ap key e) ∙ is))) (0, omega arith, sym e))
  | inr d ↦ Contains-append_left (numbers_at key k n) (if key n == k then n ∷ [] else []) i (numbers_at-every key k n i (omega arith) is)
]

pub numbers_at-rise : (key : ℕ → ℕ) (k n : ℕ) → AllPairs (λ i j. i < j) (numbers_at key k n)
numbers_at-rise key k zero = AllPairs-nil (λ i j. i < j)
numbers_at-rise key k (suc n) = AllPairs-append (λ i j. i < j) (numbers_at key k n) (if key n == k then n ∷ [] else []) (numbers_at-rise key k n) last behind
  where
    last : AllPairs (λ i j. i < j) (if key n == k then n ∷ [] else [])
    last = elim (same_or_other (key n) k) [
      | inl e ↦ subst (λ (xs : List ℕ). AllPairs (λ i j. i < j) xs) (sym (chosen (key n) k (n ∷ []) [] e)) (λ i j d lt within. absurd (omega arith))
      | inr d ↦ subst (λ (xs : List ℕ). AllPairs (λ i j. i < j) xs) (sym (passed (key n) k (n ∷ []) [] d)) (AllPairs-nil (λ i j. i < j))
    ]

    at_end : (i : ℕ) → i < n → All (λ j. i < j) (if key n == k then n ∷ [] else [])
    at_end i lt = elim (same_or_other (key n) k) [
      | inl e ↦ subst (λ (xs : List ℕ). All (λ j. i < j) xs) (sym (chosen (key n) k (n ∷ []) [] e)) (All-cons (λ j. i < j) n [] lt (All-nil (λ j. i < j)))
      | inr d ↦ subst (λ (xs : List ℕ). All (λ j. i < j) xs) (sym (passed (key n) k (n ∷ []) [] d)) (All-nil (λ j. i < j))
    ]

    behind : All (λ i. All (λ j. i < j) (if key n == k then n ∷ [] else [])) (numbers_at key k n)
    behind = All-weaker (λ i. (i < n) × (key i ≡ k)) (λ i. All (λ j. i < j) (if key n == k then n ∷ [] else [])) (λ i h. at_end i h.0) (numbers_at key k n) (numbers_at-each key k n)

-- ---- one number more
pub numbers_at-yes : (key : ℕ → ℕ) (k n : ℕ) → key n ≡ k → numbers_at key k (n + 1) ≡ numbers_at key k n ++ n ∷ []
numbers_at-yes key k n e = ap (numbers_at key k) (add-one n) ∙ ap (λ xs. numbers_at key k n ++ xs) (chosen (key n) k (n ∷ []) [] e)

pub numbers_at-no : (key : ℕ → ℕ) (k n : ℕ) → key n ≢ k → numbers_at key k (n + 1) ≡ numbers_at key k n
numbers_at-no key k n e = ap (numbers_at key k) (add-one n) ∙ ap (λ xs. numbers_at key k n ++ xs) (passed (key n) k (n ∷ []) [] e) ∙ append-nil (numbers_at key k n)

-- by keys that are the same below the count
pub numbers_at-same : (key other : ℕ → ℕ) (k n : ℕ) → ((i : ℕ) → i < n → key i ≡ other i) → numbers_at key k n ≡ numbers_at other k n
numbers_at-same key other k zero h = refl
numbers_at-same key other k (suc n) h =
    ap (λ xs. xs ++ (if key n == k then n ∷ [] else [])) (numbers_at-same key other k n (λ i lt. h i (omega arith)))
    ∙ ap (λ z. numbers_at other k n ++ (if z == k then n ∷ [] else [])) (h n (omega arith))

-- ---- sums
pub numbers_at-sum : (f : ℕ → ℤ) (key : ℕ → ℕ) (k n : ℕ) → int_sum_by f (numbers_at key k n) ≡ int_sum_at key k f n
numbers_at-sum f key k zero = refl
numbers_at-sum f key k (suc n) =
    int_sum_by-append f (numbers_at key k n) (if key n == k then n ∷ [] else [])
    ∙ ap (λ z. z +ℤ int_sum_by f (if key n == k then n ∷ [] else [])) (numbers_at-sum f key k n)
    ∙ ap (λ z. int_sum_at key k f n +ℤ z) (one_or_none (key n == k) f n)
  where
    one_or_none : (b : Bool) (f : ℕ → ℤ) (n : ℕ) → int_sum_by f (if b then n ∷ [] else []) ≡ (if b then f n else pos 0)
    one_or_none true f n = omega (arith, additive)
    one_or_none false f n = refl

pub numbers_at-total : (f : ℕ → ℕ) (key : ℕ → ℕ) (k n : ℕ) → sum_by f (numbers_at key k n) ≡ sum_at key k f n
numbers_at-total f key k zero = refl
numbers_at-total f key k (suc n) =
    sum_by-append f (numbers_at key k n) (if key n == k then n ∷ [] else [])
    ∙ ap (λ z. z + sum_by f (if key n == k then n ∷ [] else [])) (numbers_at-total f key k n)
    ∙ ap (λ z. sum_at key k f n + z) (one (key n == k) f n)
  where
    one : (b : Bool) (f : ℕ → ℕ) (n : ℕ) → sum_by f (if b then n ∷ [] else []) ≡ (if b then f n else 0)
    one true f n = omega (arith, sum_by-cons f n [])
    one false f n = refl

-- Multipliers that stand in a list, added up as those of all rows by number.
use Rattle.std.proofs.Common.{◌≡◌, ◌≢◌, ◌∙◌, sym, ap, subst, ℕ, ◌<◌, ◌⊎◌, inl, inr, List, [], ◌∷◌, All, length, get_or, ◌==◌, if◌then◌else◌, ℤ, pos, ◌+ℤ◌, ◌*ℤ◌, arith, refl}
use Rattle.std.specs.List.{Contains}
use Rattle.std.proofs.Math.IntN.{*ℤ-zero, zero-*ℤ}
use Rattle.std.proofs.lemmas.Int.{ints}
use Rattle.std.proofs.lemmas.List.Elements.{All-head, All-tail, All-weaker, All-contains, All-from_get_or}
use Rattle.integers.specs.Sums.{int_sum_by, int_sum_below}
use Rattle.integers.proofs.Ring.{additive, add-mul}
use Rattle.integers.proofs.ByIndex.{int_sum_below-add, int_sum_below-same}
use Rattle.integers.proofs.ByList.{int_sum_by-index}
use Rattle.integers.proofs.ByNode.{int_sum_below-nothing, int_sum_below-one}
use Rattle.integers.proofs.AtKey.{chosen, passed}
use Rattle.exact_num.specs.Fraction.{Fraction}
use Rattle.run_laws.specs.Points.{IsTimes}
use Rattle.run_laws.specs.Parts.{amount_at, IsPartAt}

-- the key is the name of a number below the count
abbrev pub IsNamed : (ℕ → ℕ) → ℕ → ℕ → Type 0
IsNamed name count key = (r : ℕ) × (r < count) × (key ≡ name r)

module _ {X : Type 0} (key : X → ℕ) (amount : X → ℤ) where
  -- a sum over the list is one over the numbers, each with what the list has for its name
  pub parts-sum : (h : ℕ → ℤ) (name : ℕ → ℕ) (count : ℕ) (xs : List X) → ((i j : ℕ) → i < count → j < count → name i ≡ name j → i ≡ j)
      → All (λ x. IsNamed name count (key x)) xs
      → int_sum_by (λ x. amount x *ℤ h (key x)) xs ≡ int_sum_below (λ r. amount_at key amount xs (name r) *ℤ h (name r)) count
  parts-sum h name count [] apart named = sym (int_sum_below-nothing (λ r. pos 0 *ℤ h (name r)) count (λ r lt. zero-*ℤ (h (name r))))
  parts-sum h name count (x ∷ xs) apart named =
      let at : IsNamed name count (key x) = All-head (λ y. IsNamed name count (key y)) x xs named in
      let own = λ (r : ℕ). (if key x == name r then amount x else pos 0) *ℤ h (name r) in
      let others = λ (r : ℕ). amount_at key amount xs (name r) *ℤ h (name r) in
      let one : int_sum_below own count ≡ amount x *ℤ h (key x) =
      int_sum_below-one own at.0 count at.1
      (λ r lt ne. ap (λ (z : ℤ). z *ℤ h (name r)) (passed (key x) (name r) (amount x) (pos 0) (λ e. ne (apart r at.0 lt at.1 (sym e ∙ at.2)))) ∙ zero-*ℤ (h (name r)))
      ∙ ap (λ (z : ℤ). z *ℤ h (name at.0)) (chosen (key x) (name at.0) (amount x) (pos 0) at.2) ∙ ap (λ (k : ℕ). amount x *ℤ h k) (sym at.2) in
      omega (
        arith,
        additive,
        one,
        parts-sum h name count xs apart (All-tail (λ y. IsNamed name count (key y)) x xs named),
        int_sum_below-add own others count,
        int_sum_below-same (λ r. amount_at key amount (x ∷ xs) (name r) *ℤ h (name r)) (λ r. own r +ℤ others r) count
            (λ r lt. add-mul (if key x == name r then amount x else pos 0) (amount_at key amount xs (name r)) (h (name r))),
      )

  -- where keys rise, an element's key has what the element has
  pub amount-one : (xs : List X) (d : X) (i : ℕ) → ((a b : ℕ) → a < b → b < length xs → key (get_or xs a d) < key (get_or xs b d)) → i < length xs
      → amount_at key amount xs (key (get_or xs i d)) ≡ amount (get_or xs i d)
  amount-one xs d i rising lt =
      let k = key (get_or xs i d) in
      int_sum_by-index (λ x. if key x == k then amount x else pos 0) xs d
      ∙ int_sum_below-one (λ j. if key (get_or xs j d) == k then amount (get_or xs j d) else pos 0) i (length xs) lt
      (λ j lj ne. passed (key (get_or xs j d)) k (amount (get_or xs j d)) (pos 0) (elim (before_or_behind j i ne) [
        | inl before ↦ under (key (get_or xs j d)) k (rising j i before lt)
        | inr behind ↦ over (key (get_or xs j d)) k (rising i j behind lj)
      ]))
      ∙ chosen k k (amount (get_or xs i d)) (pos 0) refl
    where
      before_or_behind : (j i : ℕ) → j ≢ i → (j < i) ⊎ (i < j)
      before_or_behind j i ne = grind arith

      under : (m n : ℕ) → m < n → m ≢ n
      under m n lt e = omega (arith, lt, e)

      over : (m n : ℕ) → n < m → m ≢ n
      over m n lt e = omega (arith, lt, e)

  -- a key that no element has has nothing
  pub amount-none : (xs : List X) (k : ℕ) → All (λ x. key x ≢ k) xs → amount_at key amount xs k ≡ pos 0
  amount-none [] k h = refl
  amount-none (x ∷ xs) k h =
      omega (
        arith,
        additive,
        passed (key x) k (amount x) (pos 0) (All-head (λ y. key y ≢ k) x xs h),
        amount-none xs k (All-tail (λ y. key y ≢ k) x xs h),
      )

  -- ---- lists that leave out what is 0

  module _ (fractions : ℕ → Fraction → Type 0) (name : ℕ → ℕ) (times : ℤ) (apart : (i j : ℕ) (x y : Fraction) → fractions i x → fractions j y → name i ≡ name j → i ≡ j)
      (one : (i : ℕ) (x y : Fraction) → fractions i x → fractions i y → x ≡ y) where
    -- an element whose key is the name of a number has so many times the number's fraction
    same_fraction : (r : ℕ) (x : Fraction) → fractions r x → (q : X) (h : IsPartAt key amount fractions name times q) → key q ≡ name r → h.fraction ≡ x
    same_fraction r x there q h e =
        one r h.fraction x (subst (λ (i : ℕ). fractions i h.fraction) (apart h.number r h.fraction x h.listed there (sym h.key_is ∙ e)) h.listed) there

    -- What a list has for a name is so many times the number's fraction, where keys rise and each fraction that is not 0 has an element.
    pub amount-times : (xs : List X) (d : X) → ((a b : ℕ) → a < b → b < length xs → key (get_or xs a d) < key (get_or xs b d))
        → All (IsPartAt key amount fractions name times) xs → ((r : ℕ) (x : Fraction) → fractions r x → x.num ≢ pos 0 → (q : X) × Contains xs q × (key q ≡ name r))
        → (r : ℕ) (x : Fraction) → fractions r x → IsTimes times x (amount_at key amount xs (name r))
    amount-times xs d rising parts each r x there = elim (zero_or_other x.num) [
      | inl none ↦ nothing (amount_at key amount xs (name r)) (pos x.den) times x.num
          (amount-none xs (name r) (All-weaker (IsPartAt key amount fractions name times) (λ q. key q ≢ name r)
          (λ q h e. h.nonzero (ap (λ (y : Fraction). y.num) (same_fraction r x there q h e) ∙ none)) xs parts)) none
      | inr other ↦
          let found = each r x there other in
          let q : X = found.0 in
          let h : IsPartAt key amount fractions name times q = All-contains (IsPartAt key amount fractions name times) xs q parts found.1 in
          let amounts : All (λ y. amount_at key amount xs (key y) ≡ amount y) xs =
          All-from_get_or (λ y. amount_at key amount xs (key y) ≡ amount y) xs d (λ i lt. amount-one xs d i rising lt) in
          subst (λ (z : ℤ). IsTimes times x z) (sym (ap (amount_at key amount xs) (sym found.2) ∙ All-contains (λ y. amount_at key amount xs (key y) ≡ amount y) xs q amounts found.1))
          (subst (λ (y : Fraction). IsTimes times y (amount q)) (same_fraction r x there q h found.2) h.amount_is)
    ]
      where
        zero_or_other : (z : ℤ) → (z ≡ pos 0) ⊎ (z ≢ pos 0)
        zero_or_other z = grind (arith, ints)

        nothing : (a p n z : ℤ) → a ≡ pos 0 → z ≡ pos 0 → a *ℤ p ≡ n *ℤ z
        nothing a p n z e g = ap (λ (y : ℤ). y *ℤ p) e ∙ zero-*ℤ p ∙ sym (ap (λ (y : ℤ). n *ℤ y) g ∙ *ℤ-zero n)

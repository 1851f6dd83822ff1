-- Two first faults have one rank, and checks in order lead to the first fault.
use Rattle.std.proofs.Common.{◌≡◌, ℕ, suc, ◌<◌, ◌⊎◌, inl, inr, List, [], ◌∷◌, arith, refl, sym, ap, subst, ◌∙◌}
use Rattle.faults.specs.First.{IsBelow, IsFirst, IsFirstOf}

-- ---- one rank

less_same_more : (m n : ℕ) → (m < n) ⊎ (m ≡ n) ⊎ (n < m)
less_same_more m n = grind arith

below_same_above : (xs ys : List ℕ) → IsBelow xs ys ⊎ (xs ≡ ys) ⊎ IsBelow ys xs
below_same_above [] [] = inr (inl refl)
below_same_above [] (y ∷ ys) = inl tt
below_same_above (x ∷ xs) [] = inr (inr tt)
below_same_above (x ∷ xs) (y ∷ ys) = elim (less_same_more x y) [
  | inl less ↦ inl (inl less)
  | inr o ↦ elim o [
    | inl same ↦ elim (below_same_above xs ys) [
      | inl b ↦ inl (inr (same, b))
      | inr p ↦ elim p [ inl e ↦ inr (inl (ap (λ n. n ∷ xs) same ∙ ap (λ l. y ∷ l) e)) | inr a ↦ inr (inr (inr (sym same, a))) ]
    ]
    | inr more ↦ inr (inr (inl more))
  ]
]

pub one-rank : {F : Type 0} (rank : F → List ℕ) (Holds : F → Type 0) (f g : F) → IsFirst rank Holds f → IsFirst rank Holds g → rank f ≡ rank g
one-rank rank Holds f g a b = elim (below_same_above (rank f) (rank g)) [
  | inl below ↦ absurd (b.first f below a.holds)
  | inr o ↦ elim o [ inl same ↦ same | inr above ↦ absurd (a.first g above b.holds) ]
]

-- ---- the shapes of ranks

-- no fault holds whose number is below this one
pub record IsClear {F : Type 0} (number : F → ℕ) (Holds : F → Type 0) (count : ℕ) : Type 0 where
  pub none : (f : F) → number f < count → ¬ Holds f

-- faults of one cause, told apart by a number
pub record IsNumbered {F : Type 0} (number : F → ℕ) (about : F → List ℕ) (make : ℕ → F) : Type 0 where
  pub cause : (i : ℕ) → number (make i) ≡ number (make 0)
  pub value : (i : ℕ) → about (make i) ≡ i ∷ []
  pub only : (g : F) → number g ≡ number (make 0) → (i : ℕ) × (g ≡ make i)

-- faults of one cause, told apart by a kind, which has a place among the kinds, and a number
pub record IsKinded {F K : Type 0} (number : F → ℕ) (about : F → List ℕ) (place : K → ℕ) (make : K → ℕ → F) : Type 0 where
  pub cause : (k l : K) (i j : ℕ) → number (make k i) ≡ number (make l j)
  pub values : (k : K) (i : ℕ) → about (make k i) ≡ place k ∷ i ∷ []
  pub only : (g : F) (k : K) (i : ℕ) → number g ≡ number (make k i) → (l : K) × (j : ℕ) × (g ≡ make l j)
  pub same : (k l : K) → place k ≡ place l → k ≡ l

-- a rank that is below one or two numbers
not_below : (xs ys : List ℕ) → ys ≡ [] → ¬ IsBelow xs ys
not_below [] ys e h = subst (IsBelow []) e h
not_below (x ∷ xs) ys e h = subst (IsBelow (x ∷ xs)) e h

less_one : (m n : ℕ) → IsBelow (m ∷ []) (n ∷ []) → m < n
less_one m n (inl h) = h
less_one m n (inr h) = absurd h.1

less_two : (a b m n : ℕ) → IsBelow (a ∷ m ∷ []) (b ∷ n ∷ []) → (a < b) ⊎ ((a ≡ b) × (m < n))
less_two a b m n (inl h) = inl h
less_two a b m n (inr h) = inr (h.0, less_one m n h.1)

less_next : (m n : ℕ) → m < suc n → (m < n) ⊎ (m ≡ n)
less_next m n h = grind arith

kinded_none : {F K : Type 0} (place : K → ℕ) (Holds : F → Type 0) (make : K → ℕ → F) → ((k l : K) → place k ≡ place l → k ≡ l) → (k l : K) (i j : ℕ)
    → ((l : K) → place l < place k → (i : ℕ) → ¬ Holds (make l i)) → ((j : ℕ) → j < i → ¬ Holds (make k j))
    → (place l < place k) ⊎ ((place l ≡ place k) × (j < i)) → ¬ Holds (make l j)
kinded_none place Holds make same k l i j earlier here (inl less) = earlier l less j
kinded_none place Holds make same k l i j earlier here (inr h) = λ holds. here j h.1 (subst (λ m. Holds (make m j)) (same l k h.0) holds)

-- ---- checks in order: each that passes clears the number of its cause, and the one that fails has found the first fault

module _ {F : Type 0} {number : F → ℕ} {Holds : F → Type 0} where
  pub clear-start : IsClear number Holds 0
  clear-start = record { none = λ f less. absurd (omega arith) }

  pub clear-next : (c : ℕ) → IsClear number Holds c → ((f : F) → number f ≡ c → ¬ Holds f) → IsClear number Holds (suc c)
  clear-next c clear none = record { none = λ f less. elim (less_next (number f) c less) [ inl l ↦ clear.none f l | inr e ↦ none f e ] }

module _ {F : Type 0} {number : F → ℕ} {about : F → List ℕ} {Holds : F → Type 0} where
  -- a fault that holds, with none of an earlier number, and none of its number about less
  pub first-of : (f : F) → Holds f → IsClear number Holds (number f) → ((g : F) → number g ≡ number f → IsBelow (about g) (about f) → ¬ Holds g)
      → IsFirst (λ f. number f ∷ about f) Holds f
  first-of f holds clear none = record { holds = holds; first = λ g below. elim below [ inl less ↦ clear.none g less | inr same ↦ none g same.0 same.1 ] }

  -- a cause about nothing
  pub lone-first : (f : F) → about f ≡ [] → Holds f → IsClear number Holds (number f) → IsFirst (λ f. number f ∷ about f) Holds f
  lone-first f e holds clear = first-of f holds clear (λ g same below. absurd (not_below (about g) (about f) e below))

  -- a cause about a number, which a check finds by a property of its own
  pub numbered-next : {make : ℕ → F} → IsNumbered number about make → IsClear number Holds (number (make 0)) → ((i : ℕ) → ¬ Holds (make i))
      → IsClear number Holds (suc (number (make 0)))
  numbered-next {make = make} is clear none = clear-next (number (make 0)) clear (λ g same holds. let at = is.only g same in none at.0 (subst Holds at.1 holds))

  pub numbered-first : {make : ℕ → F} {P : ℕ → Type 0} → IsNumbered number about make → IsClear number Holds (number (make 0))
      → ((i : ℕ) → P i → Holds (make i)) → ((i : ℕ) → Holds (make i) → P i) → (f : F) → IsFirstOf make P f → IsFirst (λ f. number f ∷ about f) Holds f
  numbered-first {make = make} is clear to from f found =
      let k = found.at in
      let none : (g : F) → number g ≡ number (make k) → IsBelow (about g) (about (make k)) → ¬ Holds g =
      λ g same below holds.
      let at = is.only g (same ∙ is.cause k) in
      let beside : IsBelow (about g) (k ∷ []) = subst (IsBelow (about g)) (is.value k) below in
      let less : IsBelow (at.0 ∷ []) (k ∷ []) = subst (λ v. IsBelow v (k ∷ [])) (ap about at.1 ∙ is.value at.0) beside in
      found.first at.0 (less_one at.0 k less) (from at.0 (subst Holds at.1 holds)) in
      let before = subst (IsClear number Holds) (sym (is.cause k)) clear in
      subst (IsFirst (λ f. number f ∷ about f) Holds) (sym found.is) (first-of (make k) (to k found.has) before none)

  -- a cause about a kind and a number
  pub kinded-next : {K : Type 0} {place : K → ℕ} {make : K → ℕ → F} → IsKinded number about place make → (k : K) → IsClear number Holds (number (make k 0))
      → ((l : K) (i : ℕ) → ¬ Holds (make l i)) → IsClear number Holds (suc (number (make k 0)))
  kinded-next {make = make} is k clear none =
      clear-next (number (make k 0)) clear (λ g same holds. let at = is.only g k 0 same in none at.0 at.1 (subst Holds at.2 holds))

  pub kinded-first : {K : Type 0} {place : K → ℕ} {make : K → ℕ → F} {P : ℕ → Type 0} → IsKinded number about place make → (k : K)
      → IsClear number Holds (number (make k 0)) → ((l : K) → place l < place k → (i : ℕ) → ¬ Holds (make l i))
      → ((i : ℕ) → P i → Holds (make k i)) → ((i : ℕ) → Holds (make k i) → P i) → (f : F) → IsFirstOf (make k) P f → IsFirst (λ f. number f ∷ about f) Holds f
  kinded-first {place = place} {make = make} is k clear earlier to from f found =
      let i = found.at in
      let none : (g : F) → number g ≡ number (make k i) → IsBelow (about g) (about (make k i)) → ¬ Holds g =
      λ g same below holds.
      let at = is.only g k i same in
      let beside : IsBelow (about g) (place k ∷ i ∷ []) = subst (IsBelow (about g)) (is.values k i) below in
      let less : IsBelow (place at.0 ∷ at.1 ∷ []) (place k ∷ i ∷ []) = subst (λ v. IsBelow v (place k ∷ i ∷ [])) (ap about at.2 ∙ is.values at.0 at.1) beside in
      let here = λ (j : ℕ) (below : j < i) (holds : Holds (make k j)). found.first j below (from j holds) in
      kinded_none place Holds make is.same k at.0 i at.1 earlier here (less_two (place at.0) (place k) at.1 i less) (subst Holds at.2 holds) in
      let before = subst (IsClear number Holds) (is.cause k k 0 i) clear in
      subst (IsFirst (λ f. number f ∷ about f) Holds) (sym found.is) (first-of (make k i) (to i found.has) before none)

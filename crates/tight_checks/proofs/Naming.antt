-- Multipliers whose rows have a property.
use Rattle.std.proofs.Common.{◌≡◌, ℕ, zero, suc, ◌+◌, ◌<◌, ◌≤◌, ◌⊎◌, List, [], ◌∷◌, length, map, get_or, All, sym, subst, arith, inl, inr}
use Rattle.std.proofs.lemmas.List.Elements.{All-from_recursion, recursion_from_All}
use Rattle.std.specs.List.{AllByRecursion}
use Rattle.linear_program.specs.declared.multipliers.Part.{Part}
use Rattle.box_space.specs.Views.{shown_part}

-- the first so many have it
abbrev pub HaveBelow : (ℕ → Type 0) → List Part → ℕ → Type 0
HaveBelow P parts k = (i : ℕ) (d : Part) → i < k → i < length parts → P (get_or parts i d).row

module _ (P : ℕ → Type 0) where
  pub have_none : (parts : List Part) → HaveBelow P parts 0
  have_none parts i d lt within = absurd (omega arith)

  pub have_more : (parts : List Part) (k : ℕ) (x : Part) → HaveBelow P parts k → ((d : Part) → k < length parts → get_or parts k d ≡ x) → P x.row → HaveBelow P parts (k + 1)
  have_more parts k x h is p i d lt within = elim (order i k) [
    | inl less ↦ h i d less within
    | inr more ↦ let e : k ≡ i = omega arith in subst (λ (j : ℕ). P (get_or parts j d).row) e (subst (λ (y : Part). P y.row) (sym (is d (omega arith))) p)
  ]
    where
      order : (i k : ℕ) → (i < k) ⊎ (k ≤ i)
      order i k = grind arith

  by_items : (parts : List Part) → ((i : ℕ) (d : Part) → i < length parts → P (get_or parts i d).row) → AllByRecursion (λ q. P q.row) (map shown_part parts)
  by_items [] h = tt
  by_items (x ∷ xs) h = (h 0 x (omega arith), by_items xs (λ i d lt. h (suc i) d (omega (arith, lt))))

  pub have_all : (parts : List Part) (k : ℕ) → length parts ≤ k → HaveBelow P parts k → All (λ q. P q.row) (map shown_part parts)
  have_all parts k le h = All-from_recursion (λ q. P q.row) (map shown_part parts) (by_items parts (λ i d lt. h i d (omega arith) lt))

  items_by : (parts : List Part) → AllByRecursion (λ q. P q.row) (map shown_part parts) → (i : ℕ) (d : Part) → i < length parts → P (get_or parts i d).row
  items_by [] h i d lt = absurd (omega arith)
  items_by (x ∷ xs) h zero d lt = h.0
  items_by (x ∷ xs) h (suc i) d lt = items_by xs h.1 i d (omega (arith, lt))

  pub one_has : (parts : List Part) → All (λ q. P q.row) (map shown_part parts) → (i : ℕ) (d : Part) → i < length parts → P (get_or parts i d).row
  one_has parts h = items_by parts (recursion_from_All (λ q. P q.row) (map shown_part parts) h)

-- Lists of factors by column.
use Rattle.std.proofs.Common.{◌≡◌, ◌≢◌, ◌∙◌, sym, ap, refl, ℕ, ◌+◌, ◌<◌, ◌≤◌, ◌⊎◌, inl, inr, List, [], ◌∷◌, ◌++◌, if◌then◌else◌, ◌==◌, pos, arith, length, subst, Some, None, min, Bool, true, false}
use Rattle.std.proofs.lemmas.Bool.Decides.{nat_tests}
use Rattle.exact_num.specs.Fraction.{Fraction}
use Rattle.exact_num.specs.Views.{shown_frac}
use Rattle.exact_run.specs.Operations.{whole}
use Rattle.exact_pivots.specs.Entries.{factor_at, AreRising, AreBelow, HasFirst, next_of}
use Rattle.exact_num.specs.declared.frac.Frac.{Frac}
use Rattle.exact_pivots.proofs.Reduced.{zero_is}
use Rattle.exact_pivots.specs.declared.entry.Entry.{Entry}

pub passed : (i j : ℕ) (x y : Fraction) → i ≢ j → (if i == j then x else y) ≡ y
passed i j x y h = grind (arith, nat_tests)

pub chosen : (i j : ℕ) (x y : Fraction) → i ≡ j → (if i == j then x else y) ≡ x
chosen i j x y h = grind (arith, nat_tests)

pub same_or_other : (i j : ℕ) → (i ≡ j) ⊎ (i ≢ j)
same_or_other i j = grind arith

-- no factor stands below the first column
pub factor-gap : (xs : List Entry) (n j : ℕ) → AreRising n xs → j < n → factor_at xs j ≡ whole (pos 0)
factor-gap [] n j h lt = refl
factor-gap (e ∷ es) n j h lt = passed e.column j (shown_frac e.value) (factor_at es j) (omega (arith, h.0)) ∙ factor-gap es (e.column + 1) j h.2 (omega (arith, h.0))

-- one more at the end
pub rising-push : (xs : List Entry) (e : Entry) (n : ℕ) → AreRising n xs → AreBelow e.column xs → n ≤ e.column → (shown_frac e.value).num ≢ pos 0 → AreRising n (xs ++ e ∷ [])
rising-push [] e n h b le z = (le, z, tt)
rising-push (x ∷ xs) e n h b le z = (h.0, h.1, rising-push xs e (x.column + 1) h.2 b.1 (omega (arith, b.0)) z)

pub below-more : (xs : List Entry) (m n : ℕ) → m ≤ n → AreBelow m xs → AreBelow n xs
below-more [] m n le h = tt
below-more (x ∷ xs) m n le h = (omega (arith, h.0), below-more xs m n le h.1)

pub below-push : (xs : List Entry) (e : Entry) → AreBelow e.column xs → AreBelow (e.column + 1) (xs ++ e ∷ [])
below-push [] e h = (omega arith, tt)
below-push (x ∷ xs) e h = (omega (arith, h.0), below-push xs e h.1)

pub factor-push : (xs : List Entry) (e : Entry) (j : ℕ) → AreBelow e.column xs → factor_at (xs ++ e ∷ []) j ≡ (if e.column == j then shown_frac e.value else factor_at xs j)
factor-push [] e j h = refl
factor-push (x ∷ xs) e j h = elim (same_or_other x.column j) [
  | inl eq ↦ chosen x.column j (shown_frac x.value) (factor_at (xs ++ e ∷ []) j) eq ∙ sym (passed e.column j (shown_frac e.value) (factor_at (x ∷ xs) j) (omega (arith, h.0)) ∙ chosen x.column j (shown_frac x.value) (factor_at xs j) eq)
  | inr ne ↦ passed x.column j (shown_frac x.value) (factor_at (xs ++ e ∷ []) j) ne ∙ factor-push xs e j h.1 ∙ ap (λ (y : Fraction). if e.column == j then shown_frac e.value else y) (sym (passed x.column j (shown_frac x.value) (factor_at xs j) ne))
]

-- columns above all have no factor
pub factor-above : (xs : List Entry) (n j : ℕ) → AreBelow n xs → n ≤ j → factor_at xs j ≡ whole (pos 0)
factor-above [] n j h le = refl
factor-above (x ∷ xs) n j h le = passed x.column j (shown_frac x.value) (factor_at xs j) (omega (arith, h.0)) ∙ factor-above xs n j h.1 le

-- a list whose first column is another, and none of whose columns is below it, has no factor there
pub factor-passed : (xs ys : List Entry) (e : Entry) (j : ℕ) → xs ≡ e ∷ ys → AreRising j xs → e.column ≢ j → factor_at xs j ≡ whole (pos 0)
factor-passed xs ys e j eq h ne =
    let r : AreRising j (e ∷ ys) = subst (AreRising j) eq h in
    ap (λ (l : List Entry). factor_at l j) eq ∙ passed e.column j (shown_frac e.value) (factor_at ys j) ne ∙ factor-gap ys (e.column + 1) j r.2 (omega (arith, r.0))

-- a factor of numerator 0 is one that the list has not
pub factor-zero : (xs : List Entry) (n j : ℕ) → AreRising n xs → (factor_at xs j).num ≡ pos 0 → factor_at xs j ≡ whole (pos 0)
factor-zero [] n j h z = refl
factor-zero (e ∷ es) n j h z = elim (same_or_other e.column j) [
  | inl eq ↦ absurd (h.1 (sym (ap (λ (x : Fraction). x.num) (chosen e.column j (shown_frac e.value) (factor_at es j) eq)) ∙ z))
  | inr ne ↦ let p = passed e.column j (shown_frac e.value) (factor_at es j) ne in p ∙ factor-zero es (e.column + 1) j h.2 (sym (ap (λ (x : Fraction). x.num) p) ∙ z)
]

-- ---- the first column of two lists

pub record IsNext (left right : List Entry) (n c : ℕ) : Type 0 where
  pub least : n ≤ c
  pub left_rising : AreRising c left
  pub right_rising : AreRising c right
  pub first : HasFirst c left ⊎ HasFirst c right

one_of_two : (a b c : ℕ) → c ≡ min a b → (a ≡ c) ⊎ (b ≡ c)
one_of_two a b c h = grind arith

pub next-is : (left right : List Entry) (n c : ℕ) → AreRising n left → AreRising n right → Some c ≡ next_of left right → IsNext left right n c
next-is [] [] n c h k e = cc
next-is [] (b ∷ bs) n c h k e =
    let at : b.column ≡ c = cc in
    record { least = omega (arith, k.0); left_rising = tt; right_rising = (omega arith, k.1, k.2); first = inr at }
next-is (a ∷ as_) [] n c h k e =
    let at : a.column ≡ c = cc in
    record { least = omega (arith, h.0); left_rising = (omega arith, h.1, h.2); right_rising = tt; first = inl at }
next-is (a ∷ as_) (b ∷ bs) n c h k e =
    let at : c ≡ min a.column b.column = cc in
    record {
      least = omega (arith, h.0, k.0);
      left_rising = (omega arith, h.1, h.2);
      right_rising = (omega arith, k.1, k.2);
      first = one_of_two a.column b.column c at;
    }

pub next-none : (left right : List Entry) → None ≡ next_of left right → (left ≡ []) × (right ≡ [])
next-none [] [] e = (refl, refl)
next-none [] (b ∷ bs) e = cc
next-none (a ∷ as_) [] e = cc
next-none (a ∷ as_) (b ∷ bs) e = cc

-- a factor of 0 set on a column past all is as before
pub factor-nothing_pushed : (xs : List Entry) (column : ℕ) (value : Frac) (j : ℕ) → AreBelow column xs → (shown_frac value).num ≡ pos 0 → factor_at xs j ≡ (if column == j then shown_frac value else factor_at xs j)
factor-nothing_pushed xs column value j b z = elim (same_or_other column j) [
  | inl eq ↦ factor-above xs column j b (omega arith) ∙ sym (chosen column j (shown_frac value) (factor_at xs j) eq ∙ zero_is value z)
  | inr ne ↦ sym (passed column j (shown_frac value) (factor_at xs j) ne)
]

-- a list that was given one more, or was not
pub rising-kept : (b : Bool) (old new : List Entry) (e : Entry) → new ≡ (if b then old ++ e ∷ [] else old) → AreRising 0 old → AreBelow e.column old → (shown_frac e.value).num ≢ pos 0 → AreRising 0 new
rising-kept true old new e is h b z = subst (AreRising 0) (sym is) (rising-push old e 0 h b (omega arith) z)
rising-kept false old new e is h b z = subst (AreRising 0) (sym is) h

pub first-least : (xs ys : List Entry) (e : Entry) (n : ℕ) → xs ≡ e ∷ ys → AreRising n xs → n ≤ e.column
first-least xs ys e n eq h = let r : AreRising n (e ∷ ys) = subst (AreRising n) eq h in r.0

pub empty-is : {X : Type 0} (xs : List X) → length xs ≡ 0 → xs ≡ []
empty-is [] h = refl
empty-is (e ∷ es) h = absurd (omega arith)

pub first-factor : (xs ys : List Entry) (e : Entry) → xs ≡ e ∷ ys → factor_at xs e.column ≡ shown_frac e.value
first-factor xs ys e eq = ap (λ (l : List Entry). factor_at l e.column) eq ∙ chosen e.column e.column (shown_frac e.value) (factor_at ys e.column) refl

pub first-other : (xs ys : List Entry) (e : Entry) (n : ℕ) → xs ≡ e ∷ ys → AreRising n xs → (shown_frac e.value).num ≢ pos 0
first-other xs ys e n eq h = let r : AreRising n (e ∷ ys) = subst (AreRising n) eq h in r.1

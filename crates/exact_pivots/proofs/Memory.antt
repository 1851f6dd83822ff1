-- What programs and states in memory say.
use Rattle.std.proofs.Common.{◌≡◌, ◌≢◌, ◌∙◌, sym, ap, subst, refl, ℕ, zero, suc, ◌-◌, ◌<◌, inl, inr, List, [], ◌∷◌, map, get_or, set, length, arith, ℤ, pos, Bool, true, false, Some, unsigned_abs, ◌^◌, to_z, of_z, FitsSigned, rules, IsTrue, ◌↔◌}
use Rattle.std.proofs.lemmas.List.{get_or-map, get_or-set_same, get_or-set_other, map-set, length-set}
use Rattle.std.proofs.lemmas.Int.{to_z-of_z}
use mir.Syntax.{w128}
use Rattle.integers.proofs.AtKey.{same_or_other}
use Rattle.exact_num.specs.Fraction.{Fraction}
use Rattle.exact_num.specs.Views.{shown_frac}
use Rattle.exact_run.specs.Operations.{whole, IsReduced}
use Rattle.exact_run.specs.Programs.{Program, low_end, high_end}
use Rattle.exact_run.specs.Steps.{IsBelow, IsPast}
use Rattle.exact_run.specs.declared.ends.End.{End}
use Rattle.exact_run.specs.declared.ends.End.TheVariants.{Low, High}
use Rattle.exact_pivots.specs.Entries.{factor_at}
use Rattle.exact_pivots.specs.Views.{Shown, shown_line, line_at, stands_at, state_of}
use Rattle.exact_pivots.specs.declared.entry.Entry.{Entry}
use Rattle.exact_pivots.specs.declared.tableau.Line.{Line}
use Rattle.exact_pivots.specs.declared.tableau.Tableau.{Tableau}
use Rattle.exact_pivots.proofs.Entries.{chosen, passed}
use Rattle.exact_pivots.proofs.Reduced.{frac-self, whole-reduced}
use Rattle.exact_pivots.proofs.PivotThere.{IsLowestState}

-- ---- all numbers are in lowest terms

pub factor_low : (es : List Entry) (j : ℕ) → IsReduced (factor_at es j) (factor_at es j)
factor_low [] j = whole-reduced (pos 0)
factor_low (e ∷ es) j = elim (same_or_other e.column j) [
  | inl eq ↦ subst (λ (x : Fraction). IsReduced x x) (sym (chosen e.column j (shown_frac e.value) (factor_at es j) eq)) (frac-self e.value)
  | inr ne ↦ subst (λ (x : Fraction). IsReduced x x) (sym (passed e.column j (shown_frac e.value) (factor_at es j) ne)) (factor_low es j)
]

record IsLowestLine (l : Shown) : Type 0 where
  value : IsReduced l.value l.value
  factor : (j : ℕ) → IsReduced (l.factor j) (l.factor j)

line_low : (ls : List Line) (r : ℕ) → IsLowestLine (line_at ls r)
line_low [] r = record { value = whole-reduced (pos 0); factor = λ j. whole-reduced (pos 0) }
line_low (l ∷ ls) zero = record { value = frac-self l.value; factor = factor_low l.factors.entries.items }
line_low (l ∷ ls) (suc r) = line_low ls r

pub state_low : (t : Tableau) → IsLowestState (state_of t)
state_low t = record {
  value = λ r. (line_low t.lines.items r).value;
  factor = λ r. (line_low t.lines.items r).factor;
  cost = factor_low t.cost.entries.items;
}

-- ---- lines

pub line_is : (ls : List Line) (r : ℕ) (l : Line) → r < length ls → l ≡ get_or ls r l → shown_line l ≡ line_at ls r
line_is ls r l lt is = ap shown_line is ∙ sym (get_or-map shown_line ls r l _ lt)

pub line_at-set : (ls : List Line) (r : ℕ) (l : Line) → r < length ls → line_at (set ls r l) r ≡ shown_line l
line_at-set ls r l lt = get_or-map shown_line (set ls r l) r l _ (omega (arith, length-set ls r l)) ∙ ap shown_line (get_or-set_same ls r l l lt)

pub line_at-other : (ls : List Line) (r q : ℕ) (l : Line) → q ≢ r → line_at (set ls r l) q ≡ line_at ls q
line_at-other ls r q l ne = ap (λ (xs : List Shown). get_or xs q record { basic = 0; value = whole (pos 0); factor = λ j. whole (pos 0) }) (map-set shown_line ls r l)
    ∙ get_or-set_other (map shown_line ls) r q (shown_line l) _ ne

-- ---- what is read

pub read_is : (z : ℤ) → unsigned_abs z < 2 ^ 127 → to_z w128 (of_z w128 z) ≡ z
read_is z h = let fits : FitsSigned w128 z = search rules in simp to_z-of_z refl

any_default : (es : List End) (j : ℕ) (d e : End) → j < length es → get_or es j d ≡ get_or es j e
any_default [] j d e lt = absurd (omega arith)
any_default (x ∷ xs) zero d e lt = refl
any_default (x ∷ xs) (suc j) d e lt = any_default xs j d e (omega arith)

pub stands_is : (es : List End) (j : ℕ) (e : End) → j < length es → e ≡ get_or es j e → e ≡ stands_at es j
stands_is es j e lt is = is ∙ any_default es j e Low lt

-- ---- a place's column is past an end, or past none

module _ (p : Program) (t : Tableau) (q : ℕ) (line : Line) (is : shown_line line ≡ line_at t.lines.items q) where
  pub past_high : (high read : ℤ) (w : Fraction) → high_end p line.basic ≡ Some high → read ≡ high → w ≡ whole read → IsBelow w (shown_frac line.value)
      → IsPast p (state_of t) q High read
  past_high high read w at e we lt =
      subst (λ (x : Shown). (high_end p x.basic ≡ Some read) × IsBelow (whole read) x.value) is
      (at ∙ ap (λ (z : ℤ). Some z) (sym e), subst (λ (x : Fraction). IsBelow x (shown_frac line.value)) we lt)

  pub past_none : (low high read : ℤ) (v w : Fraction) → low ≡ low_end p line.basic → v ≡ whole low → (IsBelow (shown_frac line.value) v → ⊥)
      → high_end p line.basic ≡ Some high → read ≡ high → w ≡ whole read → (IsBelow w (shown_frac line.value) → ⊥)
      → (side : End) (e : ℤ) → IsPast p (state_of t) q side e → ⊥
  past_none low high read v w low_is v_is not_low at e_is w_is not_high Low e past =
      let h = subst (λ (x : Shown). (low_end p x.basic ≡ e) × IsBelow x.value (whole e)) (sym is) past in
      not_low (subst (λ (x : Fraction). IsBelow (shown_frac line.value) x) (sym (v_is ∙ ap whole (low_is ∙ h.0))) h.1)
  past_none low high read v w low_is v_is not_low at e_is w_is not_high High e past =
      let h = subst (λ (x : Shown). (high_end p x.basic ≡ Some e) × IsBelow (whole e) x.value) (sym is) past in
      let same : high ≡ e = inner high e (sym at ∙ h.0) in
      not_high (subst (λ (x : Fraction). IsBelow x (shown_frac line.value)) (sym (w_is ∙ ap whole (e_is ∙ same))) h.1)
    where
      inner : (a b : ℤ) → Some a ≡ Some b → a ≡ b
      inner a b h = cc

pub not_true : (b : Bool) (P : Type 0) → (IsTrue b ↔ P) → b ≡ false → P → ⊥
not_true b P h e there = let k : IsTrue b = h.1 there in clash b k e
  where
    clash : (b : Bool) → IsTrue b → b ≡ false → ⊥
    clash true k e = cc
    clash false k e = cc

-- a number that is the same as a short one fits
pub fits_is : (z y : ℤ) → z ≡ y → unsigned_abs y < 2 ^ 127 → FitsSigned w128 z
fits_is z y e h = let short : unsigned_abs z < 2 ^ 127 = subst (λ (k : ℤ). unsigned_abs k < 2 ^ 127) (sym e) h in search rules

-- what is read of it is that
pub read_as : (z y : ℤ) → z ≡ y → unsigned_abs y < 2 ^ 127 → to_z w128 (of_z w128 z) ≡ y
read_as z y e h = read_is z (subst (λ (k : ℤ). unsigned_abs k < 2 ^ 127) (sym e) h) ∙ e

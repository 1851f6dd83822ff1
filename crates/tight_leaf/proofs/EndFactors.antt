-- The multipliers of the states at which a run ends, from the factors on the rows' columns.
use Rattle.std.proofs.Common.{◌≡◌, ◌≢◌, ℕ, ◌*◌, ◌^◌, ◌<◌, ◌∙◌, inl, inr, ℤ, pos, neg_ℤ, unsigned_abs, Result, Err, IsErrOf, ◌↔◌, sym, ap, subst, refl, arith}
use Rattle.std.specs.Int.{◌∣◌}
use Rattle.std.proofs.Math.IntN.{neg_ℤ-neg_ℤ}
use Rattle.std.proofs.Math.Nat.{dvd-mul_right}
use Rattle.std.proofs.lemmas.Nat.Gcd.{dvd_refl}
use Rattle.std.proofs.lemmas.Int.{ints}
use Rattle.integers.specs.Divisors.{IsCoprime}
use Rattle.integers.proofs.AtKey.{same_or_other}
use Rattle.exact_num.specs.Fraction.{Fraction, IsLowest, IsSame, LeavesRange, negative_of, ratio_of}
use Rattle.exact_num.specs.Views.{shown_frac}
use Rattle.exact_num.specs.declared.frac.Frac.{Frac}
use Rattle.exact_num.specs.declared.frac.FracFault.{FracFault}
use Rattle.exact_num.specs.declared.frac.FracFault.TheVariants.{Wide, ZeroDivisor}
use Rattle.exact_run.specs.Operations.{whole}
use Rattle.exact_run.specs.Programs.{Program, columns, row_column}
use Rattle.exact_run.specs.States.{State}
use Rattle.exact_run.specs.Runs.{turned_for}
use Rattle.exact_run.specs.declared.ends.End.{End}
use Rattle.exact_run.specs.declared.ends.End.TheVariants.{Low, High}
use Rattle.exact_pivots.specs.Fits.{IsTidy}
use Rattle.exact_pivots.proofs.PivotThere.{IsLowestState}
use Rattle.exact_pivots.proofs.Reduced.{lowest-unique}
use Rattle.tight_leaf.specs.Parts.{is_turned, signed}
use Rattle.tight_leaf.specs.Proofs.{IsMultiplier, IsMultiplierPast}
use Rattle.tight_leaf.proofs.Parts.{neg-zero}
use Rattle.tight_leaf.proofs.Values.{basic_or_free}

-- a fraction in lowest terms of numerator 0 has denominator 1
zero-den : (x : Fraction) → IsLowest x → x.num ≡ pos 0 → x.den ≡ 1
zero-den x h z = h x.den (subst (λ (k : ℕ). x.den ∣ k) nothing (dvd-mul_right x.den 0)) (dvd_refl x.den)
  where
    nothing : x.den * 0 ≡ unsigned_abs x.num
    nothing = omega (arith, ap unsigned_abs z)

module _ (p : Program) (s : State) (tidy : IsTidy p s) (low : IsLowestState s) where
  among : (r : ℕ) → r < p.rows → row_column p r < columns p
  among r lt = omega (arith, lt)

  -- ---- after a point

  pub solved-has : (r : ℕ) → r < p.rows → (s.cost (row_column p r)).num ≢ pos 0 → IsMultiplier p s r (s.cost (row_column p r))
  solved-has r lt nz = (lt, record { basic = λ q within e. absurd ((tidy.cost (row_column p r) nz).free q within e); free = λ h. refl })

  pub solved-only : (r : ℕ) (x : Fraction) → IsMultiplier p s r x → x.num ≢ pos 0 → (r < p.rows) × ((s.cost (row_column p r)).num ≢ pos 0) × (x ≡ s.cost (row_column p r))
  solved-only r x h nz = elim (basic_or_free p s (row_column p r) (among r h.0)) [
    | inl w ↦ absurd (nz (ap (λ (y : Fraction). y.num) (h.1.basic w.0 w.1 w.2)))
    | inr fr ↦ (h.0, subst (λ (y : Fraction). y.num ≢ pos 0) (h.1.free fr) nz, h.1.free fr)
  ]

  pub solved-none : (r : ℕ) (x : Fraction) → IsMultiplier p s r x → x.num ≡ pos 0 → x.den ≡ 1
  solved-none r x h z = elim (basic_or_free p s (row_column p r) (among r h.0)) [
    | inl w ↦ ap (λ (y : Fraction). y.den) (h.1.basic w.0 w.1 w.2)
    | inr fr ↦
        let e = h.1.free fr in
        ap (λ (y : Fraction). y.den) e ∙ zero-den (s.cost (row_column p r)) (low.cost (row_column p r)).lowest (sym (ap (λ (y : Fraction). y.num) e) ∙ z)
  ]

  -- ---- where there is none

  twice : (x : Fraction) → x ≡ negative_of (negative_of x)
  twice x = ap (λ (z : ℤ). make z) (sym (neg_ℤ-neg_ℤ x.num))
    where
      make : ℤ → Fraction
      make z = record { num = z; den = x.den }

  signed-is : (side : End) (x : Fraction) → signed (is_turned side) x ≡ turned_for side (negative_of x)
  signed-is Low x = refl
  signed-is High x = twice x

  turned-zero : (side : End) (x : Fraction) → (turned_for side (negative_of x)).num ≡ pos 0 → x.num ≡ pos 0
  turned-zero Low x e = neg-zero x.num e
  turned-zero High x e = neg-zero x.num (neg-zero (neg_ℤ x.num) e)

  turned-nothing : (side : End) (x : Fraction) → x.num ≡ pos 0 → (turned_for side (negative_of x)).num ≡ pos 0
  turned-nothing Low x e = ap neg_ℤ e
  turned-nothing High x e = ap (λ (z : ℤ). neg_ℤ (neg_ℤ z)) e

  turned-den : (side : End) (x : Fraction) → (turned_for side x).den ≡ x.den
  turned-den Low x = refl
  turned-den High x = refl

  module _ (place : ℕ) (side : End) (there : place < p.rows) where
    own-is : (r : ℕ) → s.basic place ≡ row_column p r → signed (is_turned side) (s.factor place (row_column p r)) ≡ turned_for side (whole (pos 1))
    own-is r e = signed-is side (s.factor place (row_column p r)) ∙ ap (λ (x : Fraction). turned_for side (negative_of x)) (ap (s.factor place) (sym e) ∙ tidy.own place there)

    pub past-has : (r : ℕ) → r < p.rows → (s.factor place (row_column p r)).num ≢ pos 0 → IsMultiplierPast p s place side r (signed (is_turned side) (s.factor place (row_column p r)))
    past-has r lt nz = (
      lt,
      record {
        own = own-is r;
        basic = λ q within ne e. absurd (elim (tidy.lines place (row_column p r) there nz) [
          | inl fr ↦ fr.free q within e
          | inr at ↦ tidy.apart q place within there ne (e ∙ at)
        ]);
        free = λ fr. signed-is side (s.factor place (row_column p r));
      },
    )

    pub past-only : (r : ℕ) (x : Fraction) → IsMultiplierPast p s place side r x → x.num ≢ pos 0
        → (r < p.rows) × ((s.factor place (row_column p r)).num ≢ pos 0) × (x ≡ signed (is_turned side) (s.factor place (row_column p r)))
    past-only r x h nz = elim (basic_or_free p s (row_column p r) (among r h.0)) [
      | inl w ↦ elim (same_or_other w.0 place) [
        | inl at ↦
            let e : s.basic place ≡ row_column p r = ap s.basic (sym at) ∙ w.2 in
            let is : x ≡ signed (is_turned side) (s.factor place (row_column p r)) = h.1.own e ∙ sym (own-is r e) in
            (h.0, subst (λ (y : Fraction). y.num ≢ pos 0) (sym (ap (s.factor place) (sym e) ∙ tidy.own place there)) minus_one, is)
        | inr ne ↦ absurd (nz (ap (λ (y : Fraction). y.num) (h.1.basic w.0 w.1 ne w.2)))
      ]
      | inr fr ↦
          let e = h.1.free fr in
          (h.0, λ z. nz (ap (λ (y : Fraction). y.num) e ∙ turned-nothing side (s.factor place (row_column p r)) z), e ∙ sym (signed-is side (s.factor place (row_column p r))))
    ]
      where
        minus_one : neg_ℤ (pos 1) ≢ pos 0
        minus_one e = cc

    pub past-none : (r : ℕ) (x : Fraction) → IsMultiplierPast p s place side r x → x.num ≡ pos 0 → x.den ≡ 1
    past-none r x h z = elim (basic_or_free p s (row_column p r) (among r h.0)) [
      | inl w ↦ elim (same_or_other w.0 place) [
        | inl at ↦ ap (λ (y : Fraction). y.den) (h.1.own (ap s.basic (sym at) ∙ w.2)) ∙ turned-den side (whole (pos 1))
        | inr ne ↦ ap (λ (y : Fraction). y.den) (h.1.basic w.0 w.1 ne w.2)
      ]
      | inr fr ↦
          let e = h.1.free fr in
          let x = s.factor place (row_column p r) in
          ap (λ (y : Fraction). y.den) e ∙ turned-den side (negative_of x)
          ∙ zero-den x (low.factor place (row_column p r)).lowest (turned-zero side x (sym (ap (λ (y : Fraction). y.num) e) ∙ z))
    ]

-- ---- the other sign

size-neg : (z : ℤ) → unsigned_abs (neg_ℤ z) ≡ unsigned_abs z
size-neg z = omega (arith, ints)

pub negative-is : (g f : Frac) (m d : ℤ) → m ≡ neg_ℤ f.num → d ≡ pos f.den → IsSame (shown_frac g) (ratio_of m d) → shown_frac g ≡ negative_of (shown_frac f)
negative-is g f m d me de h =
    lowest-unique (shown_frac g) (negative_of (shown_frac f)) g.positive f.positive g.lowest (subst (λ (k : ℕ). IsCoprime k f.den) (sym (size-neg f.num)) f.lowest)
    (subst (λ (y : ℤ). IsSame (shown_frac g) (ratio_of (neg_ℤ f.num) y)) de (subst (λ (x : ℤ). IsSame (shown_frac g) (ratio_of x d)) me h))

IsErr-here : (r : Result Frac FracFault) (e : FracFault) → r ≡ Err e → IsErrOf r e
IsErr-here r e is = subst (λ (s : Result Frac FracFault). IsErrOf s e) (sym is) refl

pub negative-never_refused : (r : Result Frac FracFault) (e : FracFault) (f : Frac) (m d : ℤ) → r ≡ Err e → m ≡ neg_ℤ f.num → d ≡ pos f.den
    → (IsErrOf r ZeroDivisor ↔ (d ≡ pos 0)) → (IsErrOf r Wide → LeavesRange (ratio_of m d)) → ⊥
negative-never_refused r ZeroDivisor f m d is me de none wide = above f.den f.positive (sym de ∙ none.0 (IsErr-here r ZeroDivisor is))
  where
    above : (k : ℕ) → 0 < k → pos k ≡ pos 0 → ⊥
    above k h e = omega (arith, ints, h, e)
negative-never_refused r Wide f m d is me de none wide =
    subst (λ (y : ℤ). LeavesRange (ratio_of (neg_ℤ f.num) y)) de (subst (λ (x : ℤ). LeavesRange (ratio_of x d)) me (wide (IsErr-here r Wide is)))
    (negative_of (shown_frac f)) record { num = subst (λ (k : ℕ). k < 2 ^ 127) (sym (size-neg f.num)) f.short_num; den = f.short_den; positive = f.positive } refl

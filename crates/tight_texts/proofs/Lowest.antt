-- Whether two numbers are those of a fraction in lowest terms.
use Rattle.std.proofs.Common.{◌≡◌, ℕ, ◌*◌, ◌<◌, ◌-◌, Bool, true, false, Result, Err, refl, sym, ap, subst, ◌∙◌, arith}
use Rattle.std.specs.Prelude.{ℤ, pos, negsuc, ◌*ℤ◌, ◌≤ℤ◌, ◌<ℤ◌, ◌↔◌, unsigned_abs, IsErrOf, FitsSigned}
use Rattle.std.specs.Int.{w128}
use Rattle.std.proofs.lemmas.Int.{ints, unsigned_abs-mul}
use Rattle.integers.proofs.Order.{same-cancel}
use Rattle.integers.proofs.Ring.{sorted}
use Rattle.exact_num.specs.Fraction.{IsSame, IsShort, LeavesRange, ratio_of}
use Rattle.exact_num.specs.Views.{shown_frac}
use Rattle.exact_num.specs.declared.frac.Frac.{Frac}
use Rattle.exact_num.specs.declared.frac.FracFault.{FracFault}
use Rattle.exact_num.specs.declared.frac.FracFault.TheVariants as faults
use Rattle.exact_num.proofs.Laws.{least_terms}
use Rattle.tight_texts.specs.Reading.{is_lowest}
use Rattle.tight_texts.proofs.Fractions.{lowest_is, lowest_again}

pub lowest_yes : (f : Frac) (num den : ℤ) → f.num ≡ num → pos f.den ≡ den → (is_lowest num (unsigned_abs den) ≡ true) × (shown_frac f ≡ record { num = num; den = unsigned_abs den })
lowest_yes f num den e d =
    subst (λ (n : ℤ). (is_lowest n (unsigned_abs den) ≡ true) × (shown_frac f ≡ record { num = n; den = unsigned_abs den })) e
    (subst (λ (m : ℤ). (is_lowest f.num (unsigned_abs m) ≡ true) × (shown_frac f ≡ record { num = f.num; den = unsigned_abs m })) d (lowest_again f.num f.den f.positive f.lowest, refl))

positive : (n : ℕ) → 0 < n → pos 0 <ℤ pos n
positive n h = omega (arith, ints)

pub lowest_no : (f : Frac) (num den : ℤ) → pos 0 ≤ℤ den → IsSame (shown_frac f) (ratio_of num den) → (f.num ≡ num → pos f.den ≡ den → ⊥) → is_lowest num (unsigned_abs den) ≡ false
lowest_no f num (negsuc d) h same other = absurd (omega (arith, ints))
lowest_no f num (pos d) h same other = by_test (is_lowest num d) refl
  where
    sizes : (m n : ℤ) (e k : ℕ) → m *ℤ pos k ≡ n *ℤ pos e → unsigned_abs m * k ≡ unsigned_abs n * e
    sizes m n e k s = sym (unsigned_abs-mul m (pos k)) ∙ ap unsigned_abs s ∙ unsigned_abs-mul n (pos e)

    turn : (a b : ℤ) → a *ℤ b ≡ b *ℤ a
    turn a b = simp sorted refl

    by_test : (t : Bool) → is_lowest num d ≡ t → t ≡ false
    by_test false e = refl
    by_test true e =
        let l = lowest_is num d e in
        let s = sizes f.num num f.den d same in
        let one = least_terms (unsigned_abs f.num) f.den (unsigned_abs num) d f.lowest l.0 s in
        let two = least_terms (unsigned_abs num) d (unsigned_abs f.num) f.den l.1 f.positive (sym s) in
        let den : f.den ≡ d = omega (arith, one.1, two.1) in
        let nums : f.num *ℤ pos d ≡ num *ℤ pos d = same ∙ ap (λ (k : ℕ). num *ℤ pos k) den in
        absurd (other (same-cancel (pos d) f.num num (positive d l.0) (turn (pos d) f.num ∙ nums ∙ turn num (pos d))) (ap (λ (k : ℕ). pos k) den))

abbrev failed : FracFault → Result Frac FracFault
failed e = Err e

pub short_of : (z : ℤ) → FitsSigned w128 z → pos 0 ≤ℤ z → IsShort z
short_of (pos n) f h = omega (arith, ints)
short_of (negsuc n) f h = absurd (omega (arith, ints))

fault_is : (e : FracFault) (num den : ℤ) → (IsErrOf (failed e) faults.ZeroDivisor ↔ (den ≡ pos 0)) → (IsErrOf (failed e) faults.Wide → LeavesRange (ratio_of num den))
    → IsShort num → IsShort den → pos 0 ≤ℤ den → is_lowest num (unsigned_abs den) ≡ false
fault_is faults.ZeroDivisor num den z w sn sd h = ap (λ (d : ℤ). is_lowest num (unsigned_abs d)) (z.0 refl)
fault_is faults.Wide num (negsuc d) z w sn sd h = absurd (omega (arith, ints))
fault_is faults.Wide num (pos d) z w sn sd h = by_test (is_lowest num d) refl
  where
    by_test : (t : Bool) → is_lowest num d ≡ t → t ≡ false
    by_test false e = refl
    by_test true e = absurd (w refl (record { num = num; den = d }) (record { num = sn; den = sd; positive = (lowest_is num d e).0 }) refl)

pub lowest_fault : (r : Result Frac FracFault) (e : FracFault) → r ≡ failed e → (num den x y : ℤ) → x ≡ num → y ≡ den
    → (IsErrOf r faults.ZeroDivisor ↔ (y ≡ pos 0)) → (IsErrOf r faults.Wide → LeavesRange (ratio_of x y))
    → IsShort num → IsShort den → pos 0 ≤ℤ den → is_lowest num (unsigned_abs den) ≡ false
lowest_fault r e is num den x y ex ey z w = fault_is e num den
    (subst (λ (q : Result Frac FracFault). IsErrOf q faults.ZeroDivisor ↔ (den ≡ pos 0)) is (subst (λ (v : ℤ). IsErrOf r faults.ZeroDivisor ↔ (v ≡ pos 0)) ey z))
    (subst (λ (q : Result Frac FracFault). IsErrOf q faults.Wide → LeavesRange (ratio_of num den)) is
    (λ h. subst (λ (v : ℤ). LeavesRange (ratio_of v den)) ex (subst (λ (v : ℤ). LeavesRange (ratio_of x v)) ey (w h))))

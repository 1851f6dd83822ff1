-- The answers of a call, carried from one form of a fraction to another.
use Rattle.std.proofs.Common.{◌≡◌, ◌<◌, Result, Ok, Err, IfOk, IfErr, OnOk, refl, subst, sym}
use Rattle.exact_num.specs.Fraction.{Fraction, IsSame, IsInRange, LeavesRange}
use Rattle.exact_num.specs.Views.{shown_frac}
use Rattle.exact_num.specs.declared.frac.Frac.{Frac}
use Rattle.exact_num.specs.declared.frac.FracFault.{FracFault}
use Rattle.exact_num.specs.declared.frac.FracFault.TheVariants as faults
use Rattle.exact_num.proofs.Laws.{IsSame-trans, LeavesRange-same}

pub given_as : (r : Result Frac FracFault) (x z : Fraction) → IsSame x z → IfOk r (λ f. shown_frac f ≡ x) → IfOk r (λ f. IsSame (shown_frac f) z)
given_as (Ok f) x z s h = subst (λ y. IsSame y z) (sym h) s
given_as (Err e) x z s h = h

pub refused_as : (r : Result Frac FracFault) (x z : Fraction) → 0 < z.den → IsSame z x → IfErr r (λ e. (e ≡ faults.Wide) × LeavesRange x) → IfErr r (λ e. (e ≡ faults.Wide) × LeavesRange z)
refused_as (Ok f) x z p s h = h
refused_as (Err e) x z p s h = (h.0, LeavesRange-same x z p s h.1)

pub same_as : (r : Result Frac FracFault) (x z : Fraction) → 0 < x.den → IsSame x z → IfOk r (λ f. IsSame (shown_frac f) x) → IfOk r (λ f. IsSame (shown_frac f) z)
same_as (Ok f) x z p s h = IsSame-trans (shown_frac f) x z p h s
same_as (Err e) x z p s h = h

-- what is in the range is not refused
pub not_refused : (r : Result Frac FracFault) (x z : Fraction) → x ≡ z → IsInRange z → (P : FracFault → Type 0) → IfErr r (λ e. (e ≡ faults.Wide) × LeavesRange x) → IfErr r P
not_refused (Ok f) x z s range P h = h
not_refused (Err e) x z s range P h = absurd (h.1 z range (subst (λ y. IsSame z y) (sym s) refl))

pub on_ok : (r : Result Frac FracFault) (P : Type 0) → P → OnOk r P
on_ok (Ok f) P h = h
on_ok (Err e) P h = tt

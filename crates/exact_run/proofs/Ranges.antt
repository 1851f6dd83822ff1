-- A fraction of 128 bits is in the range: so what is answered is not too wide.
use Rattle.std.proofs.Common.{◌≡◌, sym, subst}
use Rattle.std.specs.Prelude.{Result, Ok, Err, IfOk, OnOk}
use Rattle.exact_num.specs.Fraction.{Fraction, IsSame, LeavesRange, product_of, quotient_of}
use Rattle.exact_num.specs.Views.{shown_frac}
use Rattle.exact_num.specs.declared.frac.Frac.{Frac}
use Rattle.exact_num.specs.declared.frac.FracFault.{FracFault}
use Rattle.exact_run.specs.Operations.{IsWide}
use Rattle.exact_run.specs.declared.operations.Operation.{Operation}
use Rattle.exact_run.specs.declared.operations.Operation.TheVariants.{Mul, Div}

stays : (f : Frac) (x : Fraction) → IsSame (shown_frac f) x → ¬ LeavesRange x
stays f x same out = out (shown_frac f) record { num = f.short_num; den = f.short_den; positive = f.positive } same

pub narrow-product : (r : Result Frac FracFault) (o : Operation) (x y : Frac) → o ≡ Mul
    → IfOk r (λ f. IsSame (shown_frac f) (product_of (shown_frac x) (shown_frac y))) → OnOk r (¬ IsWide o (shown_frac x) (shown_frac y))
narrow-product (Ok f) o x y e h = subst (λ (k : Operation). ¬ IsWide k (shown_frac x) (shown_frac y)) (sym e) (stays f (product_of (shown_frac x) (shown_frac y)) h)
narrow-product (Err w) o x y e h = tt

pub narrow-quotient : (r : Result Frac FracFault) (o : Operation) (x y : Frac) → o ≡ Div
    → IfOk r (λ f. IsSame (shown_frac f) (quotient_of (shown_frac x) (shown_frac y))) → OnOk r (¬ IsWide o (shown_frac x) (shown_frac y))
narrow-quotient (Ok f) o x y e h = subst (λ (k : Operation). ¬ IsWide k (shown_frac x) (shown_frac y)) (sym e) (λ w. stays f (quotient_of (shown_frac x) (shown_frac y)) h w.1)
narrow-quotient (Err w) o x y e h = tt

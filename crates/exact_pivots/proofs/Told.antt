-- What is told of an operation that is too wide.
use Rattle.std.proofs.Common.{◌≡◌, ◌≢◌, ℕ, pos, sym, subst, Result, Ok, Err, IfOk, IfErr}
use Rattle.std.specs.Result.{IsOkAnd, IsErrAnd}
use Rattle.exact_num.specs.Fraction.{Fraction, sum_of, product_of}
use Rattle.exact_num.specs.Views.{shown_frac}
use Rattle.exact_num.specs.declared.frac.Frac.{Frac}
use Rattle.exact_run.specs.Operations.{IsWide, IsReduced}
use Rattle.exact_run.specs.declared.operations.Operation.{Operation}
use Rattle.exact_run.specs.declared.operations.TooWide.{TooWide}
use Rattle.exact_pivots.specs.Stops.{IsTooWideBy, Stops, IsWrittenSolving, IsWrittenSolvingAt}
use Rattle.exact_pivots.specs.declared.stop.Stop.{Stop}
use Rattle.exact_pivots.specs.declared.stop.Stop.TheVariants.{Wide, Memory}

-- an operation of these that was tried is told as one of these
pub told_as : (r : Result Frac TooWide) (W : Operation → Fraction → Fraction → Type 0) (o : Operation) (x y : Frac) → W o (shown_frac x) (shown_frac y)
    → IfErr r (λ w. IsWide o (shown_frac x) (shown_frac y)) → IfErr r (λ w. (w.operation ≡ o) × (w.left ≡ x) × (w.right ≡ y)) → IfErr r (IsTooWideBy W)
told_as (Ok f) W o x y h wide told = tt
told_as (Err w) W o x y h wide told =
    let P : Operation → Frac → Frac → Type 0 = λ p a b. W p (shown_frac a) (shown_frac b) × IsWide p (shown_frac a) (shown_frac b) in
    subst (λ (p : Operation). P p w.left w.right) (sym told.0) (subst (λ (a : Frac). P o a w.right) (sym told.1) (subst (λ (b : Frac). P o x b) (sym told.2) (h, wide)))

-- a factor that was set to a sum that was found
pub set_as : (r : Result Frac TooWide) (b s p b2 p2 d : Fraction) → IsOkAnd r (λ f. d ≡ shown_frac f)
    → IfOk r (λ f. IsReduced (sum_of b (product_of s p)) (shown_frac f)) → b ≡ b2 → p ≡ p2 → IsReduced (sum_of b2 (product_of s p2)) d
set_as (Ok f) b s p b2 p2 d is sum e g =
    subst (λ (z : Fraction). IsReduced (sum_of b2 (product_of s p2)) z) (sym is)
    (subst (λ (z : Fraction). IsReduced (sum_of z (product_of s p2)) (shown_frac f)) e (subst (λ (z : Fraction). IsReduced (sum_of b (product_of s z)) (shown_frac f)) g sum))
set_as (Err w) b s p b2 p2 d is sum e g = absurd is

-- what stops one factor of the pivot's row stops the row
pub solving_stops_as : (w : TooWide) (row : ℕ → Fraction) (by : Fraction) (enters leaves column : ℕ) (value : Fraction) → by ≡ row enters → value ≡ row column → value.num ≢ pos 0
    → IsTooWideBy (IsWrittenSolvingAt by enters leaves column value) w → IsTooWideBy (IsWrittenSolving row enters leaves) w
solving_stops_as w row by enters leaves column value e g nz h =
    let there : IsWrittenSolvingAt (row enters) enters leaves column (row column) w.operation (shown_frac w.left) (shown_frac w.right) =
    subst (λ (z : Fraction). IsWrittenSolvingAt z enters leaves column (row column) w.operation (shown_frac w.left) (shown_frac w.right)) e
    (subst (λ (z : Fraction). IsWrittenSolvingAt by enters leaves column z w.operation (shown_frac w.left) (shown_frac w.right)) g h.0) in
    ((column, subst (λ (z : Fraction). z.num ≢ pos 0) g nz, there), h.1)

-- an operation that is handed on
pub handed_on : {T : Type 0} (r : Result T Stop) (w : TooWide) (W : Operation → Fraction → Fraction → Type 0) → IsErrAnd r (λ s. s ≡ Wide w) → IsTooWideBy W w → IfErr r (Stops W)
handed_on (Ok f) w W h k = tt
handed_on (Err s) w W h k = subst (Stops W) (sym h) k

-- what stops a part stops the whole
pub stops_as : (s : Stop) (V W : Operation → Fraction → Fraction → Type 0) → ((o : Operation) (a b : Fraction) → V o a b → W o a b) → Stops V s → Stops W s
stops_as (Wide w) V W each h = (each w.operation (shown_frac w.left) (shown_frac w.right) h.0, h.1)
stops_as Memory V W each h = tt

pub handed_same : {T : Type 0} (r : Result T Stop) (s : Stop) (W : Operation → Fraction → Fraction → Type 0) → IsErrAnd r (λ e. e ≡ s) → Stops W s → IfErr r (Stops W)
handed_same (Ok x) s W h k = tt
handed_same (Err e) s W h k = subst (Stops W) (sym h) k

pub handed_wide : {T : Type 0} (r : Result T TooWide) (w : TooWide) (W : Operation → Fraction → Fraction → Type 0) → IsErrAnd r (λ e. e ≡ w) → IsTooWideBy W w → IfErr r (IsTooWideBy W)
handed_wide (Ok x) w W h k = tt
handed_wide (Err e) w W h k = subst (IsTooWideBy W) (sym h) k

use Rattle.std.proofs.Common.{◌≡◌, pos, refl}
use Rattle.std.proofs.lemmas.Result.{IfOk-weaker}
use Rattle.exact_num.specs.Fraction.{product_of}
use Rattle.exact_num.specs.Views.{shown_frac}
use Rattle.exact_num.proofs.Cancelling.{positive-product}
use Rattle.exact_run.specs.declared.operations.Operation.TheVariants.{Add}
use Rattle.exact_pivots.specs.Stops.{IsWrittenAt}
use Rattle.exact_pivots.proofs.Reduced.{sum-no_part, sum-no_before, sum-of_reduced, no_product, zero_from_bits, other_from_bits}
use Rattle.exact_pivots.proofs.Told.{told_as}
use Rattle.exact_pivots.proofs.factors.changed.added.Goals as goal

pub returns-then-num-eq0-clause-sum : goal.returns-then-num-eq0-clause-sum
returns-then-num-eq0-clause-sum c =
    let zero : (shown_frac c.args.part).num ≡ pos 0 = zero_from_bits c.num.result c.args.part.num c.num.ensures c.args.part.short_num c.if-num-eq0.true in
    sum-no_part (shown_frac c.args.before) (product_of (shown_frac c.args.scale) (shown_frac c.args.part)) c.args.before.positive c.args.before.lowest
    (no_product (shown_frac c.args.scale) (shown_frac c.args.part) zero)

pub returns-then-num-eq0-2-clause-sum : goal.returns-then-num-eq0-2-clause-sum
returns-then-num-eq0-2-clause-sum c =
    let zero : (shown_frac c.args.before).num ≡ pos 0 = zero_from_bits c.num-2.result c.args.before.num c.num-2.ensures c.args.before.short_num c.if-num-eq0-2.true in
    sum-no_before (shown_frac c.args.before) (product_of (shown_frac c.args.scale) (shown_frac c.args.part)) (shown_frac c.in_ok-product.product)
    (positive-product c.args.scale.den c.args.part.den c.args.scale.positive c.args.part.positive) zero c.in_ok-product.ensures.answer

pub returns-clause-sum : goal.returns-clause-sum
returns-clause-sum c =
    IfOk-weaker c.worked-2.result _ _
    (λ f h. sum-of_reduced (shown_frac c.args.before) (product_of (shown_frac c.args.scale) (shown_frac c.args.part)) (shown_frac c.in_ok-product.product) (shown_frac f) c.args.before.positive c.in_ok-product.ensures.answer h)
    c.worked-2.ensures.answer

pub returns-clause-wide : goal.returns-clause-wide
returns-clause-wide c =
    told_as c.worked-2.result (IsWrittenAt (shown_frac c.args.before) (shown_frac c.args.scale) (shown_frac c.args.part)) Add c.args.before c.in_ok-product.product
    (other_from_bits c.num.result c.args.part.num c.num.ensures c.if-num-eq0.false, other_from_bits c.num-2.result c.args.before.num c.num-2.ensures c.if-num-eq0-2.false, refl, c.in_ok-product.ensures.answer) c.worked-2.ensures.wide c.worked-2.ensures.told

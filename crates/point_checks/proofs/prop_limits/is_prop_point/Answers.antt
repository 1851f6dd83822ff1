use Rattle.std.proofs.Common.{refl}
use Rattle.pool_model.specs.Network.{net_of}
use Rattle.point_checks.specs.ProportionTests.{FitsProps, IsPropPoint}
use Rattle.point_checks.proofs.Tests.{never, same-test}
use Rattle.point_checks.proofs.PropPoints.{all-point, point-fits, point-limits, small-point}
use Rattle.point_checks.proofs.prop_limits.is_prop_point.Goals as goal

pub returns-then-not-fits-clause-point : goal.returns-then-not-fits-clause-point
returns-then-not-fits-clause-point c =
    let n = net_of c.args.net.now in
    never (FitsProps n c.args.point.now) (IsPropPoint n c.args.point.now) c.if-not-fits.ensures.1 (point-fits n c.args.point.now c.if-not-has_shape.ensures.limited)

pub keep_limits-requires-clause-small : goal.keep_limits-requires-clause-small
keep_limits-requires-clause-small c =
    small-point (net_of c.args.net.now) c.args.point.now c.if-not-has_shape.ensures.limited (c.if-not-has_shape.ensures.shape.0 refl)
    (c.if-not-are_products.ensures.0 refl) (c.if-not-sum_to_one.ensures.0 refl) (c.if-not-flows_carry.ensures.0 refl)

pub returns-clause-point : goal.returns-clause-point
returns-clause-point c =
    let n = net_of c.args.net.now in
    let s = c.args.point.now in
    same-test _ (IsPropPoint n s) c.keep_limits.result c.keep_limits.ensures
    (all-point n s (c.if-not-has_shape.ensures.shape.0 refl) (c.if-not-are_products.ensures.0 refl) (c.if-not-sum_to_one.ensures.0 refl)
    (c.if-not-come_from_feeds.ensures.0 refl) (c.if-not-flows_carry.ensures.0 refl))
    (point-limits n s)

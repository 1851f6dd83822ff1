use Rattle.std.proofs.Common.{ℕ, ◌<◌, refl}
use Rattle.pool_model.specs.Network.{net_of}
use Rattle.point_checks.specs.Flows.{FlowsFit}
use Rattle.point_checks.proofs.Tests.{never, same-test}
use Rattle.point_checks.specs.QualityTests.{IsQualPoint, KeepsQuality}
use Rattle.point_checks.specs.QualSlices.{seen}
use Rattle.point_checks.proofs.QualPoints.{all-point, point-fits, point-keeps, point-limits, small-point}
use Rattle.point_checks.proofs.qual_limits.is_qual_point.Goals as goal

pub returns-then-not-fits-clause-point : goal.returns-then-not-fits-clause-point
returns-then-not-fits-clause-point c =
    let n = net_of c.args.net.now in
    let s = c.args.point.now in
    never (FlowsFit n s.flows.base s.flows.feeds.now s.flows.outs.now s.flows.directs.now) (IsQualPoint n s) c.if-not-fits.ensures.1 (point-fits n s c.if-not-has_shape.ensures.limited)

pub keep_qualities-requires-clause-small : goal.keep_qualities-requires-clause-small
keep_qualities-requires-clause-small c =
    small-point (net_of c.args.net.now) c.args.point.now c.if-not-has_shape.ensures.limited (c.if-not-has_shape.ensures.shape.0 refl)
    (c.if-not-lie_between.ensures.0 refl) (c.if-not-have_qualities.ensures.0 refl)
    (c.if-not-flows_carry.ensures.0 refl)

pub keep_limits-requires-clause-small : goal.keep_limits-requires-clause-small
keep_limits-requires-clause-small c =
    small-point (net_of c.args.net.now) c.args.point.now c.if-not-has_shape.ensures.limited (c.if-not-has_shape.ensures.shape.0 refl)
    (c.if-not-lie_between.ensures.0 refl) (c.if-not-have_qualities.ensures.0 refl)
    (c.if-not-flows_carry.ensures.0 refl)

pub returns-then-not-keep_qualities-clause-point : goal.returns-then-not-keep_qualities-clause-point
returns-then-not-keep_qualities-clause-point c =
    let n = net_of c.args.net.now in
    let s = c.args.point.now in
    never ((l : ℕ) → l < n.pools → (k : ℕ) → k < n.qualities → KeepsQuality n (seen n s) l k) (IsQualPoint n s) c.if-not-keep_qualities.ensures.1 (point-keeps n s)

pub returns-clause-point : goal.returns-clause-point
returns-clause-point c =
    let n = net_of c.args.net.now in
    let s = c.args.point.now in
    same-test _ (IsQualPoint n s) c.keep_limits.result c.keep_limits.ensures
    (all-point n s (c.if-not-has_shape.ensures.shape.0 refl) (c.if-not-lie_between.ensures.0 refl) (c.if-not-have_qualities.ensures.0 refl) (c.if-not-flows_carry.ensures.0 refl)
    (c.if-not-keep_qualities.ensures.0 refl))
    (point-limits n s)

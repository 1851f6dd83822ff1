use Rattle.std.proofs.Common.{arith, below_more, refl}
use Rattle.pool_model.specs.Network.{net_of}
use Rattle.point_checks.proofs.Tests.{never_every}
use Rattle.point_checks.specs.QualSlices.{seen}
use Rattle.point_checks.specs.QualityTests.{LiesBetween}
use Rattle.point_checks.proofs.qual_checks.lies_between.Goals as goal

pub returns-then-not-is_between : goal.returns-then-not-is_between
returns-then-not-is_between c =
    let n = net_of c.args.net.now in
    never_every (LiesBetween n (seen n c.args.point.now) c.args.pool) c.loop-quality.quality n.qualities
    (omega (arith, c.loop-quality-test.true, c.sizes-counts.ensures.counts.qualities)) c.if-not-is_between.ensures.1

pub loop-quality-preserved : goal.loop-quality-preserved
loop-quality-preserved c = below_more _ _ c.loop-quality.invariant (c.if-not-is_between.ensures.0 refl)

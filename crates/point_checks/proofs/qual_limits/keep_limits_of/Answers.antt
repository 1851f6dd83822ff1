use Rattle.std.proofs.Common.{arith, below_more, refl}
use Rattle.pool_model.specs.Network.{net_of}
use Rattle.point_checks.specs.QualSlices.{seen}
use Rattle.point_checks.specs.QualityTests.{KeepsLimits}
use Rattle.point_checks.proofs.Tests.{never_every}
use Rattle.point_checks.proofs.qual_limits.keep_limits_of.Goals as goal

pub returns-then-not-keeps_limits : goal.returns-then-not-keeps_limits
returns-then-not-keeps_limits c =
    let n = net_of c.args.net.now in
    never_every (KeepsLimits n (seen n c.args.point.now) c.args.product) c.loop-quality.quality n.qualities
    (omega (arith, c.loop-quality-test.true, c.sizes-counts.ensures.counts.qualities)) c.if-not-keeps_limits.ensures.1

pub loop-quality-preserved : goal.loop-quality-preserved
loop-quality-preserved c = below_more _ _ c.loop-quality.invariant (c.if-not-keeps_limits.ensures.0 refl)

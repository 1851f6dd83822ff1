use Rattle.std.proofs.Common.{ℕ, ◌<◌, arith, below_more, refl}
use Rattle.pool_model.specs.Network.{net_of}
use Rattle.point_checks.proofs.Tests.{every, never_every}
use Rattle.point_checks.specs.QualSlices.{seen}
use Rattle.point_checks.specs.QualityTests.{HasQuality}
use Rattle.point_checks.proofs.qual_checks.have_qualities.Goals as goal

pub returns-then-not-has_qualities : goal.returns-then-not-has_qualities
returns-then-not-has_qualities c =
    let n = net_of c.args.net.now in
    never_every (λ i. (k : ℕ) → k < n.qualities → HasQuality n (seen n c.args.point.now) i k) c.loop-out.out n.outs
    (omega (arith, c.loop-out-test.true, c.sizes-counts.ensures.counts.outs)) c.if-not-has_qualities.ensures.1

pub loop-out-preserved : goal.loop-out-preserved
loop-out-preserved c = below_more _ _ c.loop-out.invariant (c.if-not-has_qualities.ensures.0 refl)

pub returns : goal.returns
returns c =
    let n = net_of c.args.net.now in
    every (λ i. (k : ℕ) → k < n.qualities → HasQuality n (seen n c.args.point.now) i k) c.loop-out.out n.outs
    (omega (arith, c.loop-out-test.false, c.sizes-counts.ensures.counts.outs)) c.loop-out.invariant

use Rattle.std.proofs.Common.{ℕ, ◌<◌, arith, below_more, refl}
use Rattle.pool_model.specs.Network.{net_of}
use Rattle.point_checks.proofs.Tests.{every, never_every}
use Rattle.point_checks.specs.QualSlices.{seen}
use Rattle.point_checks.specs.QualityTests.{KeepsQuality}
use Rattle.point_checks.proofs.qual_checks.keep_qualities.Goals as goal

pub returns-then-not-keeps_qualities : goal.returns-then-not-keeps_qualities
returns-then-not-keeps_qualities c =
    let n = net_of c.args.net.now in
    never_every (λ i. (k : ℕ) → k < n.qualities → KeepsQuality n (seen n c.args.point.now) i k) c.loop-pool.pool n.pools
    (omega (arith, c.loop-pool-test.true, c.sizes-counts.ensures.counts.pools)) c.if-not-keeps_qualities.ensures.1

pub loop-pool-preserved : goal.loop-pool-preserved
loop-pool-preserved c = below_more _ _ c.loop-pool.invariant (c.if-not-keeps_qualities.ensures.0 refl)

pub returns : goal.returns
returns c =
    let n = net_of c.args.net.now in
    every (λ i. (k : ℕ) → k < n.qualities → KeepsQuality n (seen n c.args.point.now) i k) c.loop-pool.pool n.pools
    (omega (arith, c.loop-pool-test.false, c.sizes-counts.ensures.counts.pools)) c.loop-pool.invariant

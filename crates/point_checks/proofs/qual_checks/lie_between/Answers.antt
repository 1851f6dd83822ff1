use Rattle.std.proofs.Common.{ℕ, ◌<◌, arith, below_more, refl}
use Rattle.pool_model.specs.Network.{net_of}
use Rattle.point_checks.proofs.Tests.{every, never_every}
use Rattle.point_checks.specs.QualSlices.{seen}
use Rattle.point_checks.specs.QualityTests.{LiesBetween}
use Rattle.point_checks.proofs.qual_checks.lie_between.Goals as goal

pub returns-then-not-lies_between : goal.returns-then-not-lies_between
returns-then-not-lies_between c =
    let n = net_of c.args.net.now in
    never_every (λ i. (k : ℕ) → k < n.qualities → LiesBetween n (seen n c.args.point.now) i k) c.loop-pool.pool n.pools
    (omega (arith, c.loop-pool-test.true, c.sizes-counts.ensures.counts.pools)) c.if-not-lies_between.ensures.1

pub loop-pool-preserved : goal.loop-pool-preserved
loop-pool-preserved c = below_more _ _ c.loop-pool.invariant (c.if-not-lies_between.ensures.0 refl)

pub returns : goal.returns
returns c =
    let n = net_of c.args.net.now in
    every (λ i. (k : ℕ) → k < n.qualities → LiesBetween n (seen n c.args.point.now) i k) c.loop-pool.pool n.pools
    (omega (arith, c.loop-pool-test.false, c.sizes-counts.ensures.counts.pools)) c.loop-pool.invariant

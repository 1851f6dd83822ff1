use Rattle.std.proofs.Common.{ℕ, ◌<◌, arith, below_more, refl}
use Rattle.pool_model.specs.Network.{net_of}
use Rattle.point_checks.specs.QualSlices.{seen}
use Rattle.point_checks.specs.QualityTests.{KeepsLimits}
use Rattle.point_checks.proofs.Tests.{every, never_every}
use Rattle.point_checks.proofs.qual_limits.keep_limits.Goals as goal

pub returns-then-not-keep_limits_of : goal.returns-then-not-keep_limits_of
returns-then-not-keep_limits_of c =
    let n = net_of c.args.net.now in
    never_every (λ j. (k : ℕ) → k < n.qualities → KeepsLimits n (seen n c.args.point.now) j k) c.loop-product.product n.products
    (omega (arith, c.loop-product-test.true, c.sizes-counts.ensures.counts.products)) c.if-not-keep_limits_of.ensures.1

pub loop-product-preserved : goal.loop-product-preserved
loop-product-preserved c = below_more _ _ c.loop-product.invariant (c.if-not-keep_limits_of.ensures.0 refl)

pub returns : goal.returns
returns c =
    let n = net_of c.args.net.now in
    every (λ j. (k : ℕ) → k < n.qualities → KeepsLimits n (seen n c.args.point.now) j k) c.loop-product.product n.products
    (omega (arith, c.loop-product-test.false, c.sizes-counts.ensures.counts.products)) c.loop-product.invariant

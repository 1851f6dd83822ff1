use Rattle.std.proofs.Common.{◌^◌, ◌+◌, ◌*◌, arith, refl}
use Rattle.integers.specs.Sums.{sum_at}
use Rattle.pool_model.specs.Network.{net_of}
use Rattle.pool_model.specs.Plan.{plan_of}
use Rattle.plan_core.specs.Views.{shown_plan}
use Rattle.plan_core.proofs.Tables.{nothing, more, first_more}
use Rattle.plan_core.proofs.sums.product_inflows.Goals as goal

pub loop-out-init : goal.loop-out-init
loop-out-init c = record { long = refl; exact = λ i lt. nothing 64 i; size = λ i. omega (arith, nothing 64 i) }

pub loop-out-preserved : goal.loop-out-preserved
loop-out-preserved c =
    let n = net_of c.args.net.now in
    let out = c.loop-out.out in
    first_more n.out_product (plan_of n (shown_plan c.args.plan.now)).out out c.out-product.result.1 n.products 64 (2 ^ 96 * out) (2 ^ 96 * (out + 1)) c.whole_outflow.result (2 ^ 96) c.loop-out.flows
    c.loop-out.invariant c.out-product.ensures.product c.out-product.ensures.known_product c.sizes-counts.ensures.limited.products
    c.whole_outflow.ensures.flow (omega (arith, c.whole_outflow.ensures.size)) (omega arith)

pub loop-direct-preserved : goal.loop-direct-preserved
loop-direct-preserved c =
    let n = net_of c.args.net.now in
    let p = plan_of n (shown_plan c.args.plan.now) in
    let direct = c.loop-direct.direct in
    more n.direct_product p.direct (λ j. sum_at n.out_product j p.out n.outs) direct c.direct-product.result.1 n.products 64 (2 ^ 96 * 256 + 2 ^ 96 * direct) (2 ^ 96 * 256 + 2 ^ 96 * (direct + 1))
    c.whole_direct.result (2 ^ 96) c.loop-direct.flows c.loop-direct.invariant c.direct-product.ensures.product c.direct-product.ensures.known_product c.sizes-counts.ensures.limited.products
    c.whole_direct.ensures.flow (omega (arith, c.whole_direct.ensures.size)) (omega arith)

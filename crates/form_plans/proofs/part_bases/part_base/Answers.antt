use Rattle.std.proofs.Common.{arith}
use Rattle.pool_model.specs.Network.{net_of}
use Rattle.point_checks.specs.Flows.{flows_plan}
use Rattle.form_plans.proofs.Parts.{base-none, base-more, base-all, base-too_fine, product-fits}
use Rattle.form_plans.proofs.part_bases.part_base.Goals as goal

pub loop-pool-init : goal.loop-pool-init
loop-pool-init c = record { below = base-none (net_of c.args.net.now) (flows_plan c.args.flows.now); small = omega arith }

pub lcm-least-requires-clause-first : goal.lcm-least-requires-clause-first
lcm-least-requires-clause-first c = c.loop-pool.invariant.below.positive

pub lcm-least-requires-clause-second : goal.lcm-least-requires-clause-second
lcm-least-requires-clause-second c = c.pool_base.ensures.least.positive

pub lcm-least-requires-clause-fits : goal.lcm-least-requires-clause-fits
lcm-least-requires-clause-fits c = product-fits c.loop-pool.least c.pool_base.result c.loop-pool.invariant.small c.pool_base.ensures.small

pub returns-then-least-gt-MAX_BASE-clause-too_fine : goal.returns-then-least-gt-MAX_BASE-clause-too_fine
returns-then-least-gt-MAX_BASE-clause-too_fine c =
    let n = net_of c.args.net.now in
    let p = flows_plan c.args.flows.now in
    base-too_fine n p _ c.lcm-least.result (base-more n p c.loop-pool.pool c.loop-pool.least c.pool_base.result c.lcm-least.result
    c.loop-pool.invariant.below c.pool_base.ensures.least c.lcm-least.ensures.least) (omega arith)

pub loop-pool-preserved : goal.loop-pool-preserved
loop-pool-preserved c =
    let n = net_of c.args.net.now in
    let p = flows_plan c.args.flows.now in
    record {
      below = base-more n p c.loop-pool.pool c.loop-pool.least c.pool_base.result c.lcm-least.result c.loop-pool.invariant.below c.pool_base.ensures.least c.lcm-least.ensures.least;
      small = omega arith;
    }

pub returns-clause-least : goal.returns-clause-least
returns-clause-least c =
    let n = net_of c.args.net.now in
    let p = flows_plan c.args.flows.now in
    base-all n p c.loop-pool.pool c.loop-pool.least c.sizes-counts.ensures.limited (omega (arith, c.loop-pool-test.false, c.sizes-counts.ensures.counts.pools)) c.loop-pool.invariant.below

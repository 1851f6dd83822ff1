use Rattle.std.proofs.Common.{get_or, arith, rules, FitsSigned}
use mir.Syntax.{w64, w128}
use mir.Val.{to_z}
use Rattle.integers.proofs.AtKey.{term-le-sum_below}
use Rattle.pool_model.specs.Network.{net_of}
use Rattle.plan_core.proofs.Costs.{total_fits, total_more, total_size}
use Rattle.plan_core.proofs.cost.purchases.Goals as goal

pub priced-total-requires-clause-flow : goal.priced-total-requires-clause-flow
priced-total-requires-clause-flow c = omega (arith, term-le-sum_below (λ i. get_or c.args.outflows.now i 0) (net_of c.args.net.now).sources c.loop-source.source (omega arith), c.requires)

pub overflow_add-total : goal.overflow_add-total
overflow_add-total c =
    let n = net_of c.args.net.now in
    total_fits n.source_cost (λ i. get_or c.args.outflows.now i 0) c.loop-source.source n.sources (to_z w128 c.loop-source.total-bits) c.priced-total.result (omega arith) (omega (arith, c.requires))
    c.loop-source.invariant c.priced-total.ensures.size

pub loop-source-preserved : goal.loop-source-preserved
loop-source-preserved c =
    let n = net_of c.args.net.now in
    let fits : FitsSigned w64 c.source_cost.result = search rules in
    total_more n.source_cost (λ i. get_or c.args.outflows.now i 0) c.loop-source.source n.sources (to_z w128 c.loop-source.total-bits) c.source_cost.result c.priced-total.result (omega arith) (omega (arith, c.requires))
    c.loop-source.invariant fits c.source_cost.ensures.value c.priced-total.ensures.value c.priced-total.ensures.size

pub returns-clause-size : goal.returns-clause-size
returns-clause-size c =
    let n = net_of c.args.net.now in
    total_size n.source_cost (λ i. get_or c.args.outflows.now i 0) c.loop-source.source n.sources (to_z w128 c.loop-source.total-bits) (omega arith) c.requires c.loop-source.invariant

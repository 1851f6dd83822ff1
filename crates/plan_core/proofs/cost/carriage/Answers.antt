use Rattle.std.proofs.Common.{◌*◌, ◌^◌, ◌≤◌, unsigned_abs, arith, rules, subst, FitsSigned}
use mir.Syntax.{w64, w128}
use mir.Val.{to_z}
use Rattle.integers.proofs.AtKey.{term-le-sum_below}
use Rattle.pool_model.specs.Network.{net_of, arcs, arc_cost}
use Rattle.pool_model.specs.Plan.{arc_flow, plan_of}
use Rattle.plan_core.specs.Views.{shown_plan}
use Rattle.plan_core.proofs.Costs.{carriage_room, carriage_is, total_fits, total_more, wide_total}
use Rattle.plan_core.proofs.cost.carriage.Goals as goal

pub priced-total-requires-clause-flow : goal.priced-total-requires-clause-flow
priced-total-requires-clause-flow c =
    let n = net_of c.args.net.now in
    let w = shown_plan c.args.plan.now in
    omega (arith, c.arc_flow.ensures, term-le-sum_below (arc_flow n (plan_of n w)) (arcs n) c.loop-arc.arc (omega arith), carriage_room n w c.sizes-counts.ensures.limited c.requires.room)

pub overflow_add-total : goal.overflow_add-total
overflow_add-total c =
    let n = net_of c.args.net.now in
    let w = shown_plan c.args.plan.now in
    total_fits (arc_cost n) (arc_flow n (plan_of n w)) c.loop-arc.arc (arcs n) (to_z w128 c.loop-arc.total-bits) c.priced-total.result (omega arith)
    (carriage_room n w c.sizes-counts.ensures.limited c.requires.room) c.loop-arc.invariant
    (subst (λ m. unsigned_abs c.priced-total.result ≤ 10 ^ 12 * m) c.arc_flow.ensures c.priced-total.ensures.size)

pub loop-arc-preserved : goal.loop-arc-preserved
loop-arc-preserved c =
    let n = net_of c.args.net.now in
    let w = shown_plan c.args.plan.now in
    let fits : FitsSigned w64 c.arc_cost.result = search rules in
    total_more (arc_cost n) (arc_flow n (plan_of n w)) c.loop-arc.arc (arcs n) (to_z w128 c.loop-arc.total-bits) c.arc_cost.result c.priced-total.result (omega arith)
    (carriage_room n w c.sizes-counts.ensures.limited c.requires.room) c.loop-arc.invariant fits c.arc_cost.ensures.value
    (rw c.arc_flow.ensures at c.priced-total.ensures.value)
    (subst (λ m. unsigned_abs c.priced-total.result ≤ 10 ^ 12 * m) c.arc_flow.ensures c.priced-total.ensures.size)

pub returns-clause-value : goal.returns-clause-value
returns-clause-value c =
    let n = net_of c.args.net.now in
    carriage_is n (plan_of n (shown_plan c.args.plan.now)) c.loop-arc.arc (to_z w128 c.loop-arc.total-bits) (omega arith) c.loop-arc.invariant

pub returns-clause-size : goal.returns-clause-size
returns-clause-size c =
    let n = net_of c.args.net.now in
    let w = shown_plan c.args.plan.now in
    wide_total (arc_cost n) (arc_flow n (plan_of n w)) c.loop-arc.arc (arcs n) (to_z w128 c.loop-arc.total-bits) (omega arith)
    (carriage_room n w c.sizes-counts.ensures.limited c.requires.room) c.loop-arc.invariant

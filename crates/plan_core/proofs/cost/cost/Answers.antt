use Rattle.std.proofs.Common.{FitsSigned, ◌+ℤ◌, ◌-ℤ◌, arith, rules}
use Rattle.std.proofs.lemmas.Int.{ints, to_z-of_z}
use mir.Syntax.{w128}
use Rattle.pool_model.specs.Network.{net_of}
use Rattle.plan_core.specs.Views.{shown_plan}
use Rattle.plan_core.proofs.Costs.{supply_room, demand_room, difference_is}
use Rattle.plan_core.proofs.cost.cost.Goals as goal

pub purchases-requires : goal.purchases-requires
purchases-requires c = supply_room (net_of c.args.net.now) (shown_plan c.args.plan.now) c.args.outflows.now c.requires.room c.requires.outflows

pub revenue-requires : goal.revenue-requires
revenue-requires c = demand_room (net_of c.args.net.now) (shown_plan c.args.plan.now) c.args.inflows.now c.requires.room c.requires.inflows

pub returns-clause-num : goal.returns-clause-num
returns-clause-num c =
    let spent : FitsSigned w128 c.purchases.result = search rules in
    let carried : FitsSigned w128 c.carriage.result = search rules in
    let earned : FitsSigned w128 c.revenue.result = search rules in
    let paid : FitsSigned w128 (c.purchases.result +ℤ c.carriage.result) = omega (arith, ints, c.purchases.ensures.size, c.carriage.ensures.size) in
    let left : FitsSigned w128 (c.purchases.result +ℤ c.carriage.result -ℤ c.revenue.result) = omega (arith, ints, c.purchases.ensures.size, c.carriage.ensures.size, c.revenue.ensures.size) in
    simp to_z-of_z (difference_is (net_of c.args.net.now) (shown_plan c.args.plan.now) c.args.outflows.now c.args.inflows.now c.purchases.result c.carriage.result c.revenue.result
    c.requires.outflows c.requires.inflows c.purchases.ensures.value c.carriage.ensures.value c.revenue.ensures.value)

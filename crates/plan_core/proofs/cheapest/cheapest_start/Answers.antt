use Rattle.std.proofs.Common.{rules, FitsSigned, refl}
use Rattle.std.proofs.lemmas.Int.{to_z-of_z}
use Rattle.std.specs.Int.{w128}
use mir.Val.{to_z, of_z}
use Rattle.pool_model.specs.Network.{net_of}
use Rattle.plan_core.proofs.LeastStart.{none-obeys, least-cheapest, least-costs}
use Rattle.plan_core.specs.Views.{shown_plan}
use Rattle.plan_core.proofs.cheapest.cheapest_start.Goals as goal

pub returns-in-None-clause-none : goal.returns-in-None-clause-none
returns-in-None-clause-none c = none-obeys (net_of c.args.net.now) c.cheapest.ensures.limited c.in-None.ensures.least

pub returns-in_ok-plan-in-Some-clause-cheapest : goal.returns-in_ok-plan-in-Some-clause-cheapest
returns-in_ok-plan-in-Some-clause-cheapest c =
    least-cheapest (net_of c.args.net.now) c.cheapest.ensures.limited c.in-Some.best (shown_plan c.in_ok-plan-in-Some.plan) c.in_ok-plan-in-Some.ensures c.in-Some.ensures.least

pub returns-in_ok-plan-in-Some-clause-cost : goal.returns-in_ok-plan-in-Some-clause-cost
returns-in_ok-plan-in-Some-clause-cost c =
    let fits : FitsSigned w128 c.in-Some.best.cost = search rules in
    least-costs (net_of c.args.net.now) c.cheapest.ensures.limited c.in-Some.best (shown_plan c.in_ok-plan-in-Some.plan)
    record { num = to_z w128 (of_z w128 c.in-Some.best.cost); base = 1 } c.in_ok-plan-in-Some.ensures c.in-Some.ensures.least (to_z-of_z w128 c.in-Some.best.cost fits) refl

use Rattle.std.proofs.Common.{◌≡◌, ℤ, List, Option, sym, subst, ap, ◌∙◌}
use Rattle.std.specs.Prelude.{IfNone}
use Rattle.std.specs.Option.{option_copied}
use Rattle.pool_model.specs.Network.{net_of}
use Rattle.pool_model.specs.Plan.{Written}
use Rattle.plan_core.specs.Views.{shown_plan}
use Rattle.plan_core.specs.declared.plan.WrittenPlan.{WrittenPlan}
use Rattle.plan_repair.specs.Choices.{shown_best}
use Rattle.plan_repair.specs.PlainPlan.{plain_plan}
use Rattle.plan_repair.specs.Repairs.{IsAccepted}
use Rattle.plan_repair.specs.declared.judging.Judged.{Judged}
use Rattle.plan_repair.proofs.Choosing.{IsAnswer, IsChoice, answered, chosen, same-plan}
use Rattle.plan_repair.proofs.repairing.repair.Goals as goal

answer : (c : goal.After-gained) → IsAnswer (net_of c.args.net.now) (plain_plan (net_of c.args.net.now) c.args.advice.now.point.items) (shown_best (option_copied c.args.best)) c.gained.result
answer c =
    let n = net_of c.args.net.now in
    let plain = plain_plan n c.args.advice.now.point.items in
    let best = shown_best (option_copied c.args.best) in
    let written : shown_plan c.in_ok-plain_plan.field-0 ≡ plain = c.in_ok-plain_plan.ensures ∙ ap (λ (xs : List ℤ). plain_plan n xs) c.deref.ensures.value in
    let refused : IfNone c.judge-plain.result (¬ IsAccepted n plain) = subst (λ (w : Written). IfNone c.judge-plain.result (¬ IsAccepted n w)) written c.judge-plain.ensures.refused in
    let choice : IsChoice n plain c.cheapest.result = subst (λ (o : Option Judged). IsChoice n plain o) (sym c.cheapest.ensures)
    (chosen n plain c.in_ok-near.near c.judge-plain.result c.in_ok-near.ensures c.judge-plain.ensures.cost
    (same-plan c.in_ok-plain_plan.field-0 plain c.judge-plain.result written c.judge-plain.ensures.plan) refused) in
    subst (λ (o : Option WrittenPlan). IsAnswer n plain best o) (sym c.gained.ensures) (answered n plain best c.cheapest.result c.limit_of-limit.result choice c.limit_of-limit.ensures)

pub returns-clause-gain : goal.returns-clause-gain
returns-clause-gain c = (answer c).gain

pub returns-clause-no_dearer : goal.returns-clause-no_dearer
returns-clause-no_dearer c = (answer c).no_dearer

pub returns-clause-none : goal.returns-clause-none
returns-clause-none c = (answer c).none

use Rattle.std.proofs.Common.{Bor, Option, sym, subst}
use Rattle.std.specs.Option.{option_copied}
use Rattle.pool_model.specs.Network.{net_of}
use Rattle.plan_core.specs.Views.{shown_plan}
use Rattle.plan_core.specs.declared.plan.WrittenPlan.{WrittenPlan}
use Rattle.plan_repair.specs.Choices.{IsLimit, shown_best}
use Rattle.plan_repair.proofs.Choosing.{limit-is}
use Rattle.plan_repair.proofs.judging.limit_of.Goals as goal

pub returns-in-Some : goal.returns-in-Some
returns-in-Some c =
    let n = net_of c.args.net.now in
    subst (λ (o : Option (Bor WrittenPlan)). IsLimit n (shown_best (option_copied o)) c.cost_of.result) (sym c.in-Some.is)
    (limit-is n (shown_plan c.in-Some.best.now) c.cost_of.result c.cost_of.ensures)

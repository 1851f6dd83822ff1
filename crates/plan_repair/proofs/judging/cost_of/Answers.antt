use Rattle.pool_model.specs.Network.{net_of}
use Rattle.plan_core.specs.Views.{shown_plan}
use Rattle.plan_repair.proofs.Choosing.{broken}
use Rattle.plan_repair.proofs.judging.cost_of.Goals as goal

pub returns-in-Err : goal.returns-in-Err
returns-in-Err c = absurd (broken (net_of c.args.net.now) (shown_plan c.args.plan.now) c.in-Err.field-0 c.in-Err.ensures.fault.holds c.requires)

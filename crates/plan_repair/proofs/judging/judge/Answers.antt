use Rattle.pool_model.specs.Network.{net_of}
use Rattle.plan_core.specs.Views.{shown_plan}
use Rattle.plan_repair.proofs.Choosing.{broken}
use Rattle.plan_repair.proofs.judging.judge.Goals as goal

pub returns-in-Err-clause-refused : goal.returns-in-Err-clause-refused
returns-in-Err-clause-refused c = broken (net_of c.args.net.now) (shown_plan c.args.plan) c.in-Err.field-0 c.in-Err.ensures.fault.holds

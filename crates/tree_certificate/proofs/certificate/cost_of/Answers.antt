use Rattle.pool_model.specs.Network.{net_of}
use Rattle.plan_core.specs.Views.{shown_plan}
use Rattle.tree_certificate.proofs.Found.{accepted}
use Rattle.tree_certificate.proofs.certificate.cost_of.Goals as goal

pub unwrap-requires : goal.unwrap-requires
unwrap-requires c = accepted (net_of c.args.net.now) (shown_plan c.args.plan.now) c.check_plan.result c.requires.written c.requires.obeys c.check_plan.ensures.fault

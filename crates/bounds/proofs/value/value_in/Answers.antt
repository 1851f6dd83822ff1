use Rattle.pool_model.specs.Network.{net_of}
use Rattle.box_space.specs.Views.{shown_proof}
use Rattle.bounds.proofs.Agreed.{in_order-agreed, shown-agreed, fault-agreed}
use Rattle.bounds.proofs.value.value_in.Goals as goal

pub returns-clause-in_order : goal.returns-clause-in_order
returns-clause-in_order c =
    in_order-agreed (net_of c.args.net.now) c.view.result c.args.ends.now
    (shown_proof c.args.proof.now) c.value.ensures.limited c.view.ensures.low c.view.ensures.high c.value.result c.value.ensures.ok

pub returns-clause-shown : goal.returns-clause-shown
returns-clause-shown c =
    shown-agreed (net_of c.args.net.now) c.view.result c.args.ends.now
    (shown_proof c.args.proof.now) c.value.ensures.limited c.view.ensures.low c.view.ensures.high c.value.result c.value.ensures.ok

pub returns-clause-fault : goal.returns-clause-fault
returns-clause-fault c =
    fault-agreed (net_of c.args.net.now) c.view.result c.args.ends.now
    (shown_proof c.args.proof.now) c.value.ensures.limited c.view.ensures.low c.view.ensures.high c.value.result c.value.ensures.fault

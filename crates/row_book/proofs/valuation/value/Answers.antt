use Rattle.pool_model.specs.Network.{net_of}
use Rattle.box_space.specs.Views.{shown_box, shown_proof}
use Rattle.row_book.proofs.Answered.{bound-holds, no-plan-holds}
use Rattle.row_book.proofs.valuation.value.Goals as goal

pub returns-clause-bound : goal.returns-clause-bound
returns-clause-bound c = bound-holds (net_of c.args.net.now) (shown_box c.args.v.now) (shown_proof c.args.proof.now) c.judged.result c.judged.ensures.limited c.judged.ensures.ok

pub returns-clause-no_plan : goal.returns-clause-no_plan
returns-clause-no_plan c = no-plan-holds (net_of c.args.net.now) (shown_box c.args.v.now) (shown_proof c.args.proof.now) c.judged.result c.judged.ensures.limited c.judged.ensures.ok

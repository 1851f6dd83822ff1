use Rattle.std.proofs.Common.{sym, subst}
use Rattle.pool_model.specs.Network.{net_of}
use Rattle.pool_model.specs.Plan.{Written}
use Rattle.row_model.specs.Entries.{IsPlanInOrder}
use Rattle.plan_core.specs.Views.{shown_plan}
use Rattle.search_core.specs.Searches.{searched}
use Rattle.search_core.proofs.Ordering.{improve-order}
use Rattle.search_core.proofs.search.Search.next.Goals as goal

pub returns-in-Some-clause-in_order : goal.returns-in-Some-clause-in_order
returns-in-Some-clause-in_order g c =
    let n = net_of c.args.net.now in
    let s = searched c.args.self.now in
    rw c.untried.ensures.due (subst (λ (w : Written). IsPlanInOrder n s w) (sym c.in_ok-plan.ensures) (improve-order n s (shown_plan c.in-Some.plan.now) c.requires.limited c.in-Some.ensures.some))

use Rattle.std.proofs.Common.{◌≡◌, Option, IsTrue, false, Bool, sym, ap, subst, ◌∙◌}
use Rattle.std.specs.Option.{ForSome}
use Rattle.pool_model.specs.Network.{net_of}
use Rattle.plan_core.specs.declared.plan.Cost.{Cost}
use Rattle.box_tree.proofs.Improving.{IsLess}
use Rattle.search_core.specs.Searches.{Searching, shown_start}
use Rattle.search_core.proofs.Starting.{no-better, none-better, start-there, none-there}
use Rattle.search_core.proofs.search.Search.better_start.Goals as goal

pub returns-in-None-clause-none : goal.returns-in-None-clause-none
returns-in-None-clause-none c =
    let n = net_of c.args.net.now in
    let s = c.args.self.now in
    none-better n s.tree.kept (none-there n c.self.inside.start s.start (ap (λ (v : Searching). v.start) c.self.view_is) c.requires.start c.in-None.is)

untrue : (b : Bool) → b ≡ false → IsTrue b → ⊥
untrue b e t = cc

pub returns-else-is_cheaper-clause-none : goal.returns-else-is_cheaper-clause-none
returns-else-is_cheaper-clause-none c =
    let n = net_of c.args.net.now in
    let s = c.args.self.now in
    let start = c.in-Some.start in
    let is = start-there n c.self.inside.start s.start start (ap (λ (v : Searching). v.start) c.self.view_is) c.requires.start c.in-Some.is in
    let cost : c.best_cost.result ≡ s.tree.kept.cost = c.best_cost.ensures ∙ ap (λ (v : Searching). v.tree.kept.cost) c.self.view_is in
    no-better n s.tree.kept c.requires.tree.kept.cost (shown_start start) is
    (λ less. untrue c.is_cheaper.result c.if-is_cheaper.false (c.is_cheaper.ensures.1 (subst (λ (o : Option Cost). ForSome o (IsLess start.cost)) (sym cost) less)))

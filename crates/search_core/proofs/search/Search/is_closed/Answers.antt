use Rattle.std.proofs.Common.{◌≡◌, ◌↔◌, IsTrue, Some, ℤ, sym, subst, ◌∙◌, rules, FitsSigned, to_z, of_z, to_z-of_z}
use mir.Syntax.{w128}
use Rattle.pool_model.specs.Network.{net_of}
use Rattle.row_model.specs.Trees.{tree_bound}
use Rattle.search_core.specs.Searches.{Searching, searched, IsSearchOf}
use Rattle.search_core.specs.Cases.{IsClosed}
use Rattle.search_core.proofs.Nearness.{IsWithinGap, closed-where, gap-fits}
use Rattle.search_core.proofs.search.Search.is_closed.Goals as goal

pub returns-in-Some : goal.returns-in-Some
returns-in-Some c =
    let n = net_of c.args.net.now in
    let gap = c.self.inside.options.gap in
    let bound_fits : FitsSigned w128 c.args.bound = search rules in
    let gap_is = to_z-of_z (gap-fits gap c.self.invariant.least c.self.invariant.most) in
    let near = subst (λ (z : ℤ). IsTrue c.is_near.result ↔ IsWithinGap c.in-Some.cost z gap) (to_z-of_z bound_fits)
    (subst (λ (z : ℤ). IsTrue c.is_near.result ↔ IsWithinGap c.in-Some.cost (to_z w128 (of_z w128 c.args.bound)) z) gap_is c.is_near.ensures) in
    let own = subst (λ (v : Searching). IsSearchOf n v) (sym c.self.view_is) c.requires.search in
    subst (λ (v : Searching). IsTrue c.is_near.result ↔ IsClosed n v.options.gap (searched v)) c.self.view_is
    (closed-where n c.self.inside.options.gap c.args.bound c.self.inside.tree.kept c.in-Some.cost c.is_near.result own.tree.kept.cost (sym c.best_cost.ensures ∙ c.in-Some.is)
    (subst (λ (v : Searching). tree_bound n (searched v).tree ≡ Some c.args.bound) (sym c.self.view_is) c.requires.bound) near)

use Rattle.std.proofs.Common.{ℤ, IfOk, option_map, arith, sym, subst, ◌∙◌, rules, FitsSigned, to_z-of_z}
use Rattle.std.specs.Prelude.{IfSome, IfNone}
use mir.Syntax.{w128}
use Rattle.pool_model.specs.Network.{net_of}
use Rattle.row_model.specs.Boxes.{root}
use Rattle.row_model.specs.Multipliers.{bound}
use Rattle.box_space.specs.Views.{shown_proof}
use Rattle.box_tree.specs.Kept.{searched_of}
use Rattle.leaf_cuts.specs.Given.{IsGiven}
use Rattle.search_core.specs.Searches.{Searching, searched, IsSearchOf}
use Rattle.search_core.specs.Cases.{IsRootOpen, IsRootProof, HasNoRootProof}
use Rattle.search_core.proofs.Rooted.{root-some, root-none}
use Rattle.search_core.proofs.search.Search.root_proof.Goals as goal

pub returns-clause-some : goal.returns-clause-some
returns-clause-some c =
    let n = net_of c.args.net.now in
    let inside = c.self.inside in
    let form = inside.options.form in
    let least = c.in-Some.bound in
    let own = subst (λ (v : Searching). IsSearchOf n v) (sym c.self.view_is) c.requires in
    let opened : IsRootOpen (searched c.args.self.now) = search rules in
    let is_open = subst (λ (v : Searching). IsRootOpen (searched v)) (sym c.self.view_is) opened in
    let at = sym (c.node_bound.ensures.bound n own.tree (omega arith)) ∙ c.in-Some.is in
    let fits : FitsSigned w128 least = search rules in
    let given = subst (λ (z : ℤ). IfOk c.root_proof.result (λ o. IsGiven n form (root n) (bound z) (option_map shown_proof o))) (to_z-of_z fits) c.root_proof.ensures in
    subst (λ (v : Searching). IfOk c.root_proof.result (λ o. IfSome o (λ p. IsRootProof n v.options.form (searched v) (shown_proof p)))) c.self.view_is
    (root-some n form (searched_of inside.tree.kept) least is_open at c.root_proof.result given)

pub returns-clause-none : goal.returns-clause-none
returns-clause-none c =
    let n = net_of c.args.net.now in
    let inside = c.self.inside in
    let form = inside.options.form in
    let least = c.in-Some.bound in
    let own = subst (λ (v : Searching). IsSearchOf n v) (sym c.self.view_is) c.requires in
    let opened : IsRootOpen (searched c.args.self.now) = search rules in
    let is_open = subst (λ (v : Searching). IsRootOpen (searched v)) (sym c.self.view_is) opened in
    let at = sym (c.node_bound.ensures.bound n own.tree (omega arith)) ∙ c.in-Some.is in
    let fits : FitsSigned w128 least = search rules in
    let given = subst (λ (z : ℤ). IfOk c.root_proof.result (λ o. IsGiven n form (root n) (bound z) (option_map shown_proof o))) (to_z-of_z fits) c.root_proof.ensures in
    subst (λ (v : Searching). IfOk c.root_proof.result (λ o. IfNone o (HasNoRootProof n v.options.form (searched v)))) c.self.view_is
    (root-none n form (searched_of inside.tree.kept) least is_open at c.root_proof.result given)

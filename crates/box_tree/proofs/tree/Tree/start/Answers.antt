use Rattle.std.proofs.Common.{[], ◌∷◌, List, ℕ, replicate, Option, Some, ℤ, ap, sym, subst, ◌∙◌, rules, FitsSigned, to_z-of_z}
use mir.Syntax.{w128}
use Rattle.pool_model.specs.Network.{net_of}
use Rattle.split_tree.specs.Splits.{Splits, IsOf as AreCut}
use Rattle.box_tree.proofs.Started.{first-held, searched-first}
use Rattle.box_tree.proofs.tree.Tree.start.Goals as goal

pub returns-clause-tree : goal.returns-clause-tree
returns-clause-tree c =
    let n = net_of c.args.net.now in
    let one : ℤ → List (Option ℤ) = λ z. Some z ∷ [] in
    let fits : FitsSigned w128 c.reach_bound.result = search rules in
    record {
      kept = first-held n _ c.in_ok-cuts.cuts.items c.in_ok-vec.field-0.items c.in_ok-vec-2.field-0.items (ap (λ (t : Splits). t.list) c.splits.view_is ∙ c.in_ok-splits.ensures.none)
          (subst (λ (t : Splits). AreCut n t) (sym c.splits.view_is) (c.in_ok-splits.ensures.tree n))
          (c.in_ok-cuts.ensures.items_if_clones_equal (λ y e. e) ∙ ap (λ (m : ℕ). replicate m (let zero : ℕ = 0 in zero)) c.coords.ensures.count) c.in_ok-vec.ensures.items
          (c.in_ok-vec-2.ensures.items ∙ ap one (to_z-of_z fits) ∙ ap one c.reach_bound.ensures.bound);
      scratch = c.in_ok-new.ensures;
    }

pub returns-clause-searched : goal.returns-clause-searched
returns-clause-searched c =
    searched-first _ _ c.in_ok-cuts.cuts.items c.in_ok-vec.field-0.items c.in_ok-vec-2.field-0.items c.splits.view_is c.in_ok-splits.ensures.none
    c.in_ok-vec.ensures.items

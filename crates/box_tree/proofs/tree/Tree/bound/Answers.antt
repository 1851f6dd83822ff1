use Rattle.std.proofs.Common.{Some, None, ℤ, rules, FitsSigned, to_z-of_z, sym, ap, subst, ◌∙◌}
use mir.Syntax.{w128}
use Rattle.box_tree.specs.Kept.{Held}
use Rattle.box_tree.specs.Open.{AreIndexed}
use Rattle.box_tree.proofs.Scans.{kept-bound, kept-costs, none-least, first-least}
use Rattle.box_tree.proofs.tree.Tree.bound.Goals as goal

pub returns-in-None-clause-kept : goal.returns-in-None-clause-kept
returns-in-None-clause-kept c =
    let k = c.args.self.now.kept in
    sym (none-least k.splits.list k.bounds c.self.inside.order
    (subst (λ (t : Held). AreIndexed t.kept.splits.list t.kept.bounds c.self.inside.order) c.self.view_is c.self.invariant.1) c.in-None.ensures)

pub returns-in-None-clause-bound : goal.returns-in-None-clause-bound
returns-in-None-clause-bound c = λ n is. returns-in-None-clause-kept c ∙ kept-bound n c.args.self.now.kept is.kept

pub returns-in-None-clause-costs : goal.returns-in-None-clause-costs
returns-in-None-clause-costs c = λ n limited is. kept-costs n c.args.self.now.kept None limited is.kept (returns-in-None-clause-kept c ∙ kept-bound n c.args.self.now.kept is.kept)

pub returns-in-Some-clause-kept : goal.returns-in-Some-clause-kept
returns-in-Some-clause-kept c =
    let k = c.args.self.now.kept in
    let fits : FitsSigned w128 c.in-Some.leaf.bound = search rules in
    ap (λ (z : ℤ). Some z) (to_z-of_z fits)
    ∙ sym (first-least k.splits.list k.bounds c.self.inside.order (subst (λ (t : Held). AreIndexed t.kept.splits.list t.kept.bounds c.self.inside.order) c.self.view_is c.self.invariant.1)
    c.in-Some.leaf c.in-Some.ensures)

pub returns-in-Some-clause-bound : goal.returns-in-Some-clause-bound
returns-in-Some-clause-bound c = λ n is. returns-in-Some-clause-kept c ∙ kept-bound n c.args.self.now.kept is.kept

pub returns-in-Some-clause-costs : goal.returns-in-Some-clause-costs
returns-in-Some-clause-costs c = λ n limited is.
    kept-costs n c.args.self.now.kept _ limited is.kept (returns-in-Some-clause-kept c ∙ kept-bound n c.args.self.now.kept is.kept)

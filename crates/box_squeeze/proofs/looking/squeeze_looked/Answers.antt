use Rattle.std.proofs.Common.{rules, subst, FitsSigned, to_z-of_z, ℤ}
use mir.Syntax.{w128}
use Rattle.pool_model.specs.Network.{net_of}
use Rattle.row_model.specs.Trees.{box_of}
use Rattle.box_squeeze.specs.Squeezes.{HasNoEmpty}
use Rattle.box_squeeze.proofs.Trying.{none-anyway}
use Rattle.box_squeeze.proofs.looking.squeeze_looked.Goals as goal

pub returns-clause-none : goal.returns-clause-none
returns-clause-none c =
    let n = net_of c.args.net.now in
    let b = box_of n c.args.tree.now.kept.splits.list c.args.leaf in
    let fits : FitsSigned w128 c.args.target = search rules in
    none-anyway (HasNoEmpty n c.args.form b c.args.target) c.best.result
    (subst (λ (z : ℤ). HasNoEmpty n c.args.form b z) (to_z-of_z fits) (rw c.in_default.is at c.in_ok-free.ensures.none))

use Rattle.std.proofs.Common.{map}
use Rattle.std.proofs.lemmas.Result.{err_from_is_err_and}
use Rattle.pool_model.specs.Network.{net_of}
use Rattle.row_model.specs.Trees.{IsTree}
use Rattle.box_space.specs.Views.{shown_split}
use Rattle.split_tree.specs.Splits as split_lists
use Rattle.box_tree.specs.Kept.{searched_of}
use Rattle.job_trees.proofs.Bare.{made-next, splits-all, refused-next, misfit-refused}
use Rattle.job_trees.proofs.splits.tree_of.Goals as goal

pub returns-in_err-apply-clause-misfit : goal.returns-in_err-apply-clause-misfit
returns-in_err-apply-clause-misfit c =
    let n = net_of c.args.net.now in
    let p = err_from_is_err_and c.from_residual-in_err-apply.result c.from_residual-in_err-apply.ensures.1 in
    rw (p.1, p.2) (misfit-refused c.in_err-apply.field-0.0 (IsTree n (split_lists.tree_of (map shown_split c.args.splits.now)))
    (λ other. refused-next n c.args.splits.now c.loop-split.split-index _ (searched_of c.loop-split.tree.kept) c.loop-split-test.true c.loop-split.invariant.made (c.in_err-apply.ensures.refused other)))

pub loop-split-preserved : goal.loop-split-preserved
loop-split-preserved c = record {
  tree = c.apply.ensures.tree;
  made = made-next c.args.splits.now c.loop-split.split-index _ (searched_of c.loop-split.tree.kept) (searched_of c.apply.new.self.kept) c.loop-split-test.true c.loop-split.invariant.made
      c.in_ok-apply.ensures.ok;
}

pub returns-clause-splits : goal.returns-clause-splits
returns-clause-splits c = splits-all c.args.splits.now c.loop-split.split-index (searched_of c.loop-split.tree.kept) c.loop-split-test.false c.loop-split.invariant.made

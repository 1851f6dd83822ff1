use Rattle.std.proofs.Common.{◌≡◌, take, map}
use Rattle.pool_model.specs.Network.{net_of}
use Rattle.row_model.specs.Entries.{made_by}
use Rattle.box_space.specs.Views.{shown_split}
use Rattle.box_tree.specs.Kept.{IsOf, searched_of}
use Rattle.job_trees.specs.Fitting.{bare}
use Rattle.job_trees.proofs.splits.tree_of.Given as goal

abbrev pub invariant-loop-split : goal.invariant-loop-split
invariant-loop-split l = record {
  tree : IsOf (net_of l.net) l.tree;
  made : searched_of l.tree.kept ≡ made_by (map bare (map shown_split (take l.split-index l.splits)));
}

use Rattle.std.proofs.Common.{◌≡◌, ℕ, ◌<◌, length, get_or, map, take, false}
use Rattle.row_model.specs.Trees.{nodes, is_cut}
use Rattle.box_space.specs.Views.{shown_split}
use Rattle.job_trees.proofs.leaves.cut_nodes.Given as goal

abbrev pub invariant-loop-split : goal.invariant-loop-split
invariant-loop-split l = record {
  many : length l.cut.items ≡ nodes (map shown_split l.splits);
  marks : (node : ℕ) → node < length l.cut.items → get_or l.cut.items node false ≡ is_cut (map shown_split (take l.split-index l.splits)) node;
}

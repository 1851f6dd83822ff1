use Rattle.std.proofs.Common.{map}
use Rattle.box_space.specs.Views.{shown_split}
use Rattle.job_trees.proofs.Free.{AreMarked}
use Rattle.job_trees.proofs.leaves.are_on_leaves.Given as goal

abbrev pub invariant-loop-i : goal.invariant-loop-i
invariant-loop-i l = AreMarked (map shown_split l.splits) l.jobs l.i l.taken.items

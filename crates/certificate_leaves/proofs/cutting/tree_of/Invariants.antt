use Rattle.std.specs.Prelude.{map}
use Rattle.pool_model.specs.Network.{net_of}
use Rattle.box_space.specs.Views.{shown_split}
use Rattle.cert_checker.proofs.Taking.{AreTaken}
use Rattle.certificate_leaves.proofs.cutting.tree_of.Given as goal

-- so many splits are taken
abbrev pub invariant-loop-t : goal.invariant-loop-t
invariant-loop-t l = AreTaken (net_of l.net) (map shown_split l.splits) l.t l.tree

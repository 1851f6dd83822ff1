use Rattle.pool_model.specs.Network.{net_of}
use Rattle.split_tree.proofs.Finding.{IsFilled}
use Rattle.split_tree.proofs.splits.SplitTree.look_up.Given as goal

abbrev pub invariant-loop-coord : goal.invariant-loop-coord
invariant-loop-coord l = IsFilled (net_of l.net) l.self.list l.node l.coord l.ends.low.items l.ends.high.items

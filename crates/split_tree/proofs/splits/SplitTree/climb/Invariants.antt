use Rattle.pool_model.specs.Network.{net_of}
use Rattle.split_tree.proofs.Innermost.{IsSoFar}
use Rattle.split_tree.proofs.splits.SplitTree.climb.Given as goal

abbrev pub invariant-loop-at : goal.invariant-loop-at
invariant-loop-at l = IsSoFar (net_of l.net) l.self.list l.node l.at l.ends.low.items l.ends.high.items

abbrev pub decreases-loop-at : goal.decreases-loop-at
decreases-loop-at l = l.at

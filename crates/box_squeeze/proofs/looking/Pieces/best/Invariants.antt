use Rattle.std.specs.Prelude.{IfSome}
use Rattle.pool_model.specs.Network.{net_of}
use Rattle.box_tree.specs.Kept.{searched_of}
use Rattle.box_squeeze.specs.Squeezes.{IsOrderedSqueeze}
use Rattle.box_squeeze.proofs.looking.Pieces.best.Given as goal

abbrev pub invariant-loop-cut : goal.invariant-loop-cut
invariant-loop-cut l = IfSome l.best.squeezed (IsOrderedSqueeze (net_of l.net) l.self.range.form (searched_of l.tree.kept) l.self.leaf l.self.range.target)

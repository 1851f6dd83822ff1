use Rattle.pool_model.specs.Network.{net_of}
use Rattle.row_model.specs.Boxes.{Box}
use Rattle.box_space.specs.Views.{AreEndsOf}
use Rattle.row_book.specs.Fitting.{Fits}
use Rattle.box_squeeze.proofs.Closings.{NoneBelow}
use Rattle.box_squeeze.proofs.closing.Range.closed_by_none.Given as goal

abbrev pub invariant-loop-coord : goal.invariant-loop-coord
invariant-loop-coord l = record {
  fits : Fits (net_of l.net) l.scratch;
  none : (b : Box) → AreEndsOf (net_of l.net) b l.self.ends → NoneBelow (net_of l.net) l.self.form b l.self.target l.coord;
}

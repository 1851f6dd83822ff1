use Rattle.pool_model.specs.Network.{net_of}
use Rattle.box_space.specs.Views.{AreEnds}
use Rattle.worked_rows.proofs.rows.box_between.Given as goal

abbrev pub invariant-loop-low : goal.invariant-loop-low
invariant-loop-low l = AreEnds (net_of l.net) l.b

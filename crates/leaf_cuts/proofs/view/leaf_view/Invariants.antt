use Rattle.pool_model.specs.Network.{net_of}
use Rattle.leaf_cuts.proofs.FormCoords.{AreSoFar}
use Rattle.leaf_cuts.proofs.view.leaf_view.Given as goal

abbrev pub invariant-loop-coord : goal.invariant-loop-coord
invariant-loop-coord l = AreSoFar (net_of l.net) l.form l.tree.kept.splits.list l.leaf.ends l.coord l.rows.items

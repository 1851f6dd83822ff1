use Rattle.std.proofs.Common.{◌≡◌, length, map}
use Rattle.pool_model.specs.Network.{net_of}
use Rattle.row_model.specs.Entries.{made_by, AreInOrder}
use Rattle.box_tree.specs.Kept.{IsOf, searched_of}
use Rattle.box_tree.specs.Views.{shown_entry}
use Rattle.recorded_run.proofs.replay.replayed.Given as goal

abbrev pub invariant-loop-entry : goal.invariant-loop-entry
invariant-loop-entry l = record {
  tree : IsOf (net_of l.net) l.tree;
  made : searched_of l.tree.kept ≡ made_by (map shown_entry l.yielded);
  in_order : AreInOrder (net_of l.net) (map shown_entry l.yielded);
  number : l.number ≡ length l.yielded;
}

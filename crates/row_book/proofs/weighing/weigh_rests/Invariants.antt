use Rattle.std.proofs.Common.{◌≡◌, ◌+◌, ◌^◌, ◌≤◌}
use Rattle.pool_model.specs.Network.{net_of}
use Rattle.box_space.specs.Views.{shown_box}
use Rattle.row_book.specs.Sizes.{rests_weight}
use Rattle.row_book.proofs.weighing.weigh_rests.Given as goal

abbrev pub invariant-loop-var : goal.invariant-loop-var
invariant-loop-var l = record {
  weight : l.weight ≡ l.initial.weight + rests_weight (net_of l.net) (shown_box l.v) l.rests l.var;
  narrow : l.weight ≤ 2 ^ 126;
}

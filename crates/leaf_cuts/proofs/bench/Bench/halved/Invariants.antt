use Rattle.std.proofs.Common.{◌≡◌, All}
use Rattle.pool_model.specs.Network.{net_of}
use Rattle.row_model.specs.Boxes.{Box}
use Rattle.box_space.specs.Views.{AreEndsOf}
use Rattle.leaf_cuts.specs.Benches.{IsBench}
use Rattle.leaf_cuts.specs.Halvings.{IsHalvingOf}
use Rattle.leaf_cuts.proofs.bench.Bench.halved.Given as goal

abbrev pub invariant-loop-coord : goal.invariant-loop-coord
invariant-loop-coord l = record {
  bench : IsBench (net_of l.net) l.self;
  form : l.self.form ≡ l.fn.self.form;
  halvings : (b : Box) → AreEndsOf (net_of l.net) b l.leaf.ends → All (IsHalvingOf (net_of l.net) l.fn.self.form b l.leaf.bound) l.halvings.items;
}

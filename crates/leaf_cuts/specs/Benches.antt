-- The memory that boxes are proved in, and the network that it serves.
use Rattle.std.specs.Prelude.{◌≡◌}
use Rattle.pool_model.specs.Network.{Net}
use Rattle.dual_rounding.specs.Programs.{IsOfNetwork, form_rows, numbers}
use Rattle.dual_rounding.specs.Rooms.{Serves}
use Rattle.leaf_cuts.specs.declared.bench.Bench.{Bench}

-- the program is one of its form, and rounding serves the network
pub record IsBench (n : Net) (b : Bench) : Type 0 where
  pub network : IsOfNetwork n b.relaxation
  pub rows : numbers b.relaxation ≡ form_rows n b.form
  pub rounding : Serves n b.rounding

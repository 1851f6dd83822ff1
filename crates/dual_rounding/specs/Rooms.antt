-- The memory of rounding, and the network that it serves.
use Rattle.std.specs.Prelude.{◌≡◌}
use Rattle.pool_model.specs.Network.{Net}
use Rattle.row_book.specs.Fitting.{Fits}
use Rattle.box_space.specs.Views.{shown_proof}
use Rattle.dual_rounding.specs.Price.{price_proof}
use Rattle.dual_rounding.specs.declared.rounding.Rounding.{Rounding}

-- the scratch fits the network, and the price proof is the network's
pub record Serves (n : Net) (r : Rounding) : Type 0 where
  pub fits : Fits n r.scratch
  pub price : shown_proof r.price ≡ price_proof n

-- That a network was made from the rows of a file.
use Rattle.std.specs.Prelude.{◌≡◌}
use Rattle.pool_model.specs.Rows.{Rows, IsRectangular}
use Rattle.pool_model.specs.Naming.{network_of}
use Rattle.pool_model.specs.Network.{Network}
use Rattle.network_parts.specs.Faults.{IsFaultless}

-- rows that make this network, with no reason to refuse them
pub record IsMade (network : Network) : Type 0 where
  pub rows : Rows
  pub rectangular : IsRectangular rows
  pub faultless : IsFaultless rows
  pub named : network ≡ network_of rows

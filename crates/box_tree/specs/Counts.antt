-- How many splits are on each coordinate.
use Rattle.std.specs.Prelude.{◌≡◌, ℕ, ◌<◌, List, length, get_or, ◌==◌, filter}
use Rattle.pool_model.specs.Network.{Net}
use Rattle.row_model.specs.Boxes.{coords}
use Rattle.row_model.specs.Trees.{Split}

-- how many of the splits are on a coordinate
abbrev pub cuts_on : List Split → ℕ → ℕ
cuts_on splits coord = length (filter (λ s. s.coord == coord) splits)

-- for each coordinate the number of splits on it
pub record AreCounts (n : Net) (splits : List Split) (counts : List ℕ) : Type 0 where
  pub long : length counts ≡ coords n
  pub is : (coord : ℕ) → coord < coords n → get_or counts coord 0 ≡ cuts_on splits coord

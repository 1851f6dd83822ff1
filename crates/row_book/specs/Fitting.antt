-- A scratch that fits a network.
use Rattle.std.specs.Prelude.{◌≡◌, ℕ, ◌<◌, length, get_or, pos}
use Rattle.pool_model.specs.Network.{Net}
use Rattle.row_model.specs.Variables.{variables}
use Rattle.row_book.specs.declared.scratch.Scratch.{Scratch}

-- there is one number for each of the network's variables, and all are 0
pub record Fits (n : Net) (s : Scratch) : Type 0 where
  pub places : length s.rests.items ≡ variables n
  pub zero : (v : ℕ) → v < variables n → get_or s.rests.items v (pos 0) ≡ pos 0

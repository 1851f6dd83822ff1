-- What a page holds.
use Rattle.std.specs.Prelude.{ℕ, List, ◌++◌}

-- the bytes that were put there, and how many there may be
pub record Filled : Type 0 where
  pub bytes : List ℕ
  pub room : ℕ

-- the page with these bytes behind what it holds
abbrev pub with_bytes : Filled → List ℕ → Filled
with_bytes p bytes = record { bytes = p.bytes ++ bytes; room = p.room }

-- Bytes that lie in a room of fixed length.
use Rattle.std.specs.Prelude.{◌≡◌, ℕ, ◌≤◌, List, ◌++◌, length, Option}
use Rattle.shelf_calls.specs.Opened.{ahead, IsUsedUp}

-- how many bytes there is room for
abbrev pub room : ℕ
room = 65536

-- between which places of the room they lie
pub record IsInRoom (buffer : List ℕ) (from to : ℕ) : Type 0 where
  pub long : length buffer ≡ room
  pub order : from ≤ to
  pub within : to ≤ room

-- a piece of so many bytes of a file stands behind the bytes that were held, and it has none only where nothing is left
pub record IsHandedOut (held : List ℕ) (rest : Option (List ℕ)) (then : List ℕ) (now : Option (List ℕ)) (count : ℕ) : Type 0 where
  pub piece : List ℕ
  pub long : length piece ≡ count
  pub behind : then ≡ held ++ piece
  pub parts : rest ≡ ahead piece now
  pub some : count ≡ 0 → IsUsedUp rest

-- The rest of a file that was opened: what of it is not handed out yet.
use Rattle.std.specs.Prelude.{◌≡◌, ℕ, List, [], ◌++◌, Option, None, Some, option_map}
use Rattle.std.specs.Option.{ForSome}
use Rattle.shelf_calls.specs.Files.{file_of}

-- the rest is all of the file of that name
pub record IsAllOf (files : List (List ℕ × List ℕ)) (name : List ℕ) (rest : Option (List ℕ)) : Type 0 where
  pub bytes : List ℕ
  pub are : file_of files name ≡ Some bytes
  pub rest_is : rest ≡ Some bytes

-- the file of that name is open, none of it is handed out, and the rest is told where the files are
abbrev pub IsOpened : Option (List (List ℕ × List ℕ)) → List ℕ → Option (List ℕ) → Type 0
IsOpened None name rest = Unit {0}
IsOpened (Some files) name rest = IsAllOf files name rest

-- these bytes and a rest behind them, where it is told
abbrev pub ahead : List ℕ → Option (List ℕ) → Option (List ℕ)
ahead bytes rest = option_map (λ r. bytes ++ r) rest

-- nothing is left, where the rest is told
abbrev pub IsUsedUp : Option (List ℕ) → Type 0
IsUsedUp rest = ForSome rest (λ bytes. bytes ≡ [])

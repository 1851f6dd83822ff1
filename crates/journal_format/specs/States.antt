-- What the bytes before the records say of a file.
use Rattle.std.specs.Prelude.{◌≡◌, ℕ, List, ◌++◌, length, drop, true, false}
use Rattle.journal_format.specs.Files.{header, IsUnborn, SaysZeroed}
use Rattle.journal_format.specs.declared.head.State.{State}
use Rattle.journal_format.specs.declared.head.State.TheVariants.{Unborn, Zeroed, Born}

-- the file is in this state
abbrev pub IsIn : List ℕ → List ℕ → State → Type 0
IsIn text file Unborn = IsUnborn file × SaysZeroed false file
IsIn text file Zeroed = IsUnborn file × SaysZeroed true file
IsIn text file (Born v) = file ≡ header 1 v text ++ drop (length (header 1 v text)) file

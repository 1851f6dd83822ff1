-- What a shelf over the system's calls tells.
use Rattle.std.specs.Prelude.{◌≡◌, ℕ, ◌≤◌, Bool, true, false, List, [], ◌++◌, length, Option, Some, None}
use Rattle.shelf_calls.specs.Files.{file_of}

-- what is told, where the system tells
abbrev pub when_told : {X : Type 0} → Bool → X → Option X
when_told true x = Some x
when_told false x = None

-- what is left of a file, where one is open
abbrev pub left_of : {F : Type 0} → (F → List ℕ) → Option F → List ℕ
left_of rest None = []
left_of rest (Some file) = rest file

-- these bytes are a front of the file of that name, and all of it where there are at most so many
pub record IsFront (files : List (List ℕ × List ℕ)) (name : List ℕ) (most : ℕ) (bytes : List ℕ) : Type 0 where
  pub rest : List ℕ
  pub are : file_of files name ≡ Some (bytes ++ rest)
  pub whole : length bytes ≤ most → rest ≡ []

-- What a shelf tells of itself, and what each call keeps of it.
use Rattle.std.specs.Prelude.{◌≡◌, ℕ, Bool, List, Option}
use Rattle.std.specs.Option.{is_some}
use Rattle.edge_io.specs.Counts.{Grows}

-- what a shelf tells at one moment
pub record ShelfTold : Type 0 where
  -- its files, names with bytes, where it tells them; of two files of one name the first counts
  pub files : Option (List (List ℕ × List ℕ))
  -- which names it admits
  pub admits : List ℕ → Bool
  -- what is left of the opened file, where it tells it
  pub rest : Option (List ℕ)
  -- how many bytes its calls have taken
  pub taken : ℕ
  -- how many of its calls have failed
  pub faults : ℕ

-- What each call keeps: the files and the names, whether the rest is told, and that the counts only grow.
pub record Keeps (before after : ShelfTold) : Type 0 where
  pub same_files : after.files ≡ before.files
  pub same_names : after.admits ≡ before.admits
  pub same_telling : is_some after.rest ≡ is_some before.rest
  pub taken_grows : Grows before.taken after.taken
  pub faults_grow : Grows before.faults after.faults

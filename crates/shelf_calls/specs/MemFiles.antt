-- Files in memory, without where they lie.
use Rattle.std.specs.Prelude.{ℕ, List, drop, map, string_bytes, String, Vec}
use Rattle.std.specs.declared.alloc.Global.{Global}
use Rattle.shelf_calls.specs.declared.opened.Opened.{Opened}

-- names with bytes
abbrev pub files_of : List (String Global × Vec ℕ Global) → List (List ℕ × List ℕ)
files_of files = map (λ f. (string_bytes f.0, f.1.items)) files

-- what of an open file is not handed out
abbrev pub rest_in : Opened → List ℕ
rest_in file = drop file.done file.bytes.items

-- What a shelf in memory holds, and what it was told to do.
use Rattle.std.specs.Prelude.{ℕ, List, [], Option, None, Some, true}
use Rattle.shelf_calls.specs.MemFiles.{files_of, rest_in}
use Rattle.shelf_calls.specs.Told.{ShelfTold}
use Rattle.shelf_calls.specs.declared.opened.Opened.{Opened}
use Rattle.shelf_calls.specs.declared.mem_shelf.MemShelf.{MemShelf}

-- its files, names with bytes
abbrev pub contents_of : MemShelf → List (List ℕ × List ℕ)
contents_of s = files_of s.files.items

-- the numbers of the calls that fail
abbrev pub failing_of : MemShelf → List ℕ
failing_of s = s.failing.items

-- how many calls there were
abbrev pub calls_of : MemShelf → ℕ
calls_of s = s.calls

-- how many bytes its calls have taken
abbrev pub taken_of : MemShelf → ℕ
taken_of s = s.taken

-- how many of its calls failed
abbrev pub faults_of : MemShelf → ℕ
faults_of s = s.faults

-- what is left of a file, where one is open
abbrev pub left_of : Option Opened → List ℕ
left_of None = []
left_of (Some file) = rest_in file

-- what is left of the opened file
abbrev pub rest_of : MemShelf → List ℕ
rest_of s = left_of s.opened

-- the most bytes that one call hands out of it
abbrev pub piece_of : MemShelf → ℕ
piece_of s = s.piece

-- what it tells: all of this, and that it admits every name
abbrev pub told_of : MemShelf → ShelfTold
told_of s = record { files = Some (contents_of s); admits = λ _. true; rest = Some (rest_of s); taken = taken_of s; faults = faults_of s }

-- What a shelf of one file holds.
use Rattle.std.specs.Prelude.{ℕ, List, [], ◌∷◌, Some, bytes_eq}
use Rattle.shelf_calls.specs.Told.{ShelfTold}
use Rattle.shelf_calls.specs.declared.slice_shelf.SliceShelf.{SliceShelf}

-- the bytes of its file
abbrev pub bytes_of : SliceShelf → List ℕ
bytes_of s = s.bytes.now

-- what of them is not handed out
abbrev pub rest_of : SliceShelf → List ℕ
rest_of s = s.rest.now

-- how many bytes its calls have taken
abbrev pub taken_of : SliceShelf → ℕ
taken_of s = s.taken

-- what it tells: one file, without a name, and that it admits no other name; it never fails
abbrev pub told_of : SliceShelf → ShelfTold
told_of s = record { files = Some (([], bytes_of s) ∷ []); admits = bytes_eq []; rest = Some (rest_of s); taken = taken_of s; faults = 0 }

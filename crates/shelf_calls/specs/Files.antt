-- Files, as names with bytes.
use Rattle.std.specs.Prelude.{◌≡◌, ℕ, ◌+◌, ◌-◌, ◌^◌, ◌<◌, ◌⊎◌, List, [], ◌∷◌, length, Option, Some, None, if◌then◌else◌, bytes_eq}

-- the bytes of the first file of that name
abbrev pub file_of : List (List ℕ × List ℕ) → List ℕ → Option (List ℕ)
file_of [] name = None
file_of (f ∷ fs) name = if bytes_eq f.0 name then Some f.1 else file_of fs name

-- these are the bytes under that name, where the files are told
abbrev pub HasFile : Option (List (List ℕ × List ℕ)) → List ℕ → List ℕ → Type 0
HasFile None name bytes = Unit {0}
HasFile (Some files) name bytes = file_of files name ≡ Some bytes

-- the bytes under that name are more than `most`
pub record HasMore (files : List (List ℕ × List ℕ)) (name : List ℕ) (most : ℕ) : Type 0 where
  pub bytes : List ℕ
  pub are : file_of files name ≡ Some bytes
  pub more : most < length bytes

-- The file of that name has more than `most` bytes. Where the files aren't told, more than that many bytes were taken,
-- or their count stands at its last value.
-- Promise: Over a shelf that tells nothing a file is called too long (3 for NET, 5 for CERT) only where so many bytes were taken
abbrev pub IsTooLong : Option (List (List ℕ × List ℕ)) → List ℕ → ℕ → ℕ → ℕ → Type 0
IsTooLong None name most before after = (before + most < after) ⊎ (after ≡ 2 ^ 64 - 1)
IsTooLong (Some files) name most before after = HasMore files name most

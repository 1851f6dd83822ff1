-- The two versions of a journal's bytes.
use Rattle.std.specs.Prelude.{ℕ}
use Rattle.journal_format.specs.declared.version.Version.{Version}
use Rattle.journal_format.specs.declared.version.Version.TheVariants.{One, Two}

-- the byte that tells the version
abbrev pub version_byte : Version → ℕ
version_byte One = 1
version_byte Two = 2

-- the byte that a split's payload begins with
abbrev pub split_kind : Version → ℕ
split_kind One = 1
split_kind Two = 3

-- how many bytes the leaf of a split has
abbrev pub leaf_width : Version → ℕ
leaf_width One = 2
leaf_width Two = 4

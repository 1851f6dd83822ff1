-- The texts of pieces.
use Rattle.std.specs.Prelude.{ℕ, List, [], ◌∷◌}
use Rattle.std.specs.Fmt.{signed_decimal}
use Rattle.program_text.specs.declared.pieces.Piece.{Piece}
use Rattle.program_text.specs.declared.pieces.Piece.TheVariants.{Words, Letter, Number}

-- the text of a piece
abbrev pub piece_text : Piece → List ℕ
piece_text (Words words) = words.now
piece_text (Letter letter) = letter ∷ []
piece_text (Number n) = signed_decimal n

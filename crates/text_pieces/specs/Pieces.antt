-- Texts put together from pieces.
use Rattle.std.specs.Prelude.{ℕ, zero, suc, List, [], ◌++◌}
use Rattle.std.specs.List.{flat_map}
use Rattle.std.specs.Fmt.{signed_decimal}
use Rattle.text_pieces.specs.Decimals.{decimal_text, column_text}
use Rattle.text_pieces.specs.declared.pieces.Piece.{Piece}
use Rattle.text_pieces.specs.declared.pieces.Piece.TheVariants.{Words, Whole, Decimal, Column}

-- texts, one behind the other
abbrev pub joined : List (List ℕ) → List ℕ
joined texts = flat_map (λ text. text) texts

-- the texts of the first so many numbers, one behind the other
abbrev pub each_below : (ℕ → List ℕ) → ℕ → List ℕ
each_below text zero = []
each_below text (suc n) = each_below text n ++ text n

-- the text of a piece
abbrev pub piece_text : Piece → List ℕ
piece_text (Words words) = words.now
piece_text (Whole n) = signed_decimal n
piece_text (Decimal m) = decimal_text m
piece_text (Column m) = column_text m

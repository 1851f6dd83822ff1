-- The lines that `checktight` prints.
use Rattle.std.specs.Prelude.{ℕ, List, [], ◌∷◌, ◌++◌, codes, Option, None, Some, ℤ, pos}
use Rattle.std.specs.Fmt.{signed_decimal}
use Rattle.text_pieces.specs.Pieces.{joined}
use Rattle.tight_checks.specs.Refusals.{number}
use Rattle.tight_checks.specs.declared.refusal.TightRefusal.{TightRefusal}
use Rattle.tight_checks.specs.declared.verdict.TightVerdict.{TightVerdict}

-- how many marks there are of each kind
abbrev pub counts_text : TightVerdict → List ℕ
counts_text v =
    joined (codes "accepted tight " ∷ signed_decimal (pos v.tight) ∷ codes " raised " ∷ signed_decimal (pos v.raised) ∷ codes " empty " ∷ signed_decimal (pos v.empty)
    ∷ codes " loose " ∷ signed_decimal (pos v.loose) ∷ [])

-- the bound, or the word for none, and the end of the line
abbrev pub bound_text : Option ℤ → List ℕ
bound_text None = codes " bound none\n"
bound_text (Some bound) = joined (codes " bound " ∷ signed_decimal bound ∷ codes "\n" ∷ [])

-- the line of marks that are accepted
abbrev pub accepted_tight_line : TightVerdict → List ℕ
accepted_tight_line v = counts_text v ++ bound_text v.bound

-- the line of a cause of this number
abbrev pub cause_line : ℕ → List ℕ
cause_line n = joined (codes "refused tight " ∷ signed_decimal (pos n) ∷ codes "\n" ∷ [])

-- the line of a text of marks that is refused
abbrev pub refused_tight_line : TightRefusal → List ℕ
refused_tight_line refusal = cause_line (number refusal)

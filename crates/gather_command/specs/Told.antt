-- What `gather` writes, line by line.
use Rattle.std.specs.Prelude.{ℕ, List, [], ◌∷◌, ◌++◌, length, codes, Option, None, Some, ℤ, pos}
use Rattle.std.specs.List.{flat_map}
use Rattle.std.specs.Fmt.{signed_decimal}
use Rattle.pool_model.specs.Network.{Net}
use Rattle.row_model.specs.Trees.{tree_bound}
use Rattle.box_tree.specs.EntryFaults.{number}
use Rattle.text_pieces.specs.Pieces.{joined}
use Rattle.work_units.specs.Desks.{Desk}
use Rattle.work_units.specs.declared.answer.Judged.{Judged}
use Rattle.work_units.specs.declared.answer.Judged.TheVariants.{Stranger, Repeated, Wrong, Refused, Fits}
use Rattle.gathered_run.specs.declared.told.Line.{Line}
use Rattle.gathered_run.specs.declared.told.Line.TheVariants.{Answer, Faulty}

-- how an answer was judged: one that fits was taken, and of a refused one the number of its fault is told
abbrev pub judged_words : Judged → List (List ℕ)
judged_words Fits = codes " taken\n" ∷ []
judged_words Stranger = codes " stranger\n" ∷ []
judged_words Repeated = codes " repeated\n" ∷ []
judged_words Wrong = codes " wrong\n" ∷ []
judged_words (Refused fault) = codes " refused " ∷ signed_decimal (pos (number fault)) ∷ codes "\n" ∷ []

-- the line of an answer, and that of a file that spells none, by its number from 0 and its first faulty line
abbrev pub line_text : Line → List ℕ
line_text (Answer number how) = joined (codes "answer " ∷ signed_decimal (pos number) ∷ judged_words how)
line_text (Faulty file line) = joined (codes "file " ∷ signed_decimal (pos file) ∷ codes " text " ∷ signed_decimal (pos line) ∷ codes "\n" ∷ [])

-- a bound in picos, or that every leaf holds no plan
abbrev pub bound_text : Option ℤ → List ℕ
bound_text None = codes "none"
bound_text (Some bound) = signed_decimal bound

-- the last line: how many answers were taken, how many splits the tree has then, and its bound
abbrev pub taken_line : (taken splits : ℕ) (bound : Option ℤ) → List ℕ
taken_line taken splits bound =
    joined (codes "taken " ∷ signed_decimal (pos taken) ∷ codes " splits " ∷ signed_decimal (pos splits) ∷ codes " bound " ∷ bound_text bound ∷ codes "\n" ∷ [])

-- all of it: a line for each answer and for each file that spells none, in order, and of the desk after the last one
abbrev pub told_text : Net → List Line → Desk → List ℕ
told_text n lines d = flat_map line_text lines ++ taken_line (length d.taken) (length d.searched.tree.splits) (tree_bound n d.searched.tree)

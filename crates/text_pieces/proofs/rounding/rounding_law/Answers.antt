use Rattle.text_pieces.proofs.Floors.{floor-lt, ceiling-ge, ceiling-gt}
use Rattle.text_pieces.proofs.rounding.rounding_law.Goals as goal

pub returns-clause-greatest : goal.returns-clause-greatest
returns-clause-greatest c = λ num den h. floor-lt num den h

pub returns-clause-not_below : goal.returns-clause-not_below
returns-clause-not_below c = λ num den h. ceiling-ge num den h

pub returns-clause-least : goal.returns-clause-least
returns-clause-least c = λ num den h. ceiling-gt num den h

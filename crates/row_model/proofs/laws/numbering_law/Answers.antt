use Rattle.row_model.proofs.Numbering.{by_number-dot}
use Rattle.row_model.proofs.laws.numbering_law.Goals as goal

pub returns : goal.returns
returns c = record { dot = by_number-dot }

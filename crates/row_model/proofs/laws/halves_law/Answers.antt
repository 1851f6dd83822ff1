use Rattle.row_model.proofs.Halves.{lies-half, left-proper, right-proper}
use Rattle.row_model.proofs.laws.halves_law.Goals as goal

pub returns : goal.returns
returns c = record { covered = lies-half; left_proper = left-proper; right_proper = right-proper }

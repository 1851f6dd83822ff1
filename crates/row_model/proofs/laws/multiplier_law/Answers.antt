use Rattle.row_model.proofs.Duality.{shown-holds}
use Rattle.row_model.proofs.laws.multiplier_law.Goals as goal

pub returns : goal.returns
returns c = record { shown = λ n b proof lim o h. shown-holds n b proof lim o (record { each = h }) }

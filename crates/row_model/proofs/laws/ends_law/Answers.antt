use Rattle.row_model.proofs.VariableEnds.{lows-hold_by_number, highs-hold_by_number}
use Rattle.row_model.proofs.laws.ends_law.Goals as goal

pub returns : goal.returns
returns c = record { low = λ n b p v. lows-hold_by_number n p b v; high = λ n b p v. highs-hold_by_number n p b v }

use Rattle.row_model.proofs.Duality.{proof-holds}
use Rattle.row_model.proofs.laws.proof_law.Goals as goal

pub returns : goal.returns
returns c = record { shown = proof-holds }

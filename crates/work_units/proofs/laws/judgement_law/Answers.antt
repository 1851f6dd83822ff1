use Rattle.work_units.proofs.Judgements.{one-judgement}
use Rattle.work_units.proofs.laws.judgement_law.Goals as goal

pub returns : goal.returns
returns c = one-judgement

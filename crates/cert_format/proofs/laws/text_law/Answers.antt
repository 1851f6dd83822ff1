use Rattle.cert_format.proofs.Outcomes.{one_text}
use Rattle.cert_format.proofs.laws.text_law.Goals as goal

pub returns : goal.returns
returns c = record { one_text = one_text }

use Rattle.cert_lengths.proofs.ValidTexts.{few_parts, few_proofs, few_in_all}
use Rattle.cert_lengths.proofs.laws.parts_law.Goals as goal

pub returns : goal.returns
returns c = record { each = few_parts; proofs = few_proofs; all = few_in_all }

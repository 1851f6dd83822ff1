use Rattle.cert_lengths.proofs.ValidTexts.{few_rows-fewer, few_rows-grown}
use Rattle.cert_lengths.proofs.laws.few_rows_law.Goals as goal

pub returns : goal.returns
returns c = record { fewer = few_rows-fewer; grown = few_rows-grown }

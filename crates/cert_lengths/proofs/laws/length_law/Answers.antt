use Rattle.cert_lengths.proofs.ValidTexts.{length-valid, short_enough}
use Rattle.cert_lengths.proofs.laws.length_law.Goals as goal

pub returns : goal.returns
returns c = record { room = length-valid; short = short_enough }

use Rattle.cert_lengths.proofs.Lines.{length-part, length-split, length-proof}
use Rattle.cert_lengths.proofs.Texts.{length-text}
use Rattle.cert_lengths.proofs.laws.lines_law.Goals as goal

pub returns : goal.returns
returns c = record { part = length-part; split = length-split; proof = length-proof; text = length-text }

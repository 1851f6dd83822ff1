use Rattle.tight_texts.proofs.Wholes.{marks-whole, marks-fault, one-marks}
use Rattle.tight_texts.proofs.laws.text_law.Goals as goal

pub returns : goal.returns
returns c = record { marks = marks-whole; faulty = marks-fault; one = one-marks }

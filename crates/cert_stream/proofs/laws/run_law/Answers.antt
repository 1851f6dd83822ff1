use Rattle.cert_stream.proofs.Calls.{ran-none, ran-next}
use Rattle.cert_stream.proofs.Runs.{run-ends, run-begins, run-fails, run-paid}
use Rattle.cert_stream.proofs.laws.run_law.Goals as goal

pub returns : goal.returns
returns c = record {
  begun = ran-none;
  goes_on = λ r rest s now is t later item h going g. ran-next is item h going g;
  ends = run-ends;
  begins = run-begins;
  fails = run-fails;
  paid = run-paid;
}

use Rattle.cert_checker.proofs.Followed.{valid-follows}
use Rattle.cert_checker.proofs.laws.valid_law.Goals as goal

pub returns : goal.returns
returns c = valid-follows

use Rattle.tree_certificate.proofs.Found.{found_valid}
use Rattle.tree_certificate.proofs.laws.found_law.Goals as goal

pub returns : goal.returns
returns c = found_valid

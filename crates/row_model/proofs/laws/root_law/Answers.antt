use Rattle.row_model.proofs.RootBox.{root-proper, lies-root}
use Rattle.row_model.proofs.laws.root_law.Goals as goal

pub returns : goal.returns
returns c = record { proper = root-proper; holds = lies-root }

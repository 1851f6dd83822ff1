use Rattle.row_model.proofs.EntryLaw.{searched-kept}
use Rattle.row_model.proofs.tree_laws.entry_law.Goals as goal

pub returns : goal.returns
returns c = record { kept = searched-kept }

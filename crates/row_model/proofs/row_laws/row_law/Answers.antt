use Rattle.row_model.proofs.CatalogueRows.{row_at-holds}
use Rattle.row_model.proofs.row_laws.row_law.Goals as goal

pub returns : goal.returns
returns c = record { holds = λ n b p id limited obeys lies below. row_at-holds n b p id limited obeys lies below }

use Rattle.serde_json.specs.View.{view}
use Rattle.pool_model.specs.Rows.{IsRectangular}
use Rattle.network_json.specs.Format.{network}
use Rattle.network_json.proofs.Widths.{network_wide, rows_if}
use Rattle.network_json.proofs.read.read_rows.Goals as goal

pub returns-clause-rectangular : goal.returns-clause-rectangular
returns-clause-rectangular c = rows_if IsRectangular c.network.result (network (view c.in_ok-value.value)) c.network.ensures (network_wide (view c.in_ok-value.value))

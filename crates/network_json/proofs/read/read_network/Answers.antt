use Rattle.network_json.proofs.Found.{refused_if}
use Rattle.network_json.proofs.read.read_network.Goals as goal

pub returns-in_err-parts-clause-refused : goal.returns-in_err-parts-clause-refused
returns-in_err-parts-clause-refused c = refused_if c.args.bytes.now c.from_residual.result c.in_err-parts.field-0.0 c.from_residual.ensures.1 c.in_err-parts.ensures.rows

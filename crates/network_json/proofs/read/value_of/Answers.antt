use Rattle.std.proofs.Common.{rules, refl}
use Rattle.serde_json.specs.View.{view}
use Rattle.network_json.proofs.Bytes.{value_found, value_absent}
use Rattle.network_json.proofs.read.value_of.Goals as goal

pub returns-in-Ok : goal.returns-in-Ok
returns-in-Ok c = rw (value_found c.args.bytes.now (view c.in-Ok.value) c.in-Ok.ensures.ok) refl

pub returns-else-is_memory : goal.returns-else-is_memory
returns-else-is_memory c = λ other. rw (value_absent c.args.bytes.now (c.in-Err.ensures.err (search rules))) refl

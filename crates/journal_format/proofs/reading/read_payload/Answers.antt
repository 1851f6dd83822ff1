use Rattle.std.proofs.Common.{arith}
use Rattle.box_tree.specs.Views.{shown_entry}
use Rattle.journal_format.proofs.RecordLaws.{read_spells}
use Rattle.journal_format.proofs.reading.read_payload.Goals as goal

pub returns-clause-spelled : goal.returns-clause-spelled
returns-clause-spelled c = read_spells c.args.version shown_entry c.args.bytes.now c.whole.result (λ i. omega (arith, c.type_inv.bytes i)) c.whole.ensures

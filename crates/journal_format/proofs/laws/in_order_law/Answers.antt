use Rattle.journal_format.proofs.ShortPayloads.{allowed_in_order}
use Rattle.journal_format.proofs.laws.in_order_law.Goals as goal

pub returns : goal.returns
returns c = allowed_in_order

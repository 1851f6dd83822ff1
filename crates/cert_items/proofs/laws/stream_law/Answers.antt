use Rattle.cert_items.proofs.ItemLaws.{gave-end, gave-prefix, gave-fault, gave-behind}
use Rattle.cert_items.proofs.laws.stream_law.Goals as goal

pub returns : goal.returns
returns c = record { ends = gave-end; begins = gave-prefix; fails = gave-fault; stops = gave-behind }

use Rattle.std.proofs.Common.{◌≡◌, ℕ, List, length, take, drop, ◌∙◌}
use Rattle.disk_calls.proofs.Calling.{at-file}
use Rattle.journal_format.proofs.RecordLaws.{first_bytes}
use Rattle.node_journal.proofs.records.opening_in.Goals as goal

pub returns-clause-opens : goal.returns-clause-opens
returns-clause-opens g c = λ file is size.
    let bytes = at-file (g.D.Disk.told c.args.disk.now).reads file (λ (f : List ℕ). c.read_back.new.into ≡ take (length c.args.head.now) (drop c.args.at f)) is c.in_ok-read_back.ensures.bytes in
    c.opening_of.ensures (drop c.args.at file) (bytes ∙ first_bytes c.args.at c.args.end (length c.args.head.now) file size c.requires.size)

use Rattle.std.proofs.Common.{◌≡◌, ℕ, List, length, take, drop, None, inr, subst}
use Rattle.std.specs.Prelude.{MatchOption}
use Rattle.std.proofs.lemmas.Result.{MatchResult-weaker}
use Rattle.disk_calls.proofs.Calling.{at-file}
use Rattle.journal_format.specs.Payload.{turn_payload}
use Rattle.journal_format.specs.Reading.{payload_at}
use Rattle.journal_format.specs.declared.version.Version.TheVariants.{One}
use Rattle.node_journal.specs.Found.{Spells}
use Rattle.node_journal.proofs.records.record_at.Goals as goal

pub returns-clause-read : goal.returns-clause-read
returns-clause-read g c =
    MatchResult-weaker c.record_in.result c.record_in.ensures.read
    (λ o h file is.
    let bytes = at-file (g.D.Disk.told c.args.disk.now).reads file (λ (f : List ℕ). c.read_back.new.into ≡ take (length c.args.room.now) (drop c.args.at f)) is c.in_ok-read_back.ensures.bytes in
    subst (λ (l : List ℕ). MatchOption o ((payload_at c.args.version l ≡ None) × (c.args.version ≡ One → ¬ (l ≡ turn_payload))) (Spells c.args.version l)) bytes h) (λ e free. free)

pub returns-clause-free : goal.returns-clause-free
returns-clause-free g c = MatchResult-weaker c.record_in.result c.record_in.ensures.memory (λ o free. free) (λ e is. inr is)

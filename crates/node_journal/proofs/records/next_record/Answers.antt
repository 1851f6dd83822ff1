use Rattle.std.proofs.Common.{refl, inr, length, drop, subst}
use Rattle.journal_format.specs.Records.{Opens}
use Rattle.journal_format.proofs.RecordLaws.{bad_cut}
use Rattle.node_journal.proofs.records.next_record.Goals as goal

pub returns-in-CutShort-clause-read : goal.returns-in-CutShort-clause-read
returns-in-CutShort-clause-read g c = λ file is size.
    let opens = subst (Opens (drop c.args.spot.at file)) c.in-CutShort.is (c.in_ok-opening_at.ensures.opens file is size) in
    inr (refl, bad_cut c.args.spot.version (length c.args.room.now) (drop c.args.spot.at file) opens)

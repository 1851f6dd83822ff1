use Rattle.std.proofs.Common.{◌≡◌, ◌⊎◌, ℕ, ◌+◌, ◌<◌, length, take, drop, None, inl, inr, refl, sym, subst, arith, length-take}
use Rattle.std.proofs.lemmas.Option.{MatchOption-at_some, MatchOption-at_none}
use Rattle.journal_format.specs.Payload.{turn_payload}
use Rattle.journal_format.specs.Reading.{payload_at}
use Rattle.journal_format.specs.declared.version.Version.TheVariants.{One}
use Rattle.journal_format.proofs.RecordLaws.{opened_long, opened_none}
use Rattle.node_journal.specs.Found.{Spells, IsRecordAt}
use Rattle.node_journal.proofs.Spelled.{spelled-at}
use Rattle.node_journal.proofs.records.open_record.Goals as goal
use Rattle.node_journal.proofs.records.open_record.Goals.{then-size-room-via-then-size-room, then-size-room-via-else-size-room+then-after-end}

pub returns-then-size-room-clause-read : goal.returns-then-size-room-clause-read
returns-then-size-room-clause-read g c = λ file is size opens.
    let long : length c.args.room.now < c.args.size ⊎ c.args.end < c.args.spot.at + 5 + c.args.size =
    elim c.then-size-room.branch [
      | then-size-room-via-then-size-room w ↦ inl (omega arith)
      | then-size-room-via-else-size-room+then-after-end w ↦ inr (omega arith)
    ] in
    inr (refl, opened_long c.args.spot.version (length c.args.room.now) c.args.spot.at c.args.size file opens c.args.end c.requires.room size long)

pub returns-in-Some-clause-read : goal.returns-in-Some-clause-read
returns-in-Some-clause-read g c = λ file is size opens.
    let v = c.args.spot.version in
    let at = c.args.spot.at in
    let part : length (take c.args.size c.args.room.now) ≡ c.args.size = omega (arith, length-take c.args.size c.args.room.now) in
    let bytes = take (length (take c.args.size c.args.room.now)) (drop (at + 5) file) in
    let read = MatchOption-at_some
    ((payload_at v bytes ≡ None) × (v ≡ One → ¬ (bytes ≡ turn_payload))) (Spells v bytes)
    c.in-Some.record c.in-Some.is (c.in_ok-record.ensures.read file is) in
    let whole = subst (λ (k : ℕ). Spells v (take k (drop (at + 5) file)) c.in-Some.record) part read in
    subst (λ (k : ℕ). IsRecordAt v (length c.args.room.now) at file c.in-Some.record (at + 5 + k)) (sym c.from.ensures)
    (spelled-at v (length c.args.room.now) at c.args.size file opens c.in-Some.record (omega arith) (omega arith) whole)

pub returns-in-None-clause-read : goal.returns-in-None-clause-read
returns-in-None-clause-read g c = λ file is size opens.
    let v = c.args.spot.version in
    let at = c.args.spot.at in
    let part : length (take c.args.size c.args.room.now) ≡ c.args.size = omega (arith, length-take c.args.size c.args.room.now) in
    let bytes = take (length (take c.args.size c.args.room.now)) (drop (at + 5) file) in
    let read = MatchOption-at_none
    ((payload_at v bytes ≡ None) × (v ≡ One → ¬ (bytes ≡ turn_payload))) (Spells v bytes)
    c.in-None.is (c.in_ok-record.ensures.read file is) in
    let none = subst (λ (k : ℕ). payload_at v (take k (drop (at + 5) file)) ≡ None) part read.0 in
    let other = subst (λ (k : ℕ). v ≡ One → ¬ (take k (drop (at + 5) file) ≡ turn_payload)) part read.1 in
    inr (refl, opened_none v (length c.args.room.now) at c.args.size file opens none other)

use Rattle.std.proofs.Common.{◌≡◌, ◌+◌, ◌++◌, length, ap, ◌∙◌, refl, arith}
use Rattle.disk_calls.proofs.Moments.{leaves-weaker}
use Rattle.journal_format.specs.Payload.{turn_payload}
use Rattle.journal_format.specs.Histories.{framed}
use Rattle.journal_format.specs.Files.{IsKept}
use Rattle.journal_format.specs.declared.version.Version.TheVariants.{Two}
use Rattle.journal_format.proofs.RecordLaws.{length-behind_gate}
use Rattle.node_journal.specs.Journals.{Ready, IsPutBehind}
use Rattle.node_journal.proofs.Appends.{front_there, shut_there, put_turn, kept_turn}
use Rattle.node_journal.proofs.journal.Journal.turn.Goals as goal

pub write_record-requires-clause-left : goal.write_record-requires-clause-left
write_record-requires-clause-left g c = λ tells.
    let was = c.requires.left tells in
    let gate : c.self.inside.gate ≡ c.args.self.now.next.gate = ap (λ (r : Ready). r.next.gate) c.self.view_is in (
      front_there c.args.self.now.next was.0 was.1 was.2 was.4,
      was.2,
      was.3,
      gate ∙ was.4.place,
      shut_there c.args.self.now.next was.0 was.1 was.2 was.4,
    )

pub returns-in-Ok-clause-acknowledged : goal.returns-in-Ok-clause-acknowledged
returns-in-Ok-clause-acknowledged g c = λ text file list d kept.
    let gate : c.self.inside.gate ≡ c.args.self.now.next.gate = ap (λ (r : Ready). r.next.gate) c.self.view_is in
    let was = shut_there c.args.self.now.next text list file kept in
    let done = c.in-Ok.ensures.on_disk (front_there c.args.self.now.next text list file kept) file turn_payload d (gate ∙ kept.place) was c.turn_behind_gate-behind.ensures in
    let place : c.self.inside.gate + 6 ≡ length (front_there c.args.self.now.next text list file kept ++ framed turn_payload) =
    omega (arith, done.2, ap length c.turn_behind_gate-behind.ensures, length-behind_gate turn_payload) in
    (done.0, done.1, kept_turn c.args.self.now.next text list file kept c.requires.due (record { gate = c.self.inside.gate + 6; version = Two }) done.0 place refl done.3)

pub returns-in-Ok-clause-any_moment : goal.returns-in-Ok-clause-any_moment
returns-in-Ok-clause-any_moment g c = λ text file list d kept.
    let gate : c.self.inside.gate ≡ c.args.self.now.next.gate = ap (λ (r : Ready). r.next.gate) c.self.view_is in
    let was = shut_there c.args.self.now.next text list file kept in
    leaves-weaker (g.D.Disk.told c.args.disk.now) (g.D.Disk.told c.write_record.new.disk) (IsPutBehind (front_there c.args.self.now.next text list file kept) turn_payload)
    (IsKept text list) (λ k at. put_turn c.args.self.now.next text list file kept c.requires.due k at)
    (c.write_record.ensures.any_moment (front_there c.args.self.now.next text list file kept) file turn_payload d (gate ∙ kept.place) was c.turn_behind_gate-behind.ensures)

pub returns-in-Err-clause-any_moment : goal.returns-in-Err-clause-any_moment
returns-in-Err-clause-any_moment g c = λ text file list d kept.
    let gate : c.self.inside.gate ≡ c.args.self.now.next.gate = ap (λ (r : Ready). r.next.gate) c.self.view_is in
    let was = shut_there c.args.self.now.next text list file kept in
    leaves-weaker (g.D.Disk.told c.args.disk.now) (g.D.Disk.told c.write_record.new.disk) (IsPutBehind (front_there c.args.self.now.next text list file kept) turn_payload)
    (IsKept text list) (λ k at. put_turn c.args.self.now.next text list file kept c.requires.due k at)
    (c.write_record.ensures.any_moment (front_there c.args.self.now.next text list file kept) file turn_payload d (gate ∙ kept.place) was c.turn_behind_gate-behind.ensures)

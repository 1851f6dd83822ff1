use Rattle.std.proofs.Common.{◌≡◌, ◌+◌, ◌-◌, length, ap, sym, ◌∙◌, arith}
use Rattle.disk_calls.proofs.Moments.{leaves-weaker}
use Rattle.box_tree.specs.Views.{shown_entry}
use Rattle.journal_format.specs.Payload.{payload}
use Rattle.journal_format.specs.Files.{IsRecordable, behind_gate}
use Rattle.journal_format.specs.Pages.{Filled}
use Rattle.journal_format.specs.declared.version.Version.TheVariants.{Two}
use Rattle.node_journal.specs.Journals.{Ready, IsPutBehind, IsBeforeOrAfter}
use Rattle.journal_format.proofs.RecordLaws.{length-behind_gate}
use Rattle.node_journal.proofs.Appends.{front_there, shut_there, put_entry, kept_entry}
use Rattle.node_journal.proofs.journal.Journal.append.Goals as goal

pub write_record-requires-clause-left : goal.write_record-requires-clause-left
write_record-requires-clause-left g c = λ tells.
    let was = c.requires.left tells in
    let gate : c.self.inside.gate ≡ c.args.self.now.next.gate = ap (λ (r : Ready). r.next.gate) c.self.view_is in (
      front_there c.args.self.now.next was.0 was.1 was.2 was.4,
      was.2,
      was.3,
      gate ∙ was.4.place,
      shut_there c.args.self.now.next was.0 was.1 was.2 was.4,
    )

pub overflow_cast-size : goal.overflow_cast-size
overflow_cast-size g c = omega (arith, c.requires.short, ap (λ (r : Ready). r.largest) c.self.view_is, c.self.invariant.small, c.payload_len-size.ensures)

pub invariant_of-self : goal.invariant_of-self
invariant_of-self g c =
    let e = shown_entry c.args.entry.now in
    let largest : c.self.inside.page.room - 5 ≡ c.args.self.now.largest = ap (λ (r : Ready). r.largest) c.self.view_is in
    let size : c.payload_len-size.result ≡ length (payload Two e) = omega (arith, c.requires.short, largest, c.self.invariant.small, c.payload_len-size.ensures) in
    let are : c.bytes.result.now ≡ behind_gate (payload Two e) = c.bytes.ensures ∙ ap (λ (p : Filled). p.bytes) c.put_behind_gate.ensures.bytes in
    let room : c.put_behind_gate.new.page.room ≡ c.self.inside.page.room = ap (λ (p : Filled). p.room) c.put_behind_gate.ensures.bytes in
    record {
      near = omega (arith, c.in-Ok.ensures.short, ap length are, length-behind_gate (payload Two e), size, c.from.ensures);
      framed = omega (arith, room, c.self.invariant.framed);
      small = omega (arith, room, c.self.invariant.small);
    }

pub returns-in-Ok-clause-acknowledged : goal.returns-in-Ok-clause-acknowledged
returns-in-Ok-clause-acknowledged g c = λ text file list d kept.
    let e = shown_entry c.args.entry.now in
    let largest : c.self.inside.page.room - 5 ≡ c.args.self.now.largest = ap (λ (r : Ready). r.largest) c.self.view_is in
    let size : c.payload_len-size.result ≡ length (payload Two e) = omega (arith, c.requires.short, largest, c.self.invariant.small, c.payload_len-size.ensures) in
    let are : c.bytes.result.now ≡ behind_gate (payload Two e) = c.bytes.ensures ∙ ap (λ (p : Filled). p.bytes) c.put_behind_gate.ensures.bytes in
    let good : IsRecordable Two e = record { fits = c.put_behind_gate.ensures.fits; short = omega (arith, c.requires.short, largest, c.self.invariant.small) } in
    let gate : c.self.inside.gate ≡ c.args.self.now.next.gate = ap (λ (r : Ready). r.next.gate) c.self.view_is in
    let was = shut_there c.args.self.now.next text list file kept in
    let done = c.in-Ok.ensures.on_disk (front_there c.args.self.now.next text list file kept) file (payload Two e) d (gate ∙ kept.place) was are in
    let place : c.self.inside.gate + length c.bytes.result.now ≡ c.self.inside.gate + 5 + c.from.result = omega (arith, ap length are, length-behind_gate (payload Two e), size, c.from.ensures) in (
      done.0,
      done.1,
      kept_entry c.args.self.now.next text list file kept e good c.requires.turned _ done.0 (sym place ∙ done.2)
          (ap (λ (r : Ready). r.next.version) c.self.view_is ∙ c.requires.turned) done.3,
    )

pub returns-in-Ok-clause-any_moment : goal.returns-in-Ok-clause-any_moment
returns-in-Ok-clause-any_moment g c = λ text file list d kept.
    let e = shown_entry c.args.entry.now in
    let largest : c.self.inside.page.room - 5 ≡ c.args.self.now.largest = ap (λ (r : Ready). r.largest) c.self.view_is in
    let size : c.payload_len-size.result ≡ length (payload Two e) = omega (arith, c.requires.short, largest, c.self.invariant.small, c.payload_len-size.ensures) in
    let are : c.bytes.result.now ≡ behind_gate (payload Two e) = c.bytes.ensures ∙ ap (λ (p : Filled). p.bytes) c.put_behind_gate.ensures.bytes in
    let good : IsRecordable Two e = record { fits = c.put_behind_gate.ensures.fits; short = omega (arith, c.requires.short, largest, c.self.invariant.small) } in
    let gate : c.self.inside.gate ≡ c.args.self.now.next.gate = ap (λ (r : Ready). r.next.gate) c.self.view_is in
    let was = shut_there c.args.self.now.next text list file kept in
    leaves-weaker (g.D.Disk.told c.args.disk.now) (g.D.Disk.told c.write_record.new.disk) (IsPutBehind (front_there c.args.self.now.next text list file kept) (payload Two e))
    (IsBeforeOrAfter text list e) (λ k at. put_entry c.args.self.now.next text list file kept e good c.requires.turned k at)
    (c.write_record.ensures.any_moment (front_there c.args.self.now.next text list file kept) file (payload Two e) d (gate ∙ kept.place) was are)

pub returns-in-Err-clause-any_moment : goal.returns-in-Err-clause-any_moment
returns-in-Err-clause-any_moment g c = λ text file list d kept.
    let e = shown_entry c.args.entry.now in
    let largest : c.self.inside.page.room - 5 ≡ c.args.self.now.largest = ap (λ (r : Ready). r.largest) c.self.view_is in
    let size : c.payload_len-size.result ≡ length (payload Two e) = omega (arith, c.requires.short, largest, c.self.invariant.small, c.payload_len-size.ensures) in
    let are : c.bytes.result.now ≡ behind_gate (payload Two e) = c.bytes.ensures ∙ ap (λ (p : Filled). p.bytes) c.put_behind_gate.ensures.bytes in
    let good : IsRecordable Two e = record { fits = c.put_behind_gate.ensures.fits; short = omega (arith, c.requires.short, largest, c.self.invariant.small) } in
    let gate : c.self.inside.gate ≡ c.args.self.now.next.gate = ap (λ (r : Ready). r.next.gate) c.self.view_is in
    let was = shut_there c.args.self.now.next text list file kept in
    leaves-weaker (g.D.Disk.told c.args.disk.now) (g.D.Disk.told c.write_record.new.disk) (IsPutBehind (front_there c.args.self.now.next text list file kept) (payload Two e))
    (IsBeforeOrAfter text list e) (λ k at. put_entry c.args.self.now.next text list file kept e good c.requires.turned k at)
    (c.write_record.ensures.any_moment (front_there c.args.self.now.next text list file kept) file (payload Two e) d (gate ∙ kept.place) was are)

pub returns-in-Ok-clause-turned : goal.returns-in-Ok-clause-turned
returns-in-Ok-clause-turned g c = ap (λ (r : Ready). r.next.version) c.self.view_is ∙ c.requires.turned

use Rattle.std.proofs.Common.{ℕ, ◌+◌, List, [], ◌∷◌, length, inl, subst, arith}
use Rattle.std.specs.Prelude.{IsTrue}
use Rattle.std.proofs.lemmas.Result.{on_ok_weaker}
use Rattle.disk_calls.specs.Disks.{written, Torn}
use Rattle.disk_calls.proofs.Moments.{goes_further, leaves-weaker}
use Rattle.node_journal.specs.Journals.{IsPutBehind}
use Rattle.node_journal.proofs.Runs.{reaches-known}
use Rattle.node_journal.proofs.Appends.{parted, long, torn_record, staged_long, torn_gate, opened_gate, opened_place}
use Rattle.node_journal.proofs.journal.write_record.Goals as goal

pub write_synced-requires : goal.write_synced-requires
write_synced-requires g c = λ tells.
    let was = c.requires.left tells in
    reaches-known (g.D.Disk.told c.args.disk.now).reads was.1 (c.args.gate + 1) was.2.read (long c.args.gate was.0 was.1 (parted c.args.gate was.0 was.1 was.3 was.4))

pub write_synced-requires-2 : goal.write_synced-requires-2
write_synced-requires-2 g c = λ tells.
    let was = c.requires.left (subst IsTrue c.write_synced.ensures.same_disk.device.same_telling tells) in
    let file = written was.1 (c.args.gate + 1) c.args.behind.now in
    let mid = c.in_ok-write_synced.ensures.on_disk was.1 was.2.read in
    let far = staged_long c.args.gate was.0 was.1 (parted c.args.gate was.0 was.1 was.3 was.4) c.args.behind.now in
    reaches-known (g.D.Disk.told c.write_synced.new.disk).reads file c.args.gate mid.read (omega arith)

pub returns-in_err-write_synced-clause-any_moment : goal.returns-in_err-write_synced-clause-any_moment
returns-in_err-write_synced-clause-any_moment g c = λ front file bytes d place shut are.
    leaves-weaker (g.D.Disk.told c.args.disk.now) (g.D.Disk.told c.write_synced.new.disk) (Torn (c.args.gate + 1) (length c.args.behind.now) file) (IsPutBehind front bytes)
    (λ k torn. inl (torn_record c.args.gate front file (parted c.args.gate front file place shut) (length c.args.behind.now) k torn)) (c.write_synced.ensures.any_moment file d.only)

pub returns-clause-on_disk : goal.returns-clause-on_disk
returns-clause-on_disk g c =
    on_ok_weaker c.write_synced-2.result
    (λ h front file bytes d place shut are.
    let mid = c.in_ok-write_synced.ensures.on_disk file d.read in
    let staged = written file (c.args.gate + 1) c.args.behind.now in
    let p = parted c.args.gate front file place shut in (
      written staged c.args.gate (1 ∷ []),
      h staged mid.read,
      opened_place c.args.gate front file p bytes c.args.behind.now are,
      opened_gate c.args.gate front file p bytes c.args.behind.now are,
    )) c.write_synced-2.ensures.on_disk

pub returns-clause-any_moment : goal.returns-clause-any_moment
returns-clause-any_moment g c = λ front file bytes d place shut are.
    let P : List ℕ → Type 0 = IsPutBehind front bytes in
    let mid = c.in_ok-write_synced.ensures.on_disk file d.read in
    let staged = written file (c.args.gate + 1) c.args.behind.now in
    let p = parted c.args.gate front file place shut in
    goes_further (g.D.Disk.told c.args.disk.now) (g.D.Disk.told c.write_synced.new.disk) (g.D.Disk.told c.write_synced-2.new.disk) P
    (leaves-weaker (g.D.Disk.told c.args.disk.now) (g.D.Disk.told c.write_synced.new.disk) (Torn (c.args.gate + 1) (length c.args.behind.now) file) P
    (λ k torn. inl (torn_record c.args.gate front file p (length c.args.behind.now) k torn)) (c.write_synced.ensures.any_moment file d.only))
    (leaves-weaker (g.D.Disk.told c.write_synced.new.disk) (g.D.Disk.told c.write_synced-2.new.disk) (Torn c.args.gate 1 staged) P
    (λ k torn. torn_gate c.args.gate front file p bytes c.args.behind.now are k torn) (c.write_synced-2.ensures.any_moment staged mid.only))

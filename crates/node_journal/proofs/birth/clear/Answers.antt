use Rattle.std.proofs.Common.{[], ◌∷◌, List, ℕ, drop, subst, arith}
use Rattle.std.specs.Prelude.{IsTrue}
use Rattle.std.proofs.lemmas.Result.{on_ok_weaker}
use Rattle.disk_calls.specs.Disks.{Shortened}
use Rattle.disk_calls.proofs.Moments.{goes_further, leaves-weaker}
use Rattle.journal_format.specs.Files.{IsOwnFor}
use Rattle.node_journal.proofs.Births.{shortened_blank}
use Rattle.node_journal.proofs.Runs.{reaches-known}
use Rattle.node_journal.proofs.birth.clear.Goals as goal

pub cut_synced-requires : goal.cut_synced-requires
cut_synced-requires g c = λ tells.
    let was = c.requires.settled (subst IsTrue c.unmark.ensures.same_disk.device.same_telling tells) in
    let d = c.in_ok-unmark.ensures.on_disk was.0 was.1 in
    reaches-known (g.D.Disk.told c.unmark.new.disk).reads (0 ∷ drop 1 was.0) 1 d.read (omega arith)

pub returns-clause-on_disk : goal.returns-clause-on_disk
returns-clause-on_disk g c = on_ok_weaker c.cut_synced.result (λ h file d. h (0 ∷ drop 1 file) (c.in_ok-unmark.ensures.on_disk file d).read) c.cut_synced.ensures.on_disk

pub returns-clause-any_moment : goal.returns-clause-any_moment
returns-clause-any_moment g c = λ text file d unborn own.
    let P : List ℕ → Type 0 = IsOwnFor text [] in
    let mid = c.in_ok-unmark.ensures.on_disk file d in
    goes_further (g.D.Disk.told c.args.disk.now) (g.D.Disk.told c.unmark.new.disk) (g.D.Disk.told c.cut_synced.new.disk) P (c.unmark.ensures.any_moment text file d unborn own)
    (leaves-weaker (g.D.Disk.told c.unmark.new.disk) (g.D.Disk.told c.cut_synced.new.disk) (Shortened 1 (0 ∷ drop 1 file)) P
    (λ k cut. shortened_blank text (drop 1 file) k cut) (c.cut_synced.ensures.any_moment (0 ∷ drop 1 file) mid.only))

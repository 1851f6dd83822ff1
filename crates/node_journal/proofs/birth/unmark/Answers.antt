use Rattle.std.proofs.Common.{[], List, ℕ, sym, subst}
use Rattle.disk_calls.specs.Disks.{Torn}
use Rattle.disk_calls.proofs.Moments.{started, leaves-weaker}
use Rattle.journal_format.specs.Files.{IsOwnFor, SaysZeroed}
use Rattle.journal_format.proofs.OwnFiles.{unborn-stands}
use Rattle.node_journal.specs.Settled.{IsOnDisk}
use Rattle.node_journal.proofs.Births.{torn_first, zeroed_first}
use Rattle.node_journal.proofs.birth.unmark.Goals as goal

pub returns-then-zeroed-clause-on_disk : goal.returns-then-zeroed-clause-on_disk
returns-then-zeroed-clause-on_disk g c = λ file d.
    let says = subst (λ b. SaysZeroed b file) c.if-zeroed.true (c.requires.zeroed file d.read) in
    subst (λ (l : List ℕ). IsOnDisk l (g.D.Disk.told c.args.disk.now)) (zeroed_first file says) d

pub returns-clause-any_moment : goal.returns-clause-any_moment
returns-clause-any_moment g c = λ text file d unborn own.
    let says = subst (λ b. SaysZeroed b file) c.if-zeroed.false (c.requires.zeroed file d.read) in
    leaves-weaker (g.D.Disk.told c.args.disk.now) (g.D.Disk.told c.write_synced.new.disk) (Torn 0 1 file) (IsOwnFor text [])
    (λ k torn. torn_first text file k unborn own says torn) (c.write_synced.ensures.any_moment file d.only)

pub returns-then-zeroed-clause-any_moment : goal.returns-then-zeroed-clause-any_moment
returns-then-zeroed-clause-any_moment g c = λ text file d unborn own.
    started (g.D.Disk.told c.args.disk.now) (IsOwnFor text []) (λ k now. subst (IsOwnFor text []) (sym (d.only k now)) (own, unborn-stands text file unborn))

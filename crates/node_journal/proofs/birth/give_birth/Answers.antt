use Rattle.std.proofs.Common.{[], List, ℕ, subst}
use Rattle.std.proofs.lemmas.Result.{on_ok_weaker}
use Rattle.disk_calls.proofs.Moments.{goes_further}
use Rattle.journal_format.specs.Files.{IsOwnFor}
use Rattle.node_journal.specs.Settled.{IsOnDisk}
use Rattle.node_journal.proofs.Births.{newborn_tail}
use Rattle.node_journal.proofs.birth.give_birth.Goals as goal

pub returns-in_err-clear-clause-any_moment : goal.returns-in_err-clear-clause-any_moment
returns-in_err-clear-clause-any_moment g c = λ text file d unborn own is. c.clear.ensures.any_moment text file d unborn own

pub returns-clause-on_disk : goal.returns-clause-on_disk
returns-clause-on_disk g c =
    on_ok_weaker c.fill.result
    (λ h text file d is. subst (λ (l : List ℕ). IsOnDisk l (g.D.Disk.told c.fill.new.disk)) (newborn_tail text c.args.whole.now is)
    (h (c.in_ok-clear.ensures.on_disk file d))) c.fill.ensures.on_disk

pub returns-clause-any_moment : goal.returns-clause-any_moment
returns-clause-any_moment g c = λ text file d unborn own is.
    let P : List ℕ → Type 0 = IsOwnFor text [] in
    goes_further (g.D.Disk.told c.args.disk.now) (g.D.Disk.told c.clear.new.disk) (g.D.Disk.told c.fill.new.disk) P (c.clear.ensures.any_moment text file d unborn own)
    (c.fill.ensures.any_moment text (c.in_ok-clear.ensures.on_disk file d) (newborn_tail text c.args.whole.now is))

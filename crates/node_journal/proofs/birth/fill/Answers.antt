use Rattle.std.proofs.Common.{[], ◌∷◌, List, ℕ, length, subst, arith}
use Rattle.std.specs.Prelude.{IsTrue}
use Rattle.std.proofs.lemmas.Result.{on_ok_weaker}
use Rattle.disk_calls.specs.Disks.{written, Torn}
use Rattle.disk_calls.proofs.Moments.{goes_further, leaves-weaker}
use Rattle.journal_format.specs.Files.{IsOwnFor}
use Rattle.node_journal.specs.Settled.{IsOnDisk}
use Rattle.node_journal.proofs.Births.{torn_tail, torn_birth, written_tail, written_birth}
use Rattle.node_journal.proofs.Runs.{reaches-known}
use Rattle.node_journal.proofs.birth.fill.Goals as goal

pub write_synced-requires-2 : goal.write_synced-requires-2
write_synced-requires-2 g c = λ tells.
    let was = c.requires (subst IsTrue c.write_synced.ensures.same_disk.device.same_telling tells) in
    let d = c.in_ok-write_synced.ensures.on_disk (0 ∷ []) was.read in
    reaches-known (g.D.Disk.told c.write_synced.new.disk).reads (written (0 ∷ []) 1 c.args.behind.now) 0 d.read (omega arith)

pub returns-in_err-write_synced-clause-any_moment : goal.returns-in_err-write_synced-clause-any_moment
returns-in_err-write_synced-clause-any_moment g c = λ text d is.
    leaves-weaker (g.D.Disk.told c.args.disk.now) (g.D.Disk.told c.write_synced.new.disk) (Torn 1 (length c.args.behind.now) (0 ∷ [])) (IsOwnFor text [])
    (λ k torn. torn_tail text (length c.args.behind.now) k torn) (c.write_synced.ensures.any_moment (0 ∷ []) d.only)

pub returns-clause-on_disk : goal.returns-clause-on_disk
returns-clause-on_disk g c =
    on_ok_weaker c.write_synced-2.result
    (λ h d. subst (λ (l : List ℕ). IsOnDisk l (g.D.Disk.told c.write_synced-2.new.disk)) (written_birth c.args.behind.now)
    (h (written (0 ∷ []) 1 c.args.behind.now) (c.in_ok-write_synced.ensures.on_disk (0 ∷ []) d.read).read)) c.write_synced-2.ensures.on_disk

pub returns-clause-any_moment : goal.returns-clause-any_moment
returns-clause-any_moment g c = λ text d is.
    let P : List ℕ → Type 0 = IsOwnFor text [] in
    let behind = c.args.behind.now in
    let mid = c.in_ok-write_synced.ensures.on_disk (0 ∷ []) d.read in
    goes_further (g.D.Disk.told c.args.disk.now) (g.D.Disk.told c.write_synced.new.disk) (g.D.Disk.told c.write_synced-2.new.disk) P
    (leaves-weaker (g.D.Disk.told c.args.disk.now) (g.D.Disk.told c.write_synced.new.disk) (Torn 1 (length behind) (0 ∷ [])) P
    (λ k torn. torn_tail text (length behind) k torn) (c.write_synced.ensures.any_moment (0 ∷ []) d.only))
    (leaves-weaker (g.D.Disk.told c.write_synced.new.disk) (g.D.Disk.told c.write_synced-2.new.disk) (Torn 0 1 (written (0 ∷ []) 1 behind)) P
    (λ k torn. torn_birth text behind k is (subst (λ (l : List ℕ). Torn 0 1 l k) (written_tail behind) torn)) (c.write_synced-2.ensures.any_moment (written (0 ∷ []) 1 behind) mid.only))

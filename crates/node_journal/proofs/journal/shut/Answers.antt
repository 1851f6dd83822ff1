use Rattle.std.proofs.Common.{◌≡◌, ℕ, List, [], ◌∷◌, length, refl, arith}
use Rattle.std.proofs.lemmas.Result.{on_ok_weaker}
use Rattle.disk_calls.specs.Disks.{written}
use Rattle.disk_calls.proofs.Calling.{at-file}
use Rattle.node_journal.proofs.Runs.{reaches-known}
use Rattle.node_journal.proofs.Openings.{shut_there, shut_written}
use Rattle.node_journal.proofs.journal.shut.Goals as goal

pub returns-then-gate-end-clause-on_disk : goal.returns-then-gate-end-clause-on_disk
returns-then-gate-end-clause-on_disk g c = λ file d size closed. (file, d, refl, shut_there c.args.gate file (omega arith) closed)

pub write_synced-requires : goal.write_synced-requires
write_synced-requires g c = λ tells.
    let was = c.requires.settled tells in
    let size = at-file (g.D.Disk.told c.args.disk.now).reads was.0 (λ (f : List ℕ). c.args.end ≡ length f) was.1.read c.requires.size in
    reaches-known (g.D.Disk.told c.args.disk.now).reads was.0 c.args.gate was.1.read (omega arith)

pub returns-clause-on_disk : goal.returns-clause-on_disk
returns-clause-on_disk g c =
    on_ok_weaker c.write_synced.result
    (λ h file d size closed.
    let at_end : c.args.gate ≡ length file = omega arith in
    let made = shut_written c.args.gate file at_end in
    (written file c.args.gate (0 ∷ []), h file d.read, made.0, made.1)) c.write_synced.ensures.on_disk

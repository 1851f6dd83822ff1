use Rattle.std.proofs.Common.{◌≡◌, length, arith}
use Rattle.std.proofs.lemmas.Bool.Decides.{nat_tests}
use Rattle.node_journal.proofs.Runs.{quiet-start, empty_read}
use Rattle.node_journal.proofs.synced.read_back.Goals as goal

pub returns-then-is_empty-clause-bytes : goal.returns-then-is_empty-clause-bytes
returns-then-is_empty-clause-bytes g c =
    let none : length c.args.into.now ≡ 0 = grind (arith, nat_tests) in
    empty_read (g.D.Disk.told c.args.disk.now).reads c.args.into.now c.args.at none

pub returns-then-is_empty-clause-quiet : goal.returns-then-is_empty-clause-quiet
returns-then-is_empty-clause-quiet g c = quiet-start (g.D.Disk.told c.args.disk.now)

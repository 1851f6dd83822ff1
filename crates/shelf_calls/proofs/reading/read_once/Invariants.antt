use Rattle.std.proofs.Common.{◌≡◌}
use Rattle.shelf_calls.proofs.reading.read_once.Given as goal

-- reads that were broken off took nothing
abbrev pub invariant-loop : goal.invariant-loop
invariant-loop g l = g.F.ReadCalls.rest l.file ≡ g.F.ReadCalls.rest l.initial.file

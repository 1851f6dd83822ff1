use Rattle.std.proofs.Common.{◌≡◌}
use Rattle.edge_io.proofs.std_sink.write_once.Given as goal

-- writes that were broken off took nothing
abbrev pub invariant-loop : goal.invariant-loop
invariant-loop g l = g.S.StreamCalls.taken l.stream ≡ g.S.StreamCalls.taken l.initial.stream

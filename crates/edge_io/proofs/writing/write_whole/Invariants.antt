use Rattle.std.proofs.Common.{length, ◌-◌}
use Rattle.edge_io.proofs.Writes.{Sent}
use Rattle.edge_io.proofs.writing.write_whole.Given as goal

abbrev pub invariant-loop-done : goal.invariant-loop-done
invariant-loop-done g l = Sent (g.K.Sink.taken l.fn.out) (g.K.Sink.faults l.fn.out) l.bytes l.done (g.K.Sink.taken l.out) (g.K.Sink.faults l.out)

abbrev pub decreases-loop-done : goal.decreases-loop-done
decreases-loop-done g l = length l.bytes - l.done

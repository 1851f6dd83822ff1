use Rattle.std.specs.Prelude.{IsTrue}
use Rattle.edge_io.specs.Counts.{Grows}
use Rattle.file_numbers.specs.Numbers.{AreUsed, KeepsUsed}
use Rattle.file_numbers.proofs.numbers.hold_streams.Given as goal

abbrev pub invariant-loop-stream : goal.invariant-loop-stream
invariant-loop-stream g l = record {
  used : IsTrue g.N.NumberCalls.tells → AreUsed l._stream (g.N.NumberCalls.used l.numbers);
  kept : IsTrue g.N.NumberCalls.tells → KeepsUsed (g.N.NumberCalls.used l.fn.numbers) (g.N.NumberCalls.used l.numbers);
  faults : IsTrue g.N.NumberCalls.tells → Grows (g.N.NumberCalls.faults l.fn.numbers) (g.N.NumberCalls.faults l.numbers);
}

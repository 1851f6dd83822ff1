use Rattle.std.proofs.Common.{◌≡◌, ◌++◌, IsTrue}
use Rattle.shelf_calls.proofs.reading.read_front.Given as goal

-- what is read and what is left are the file
abbrev pub invariant-loop : goal.invariant-loop
invariant-loop g l = IsTrue g.F.ReadCalls.tells → l.fn.bytes.items ++ g.F.ReadCalls.rest l.fn.file ≡ l.bytes.items ++ g.F.ReadCalls.rest l.file

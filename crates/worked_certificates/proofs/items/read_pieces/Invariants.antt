use Rattle.std.proofs.Common.{◌+◌, Some, IsTrue, length}
use Rattle.shelf_calls.specs.MemShelves.{rest_of}
use Rattle.shelf_calls.specs.Opened.{IsUsedUp}
use Rattle.worked_certificates.proofs.items.read_pieces.Given as goal

abbrev pub invariant-loop-alloc : goal.invariant-loop-alloc
invariant-loop-alloc l = IsTrue l.reader.ended → IsUsedUp (Some (rest_of l.shelf))

abbrev pub decreases-loop-alloc : goal.decreases-loop-alloc
decreases-loop-alloc l = length l.reader.held + l.reader.left

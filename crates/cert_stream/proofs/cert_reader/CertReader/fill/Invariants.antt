use Rattle.std.proofs.Common.{◌≡◌, ◌+◌, ◌-◌, cond, length}
use Rattle.edge_io.specs.Counts.{RoseBy}
use Rattle.shelf_calls.specs.Told.{Keeps}
use Rattle.cert_stream.specs.Streams.{Filled}
use Rattle.cert_stream.proofs.cert_reader.CertReader.fill.Given as goal

abbrev pub invariant-loop-self : goal.invariant-loop-self
invariant-loop-self g l =
    Filled l.fn.self (g.S.Shelf.told l.fn.shelf).rest l.self (g.S.Shelf.told l.shelf).rest
    × RoseBy (l.fn.self.left - l.self.left) (g.S.Shelf.told l.fn.shelf).taken (g.S.Shelf.told l.shelf).taken
    × Keeps (g.S.Shelf.told l.fn.shelf) (g.S.Shelf.told l.shelf)
    × ((g.S.Shelf.told l.shelf).faults ≡ (g.S.Shelf.told l.fn.shelf).faults)

abbrev pub decreases-loop-self : goal.decreases-loop-self
decreases-loop-self g l = cond l.self.ended 0 (1 + (l.count - length l.self.held))

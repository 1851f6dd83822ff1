use Rattle.std.proofs.Common.{◌≡◌}
use Rattle.pool_model.specs.Network.{net_of}
use Rattle.cert_format.specs.declared.reading.Kind.{Kind}
use Rattle.cert_items.specs.declared.items.State.TheVariants as states
use Rattle.proof_lines.specs.Runs.{moment}
use Rattle.cert_checker.proofs.Cutting.{AreCut}
use Rattle.cert_checker.proofs.walk.tree.Given as goal

-- so many splits are taken
abbrev pub invariant-loop-t : goal.invariant-loop-t
invariant-loop-t g l = (k : Kind) → l.fn.reader.state ≡ states.Splits k
    → AreCut (net_of l.net) k (moment l.fn.reader (g.S.Shelf.told l.fn.shelf)) (moment l.reader (g.S.Shelf.told l.shelf)) l.count l.t l.tree

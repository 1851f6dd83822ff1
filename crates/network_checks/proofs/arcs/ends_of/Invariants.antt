use Rattle.std.proofs.Common.{◌≡◌, map, take}
use Rattle.network_parts.specs.Parts.{rows_of}
use Rattle.network_parts.specs.Nodes.{known, nodes_of}
use Rattle.network_checks.proofs.arcs.ends_of.Given as goal

abbrev pub invariant-loop-n : goal.invariant-loop-n
invariant-loop-n l = map known l.ends.items ≡ take l.n (map (nodes_of (rows_of l.parts)) (rows_of l.parts).arcs)

use Rattle.std.proofs.Common.{◌≡◌, ◌++◌, map}
use Rattle.std.specs.List.{flat_map}
use Rattle.network_parts.specs.Parts.{arc_row}
use Rattle.network_maker.specs.Generated.{below}
use Rattle.network_maker.specs.Rows.{feed_rows, out_rows, direct_row}
use Rattle.network_maker.proofs.rows.arcs.Given as goal

abbrev pub invariant-feeds : goal.invariant-feeds
invariant-feeds s = map arc_row s.arcs.items ≡ flat_map feed_rows (below s.i)

abbrev pub invariant-outs : goal.invariant-outs
invariant-outs s = map arc_row s.arcs.items ≡ flat_map feed_rows (below 10) ++ flat_map out_rows (below s.l)

abbrev pub invariant-directs : goal.invariant-directs
invariant-directs s = map arc_row s.arcs.items ≡ flat_map feed_rows (below 10) ++ flat_map out_rows (below 3) ++ map direct_row (below s.i)

use Rattle.std.proofs.Common.{◌≡◌, ◌++◌, map}
use Rattle.network_parts.specs.Parts.{arc_row}
use Rattle.network_maker.specs.Generated.{below, named_pool, named_product}
use Rattle.network_maker.specs.Rows.{free_arc}
use Rattle.network_maker.proofs.rows.add_outs.Given as goal

abbrev pub invariant-loop-j : goal.invariant-loop-j
invariant-loop-j s = map arc_row s.arcs.items ≡ map arc_row s.initial.arcs.items ++ map (λ j. free_arc (named_pool s.l) (named_product j)) (below s.j)

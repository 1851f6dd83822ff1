use Rattle.std.proofs.Common.{◌≡◌, ◌++◌, map}
use Rattle.std.specs.List.{filter}
use Rattle.network_parts.specs.Parts.{arc_row}
use Rattle.network_maker.specs.Generated.{below, feeds_pool, named_source, named_pool}
use Rattle.network_maker.specs.Rows.{free_arc}
use Rattle.network_maker.proofs.rows.add_feeds.Given as goal

abbrev pub invariant-loop-l : goal.invariant-loop-l
invariant-loop-l s = map arc_row s.arcs.items ≡ map arc_row s.initial.arcs.items ++ map (λ l. free_arc (named_source s.i) (named_pool l)) (filter (feeds_pool s.i) (below s.l))

use Rattle.std.proofs.Common.{◌≡◌, ◌++◌, All, map, pos}
use Rattle.std.specs.Vec.Iter.{into_iter_items}
use Rattle.pool_model.specs.Naming.{source_of}
use Rattle.network_parts.specs.Parts.{source_row}
use Rattle.network_parts.specs.Faults.{IsSourceInRange}
use Rattle.blend_network.specs.Views.{shown_source}
use Rattle.blend_network.proofs.network.narrow.sources_from.Given as goal

abbrev pub invariant-loop-row : goal.invariant-loop-row
invariant-loop-row l = record {
  made : map shown_source l.sources.items ++ map (source_of (pos l.stand_in)) (map source_row (into_iter_items l.row-iterator)) ≡ map (source_of (pos l.stand_in)) (map source_row l.fn.rows.items);
  ranges : All (λ s. IsSourceInRange (source_row s)) (into_iter_items l.row-iterator);
}

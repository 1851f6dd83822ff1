use Rattle.std.proofs.Common.{◌≡◌, ◌++◌, All, map, pos}
use Rattle.std.specs.Vec.Iter.{into_iter_items}
use Rattle.pool_model.specs.Naming.{pool_of}
use Rattle.network_parts.specs.Parts.{pool_row}
use Rattle.network_parts.specs.Faults.{IsPoolInRange}
use Rattle.blend_network.specs.Views.{shown_pool}
use Rattle.blend_network.proofs.network.narrow.pools_from.Given as goal

abbrev pub invariant-loop-row : goal.invariant-loop-row
invariant-loop-row l = record {
  made : map shown_pool l.pools.items ++ map (pool_of (pos l.stand_in)) (map pool_row (into_iter_items l.row-iterator)) ≡ map (pool_of (pos l.stand_in)) (map pool_row l.fn.rows.items);
  ranges : All (λ s. IsPoolInRange (pool_row s)) (into_iter_items l.row-iterator);
}

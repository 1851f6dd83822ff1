use Rattle.std.proofs.Common.{◌≡◌, ◌++◌, All, map}
use Rattle.std.specs.Vec.Iter.{into_iter_items}
use Rattle.pool_model.specs.Naming.{product_of}
use Rattle.network_parts.specs.Parts.{product_row}
use Rattle.network_parts.specs.Faults.{IsProductInRange}
use Rattle.blend_network.specs.Views.{shown_product}
use Rattle.blend_network.proofs.network.narrow.products_from.Given as goal

abbrev pub invariant-loop-row : goal.invariant-loop-row
invariant-loop-row l = record {
  made : map shown_product l.products.items ++ map product_of (map product_row (into_iter_items l.row-iterator)) ≡ map product_of (map product_row l.fn.rows.items);
  ranges : All (λ s. IsProductInRange (product_row s)) (into_iter_items l.row-iterator);
}

use Rattle.std.proofs.Common.{ℕ, ◌<◌, map, get_or}
use Rattle.network_parts.specs.Parts.{product_row}
use Rattle.network_parts.specs.Faults.{IsProductInRange, no_product_row}
use Rattle.network_checks.proofs.ranges.check_products.Given as goal

abbrev pub invariant-loop-n : goal.invariant-loop-n
invariant-loop-n l = (m : ℕ) → m < l.n → IsProductInRange (get_or (map product_row l.rows) m no_product_row)

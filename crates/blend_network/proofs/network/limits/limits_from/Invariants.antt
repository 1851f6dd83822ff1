use Rattle.std.proofs.Common.{◌≡◌, ℕ, map, length, All}
use Rattle.pool_model.specs.Limits.{limits}
use Rattle.blend_network.specs.Limits.{limits_in, product_limit}
use Rattle.blend_network.specs.Views.{shown_limit, shown_product}
use Rattle.blend_network.proofs.network.limits.limits_from.Given as goal

abbrev pub invariant-loop-product : goal.invariant-loop-product
invariant-loop-product l =
    (qualities : ℕ) → All (λ p. length (limits_in (shown_product p) l.side) ≡ qualities) l.products
    → map shown_limit l.limits.items ≡ limits (product_limit (map shown_product l.products) l.side) l.product qualities

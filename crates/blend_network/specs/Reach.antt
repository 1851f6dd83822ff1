-- The two ways to reach a product.
use Rattle.std.specs.Prelude.{ℕ, ◌==◌, if◌then◌else◌, Option, Some, None, ℤ}
use Rattle.pool_model.specs.Network.{Net, direct_delivered}
use Rattle.pool_model.specs.Starting.{least_below, out_delivered}

-- the least that a unit costs that reaches a product directly
abbrev pub direct_reach : Net → ℕ → Option ℤ
direct_reach n j = least_below (λ e. if n.direct_product e == j then Some (direct_delivered n e) else None) n.directs

-- the least that a unit costs that reaches a product through a pool
abbrev pub through_reach : Net → ℕ → Option ℤ
through_reach n j = least_below (λ o. if n.out_product o == j then out_delivered n o else None) n.outs

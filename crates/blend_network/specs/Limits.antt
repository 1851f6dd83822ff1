-- The limits that are set, of either kind.
use Rattle.std.specs.Prelude.{◌≡◌, ℕ, List, map, get_or, Option, None, ℤ}
use Rattle.pool_model.specs.Network as model
use Rattle.pool_model.specs.Network.{Net, no_product}
use Rattle.pool_model.specs.Limits as limits
use Rattle.blend_network.specs.declared.limits.LimitSide.{LimitSide}
use Rattle.blend_network.specs.declared.limits.LimitSide.TheVariants.{Most, Least}
use Rattle.blend_network.specs.declared.limits.Limit.{Limit}
use Rattle.blend_network.specs.declared.network.limits.Limits.{Limits}
use Rattle.blend_network.specs.Views.{shown_limit}

-- the limit of a product on a quality
abbrev pub limit_of : Net → LimitSide → ℕ → ℕ → Option ℤ
limit_of n Most j k = n.most j k
limit_of n Least j k = n.least j k

-- all that are set, by product and then by quality
abbrev pub side_limits : Net → LimitSide → List limits.Limit
side_limits n side = limits.limits (limit_of n side) n.products n.qualities

-- a product's limits of a kind, by quality
abbrev pub limits_in : model.Product → LimitSide → List (Option ℤ)
limits_in p Most = p.most
limits_in p Least = p.least

-- the limit of one of these products on a quality
abbrev pub product_limit : List model.Product → LimitSide → ℕ → ℕ → Option ℤ
product_limit products side j k = get_or (limits_in (get_or products j no_product) side) k None

-- the limits of a kind among those of both
abbrev pub kept_limits : Limits → LimitSide → List Limit
kept_limits l Most = l.most.items
kept_limits l Least = l.least.items

abbrev pub AreLimitsOf : Net → Limits → Type 0
AreLimitsOf n l = (side : LimitSide) → map shown_limit (kept_limits l side) ≡ side_limits n side

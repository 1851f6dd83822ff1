-- The limits on the qualities of products that are set.
use Rattle.std.specs.Prelude.{ℕ, List, Option, option_map, ℤ, pos}
use Rattle.std.specs.List.{flat_map, filter_map}
use Rattle.integers.specs.Numbers.{tabulate}
use Rattle.pool_model.specs.Network.{Net}

-- a limit that is set, with its product and its quality
pub record Limit : Type 0 where
  pub product : ℕ
  pub quality : ℕ
  pub limit : ℤ

-- the limits of a product that are set, by quality
abbrev pub product_limits : (ℕ → ℕ → Option ℤ) → ℕ → ℕ → List Limit
product_limits limit qualities j = filter_map (λ k. option_map (λ u. record { product = j; quality = k; limit = u }) (limit j k)) (tabulate (λ k. k) qualities)

-- all limits that are set, by product and then by quality
abbrev pub limits : (ℕ → ℕ → Option ℤ) → ℕ → ℕ → List Limit
limits limit products qualities = flat_map (product_limits limit qualities) (tabulate (λ j. j) products)

abbrev pub most_limits : Net → List Limit
most_limits n = limits n.most n.products n.qualities

abbrev pub least_limits : Net → List Limit
least_limits n = limits n.least n.products n.qualities

-- what stands behind the end of a list of limits
abbrev pub no_limit : Limit
no_limit = record { product = 0; quality = 0; limit = pos 0 }

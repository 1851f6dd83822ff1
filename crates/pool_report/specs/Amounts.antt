-- The numbers of a plan that are told, in millionths, each rounded down.
use Rattle.std.specs.Prelude.{ℕ, ◌*◌, pos, ℤ, ◌-ℤ◌}
use Rattle.integers.specs.Sums.{product_below}
use Rattle.pool_model.specs.Network.{Net}
use Rattle.pool_model.specs.Plan.{Plan, factor, product_inflow, quality_inflow}
use Rattle.text_pieces.specs.Rounding.{rounded_down}

-- a flow over the plan's denominator, in millionths of a unit
abbrev pub units : Plan → ℕ → ℤ
units p flow = rounded_down (pos flow) p.base

-- how much more could flow, of so many millionths at the most
abbrev pub slack : Plan → ℕ → ℕ → ℤ
slack p most flow = rounded_down (pos (p.base * most) -ℤ pos flow) p.base

-- A product's mean of a quality: the quality inflow of the blending rules, over the scale, the product's inflow and the factors of
-- all pools.
abbrev pub mean_of : Net → Plan → ℕ → ℕ → ℤ
mean_of n p j k = rounded_down (quality_inflow n p j k) (product_below (factor n p) n.pools * (n.scale * product_inflow n p j))

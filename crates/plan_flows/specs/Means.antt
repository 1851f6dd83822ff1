-- The mean quality of a product, as two numbers.
use Rattle.std.specs.Prelude.{◌≡◌, ℕ, ◌*◌, ◌<◌, ℤ, pos, ◌*ℤ◌}
use Rattle.integers.specs.Sums.{product_below}
use Rattle.pool_model.specs.Network.{Net}
use Rattle.pool_model.specs.Plan.{Plan, factor, product_inflow, quality_inflow}

-- The first number is the quality that reaches the product, in parts of the scale, times its flow; the second, above 0, is the scale times
-- what flows into it. Both are over the plan's denominator, and the first times the factors of all pools is the quality inflow of the
-- blending rules.
pub record IsMean (n : Net) (p : Plan) (j k : ℕ) (num den : ℤ) : Type 0 where
  pub quality : pos (product_below (factor n p) n.pools) *ℤ num ≡ quality_inflow n p j k
  pub inflow : den ≡ pos (n.scale * product_inflow n p j)
  pub some : 0 < n.scale * product_inflow n p j

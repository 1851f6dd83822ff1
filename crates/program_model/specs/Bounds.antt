-- How large the numbers of points are.
use Rattle.std.specs.Prelude.{ℕ, ◌*◌, ◌<◌, ◌≤◌, ◌^◌}
use Rattle.pool_model.specs.Network.{Net}
use Rattle.pool_model.specs.Plan.{Plan, product_inflow}

-- A feed carries 10^14 millionths at the most, and outs, directs and products 10^12: what a source sends and what a product takes
-- is limited.
pub record IsBounded (n : Net) (p : Plan) : Type 0 where
  pub feed : (e : ℕ) → e < n.feeds → p.feed e ≤ p.base * 10 ^ 14
  pub out : (o : ℕ) → o < n.outs → p.out o ≤ p.base * 10 ^ 12
  pub direct : (e : ℕ) → e < n.directs → p.direct e ≤ p.base * 10 ^ 12
  pub inflow : (j : ℕ) → j < n.products → product_inflow n p j ≤ p.base * 10 ^ 12

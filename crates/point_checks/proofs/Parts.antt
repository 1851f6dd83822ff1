-- How large a quality of a source is, and how large sums of qualities in parts of the scale can get.
use Rattle.std.proofs.Common.{ℕ, ◌*◌, ◌≤◌, ◌^◌, arith}
use Rattle.integers.specs.Sums.{sum_at}
use Rattle.pool_model.specs.Network.{Net}
use Rattle.pool_model.specs.Plan.{Plan, product_inflow}

-- qualities in parts of the scale for so much flow
pub room-parts : (flow : ℕ) → flow ≤ 2 ^ 76 → 10 ^ 14 * flow ≤ 2 ^ 123
room-parts flow h = omega (arith, h)

-- what directs bring is no more than the product takes
pub direct-room : (n : Net) (p : Plan) (j : ℕ) → product_inflow n p j ≤ 2 ^ 76 → sum_at n.direct_product j p.direct n.directs ≤ 2 ^ 76
direct-room n p j h = omega (arith, h)

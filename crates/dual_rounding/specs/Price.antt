-- The price proof, which needs no advice: what flows through a pool costs at least what its cheapest feed costs.
use Rattle.std.specs.Prelude.{ℕ, ◌+◌, nat_lt, Bool, List, filter, Option, None, Some, ℤ, pos, ◌≤ℤ◌, unsigned_abs, unwrap_or}
use Rattle.std.specs.Int.{int_div_euclid}
use Rattle.integers.specs.Numbers.{tabulate}
use Rattle.pool_model.specs.Network.{Net}
use Rattle.pool_model.specs.Starting.{pool_cost}
use Rattle.row_model.specs.Boxes.{Box}
use Rattle.row_model.specs.Multipliers.{Part, Proof, number}

-- parts without those of multiplier 0
abbrev pub is_nonzero : Part → Bool
is_nonzero q = nat_lt 0 (unsigned_abs q.mult)

abbrev pub nonzero : List Part → List Part
nonzero parts = filter is_nonzero parts

-- the least cost of a unit that is fed to a pool, at its source and along its feed
abbrev pub pool_price : Net → ℕ → ℤ
pool_price n l = unwrap_or (pool_cost n l) (pos 0)

-- that cost on the row which says that a pool sends what it takes: these rows stand behind those of the sources
abbrev pub price_part : Net → ℕ → Part
price_part n l = record { row = n.sources + l; mult = pool_price n l }

-- One part for each pool, in order, but for those of multiplier 0; the scale is 1.
abbrev pub price_proof : Net → Proof
price_proof n = record { scale = 1; parts = nonzero (tabulate (price_part n) n.pools) }

-- what the price proof shows of a box: a bound, in picos
abbrev pub price_bound : Net → Box → ℤ
price_bound n b = int_div_euclid (number n b (price_proof n)) (pos 1)

-- a node's bound is at least that; None is that its box holds no plan
abbrev pub IsPriced : Net → Box → Option ℤ → Type 0
IsPriced n b None = Unit {0}
IsPriced n b (Some z) = price_bound n b ≤ℤ z

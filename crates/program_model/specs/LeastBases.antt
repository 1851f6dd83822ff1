-- Least bases: over which base the numbers of a written plan are whole.
use Rattle.std.specs.Prelude.{ℕ, ◌*◌, ◌<◌, ◌↔◌}
use Rattle.std.specs.Int.{◌∣◌}
use Rattle.pool_model.specs.Network.{Net}
use Rattle.pool_model.specs.Plan.{Plan, outflow}

-- over this base the flows of outs and directs are whole numbers
pub record AreWholeFlows (n : Net) (p : Plan) (base : ℕ) : Type 0 where
  pub out : (o : ℕ) → o < n.outs → p.base ∣ (base * p.out o)
  pub direct : (e : ℕ) → e < n.directs → p.base ∣ (base * p.direct e)

-- over this base each feed's part of what its pool sends is a whole number
abbrev pub AreWholeParts : Net → Plan → ℕ → Type 0
AreWholeParts n p base = (e : ℕ) → e < n.feeds → outflow n p (n.feed_pool e) ∣ (base * p.feed e)

-- The least base for flows: they are whole over its multiples, and over no other base. It is the plan's base over what
-- divides it and all these flows.
pub record IsLeastFlowBase (n : Net) (p : Plan) (least : ℕ) : Type 0 where
  pub positive : 0 < least
  pub whole : (base : ℕ) → AreWholeFlows n p base ↔ (least ∣ base)

-- The same for parts: it is the least common multiple, over the pools, of what a pool sends over what divides it and its feeds.
pub record IsLeastPartBase (n : Net) (p : Plan) (least : ℕ) : Type 0 where
  pub positive : 0 < least
  pub whole : (base : ℕ) → AreWholeParts n p base ↔ (least ∣ base)

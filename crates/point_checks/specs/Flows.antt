-- Flows that code holds, as a plan, and the rules of the network at one node.
use Rattle.std.specs.Prelude.{◌≡◌, ℕ, ◌*◌, ◌≤◌, ◌^◌, List, length, get_or, Option, Some, None, ℤ, unsigned_abs}
use Rattle.pool_model.specs.Network.{Net}
use Rattle.pool_model.specs.Plan.{Plan, KeepsMaxima, outflow, pool_inflow, source_outflow, product_inflow}
use Rattle.point_checks.specs.Sizes.{AreAtMost}
use Rattle.point_checks.specs.declared.flows.Flows.{Flows}

-- flows by feed, out and direct over a base
abbrev pub plan_over : ℕ → List ℕ → List ℕ → List ℕ → Plan
plan_over base x y z = record { base = base; feed = λ e. get_or x e 0; out = λ o. get_or y o 0; direct = λ e. get_or z e 0 }

abbrev pub flows_plan : Flows → Plan
flows_plan f = plan_over f.base f.feeds.now f.outs.now f.directs.now

-- No flow of feeds, outs and directs over a base is above 10^14 millionths, and none on an arc with a maximum is above base times that
-- maximum.
pub record FlowsFit (n : Net) (base : ℕ) (x y z : List ℕ) : Type 0 where
  pub feeds : AreAtMost (base * 10 ^ 14) x
  pub outs : AreAtMost (base * 10 ^ 14) y
  pub directs : AreAtMost (base * 10 ^ 14) z
  pub arcs : KeepsMaxima n (plan_over base x y z)

-- a flow over a base is within the maximum of its arc, if it has one
abbrev pub KeepsMaximum : Option ℕ → ℕ → ℕ → Type 0
KeepsMaximum max base flow = (m : ℕ) → max ≡ Some m → flow ≤ base * m

-- the same of a maximum as it is read
abbrev pub IsWithinMaximum : Option ℤ → ℕ → ℕ → Type 0
IsWithinMaximum None base flow = Unit {0}
IsWithinMaximum (Some m) base flow = flow ≤ base * unsigned_abs m

-- a number for each arc, and none too large to be added up
pub record AreFlows (n : Net) (f : Flows) : Type 0 where
  pub base : f.base ≤ 2 ^ 36
  pub feeds : length f.feeds.now ≡ n.feeds
  pub outs : length f.outs.now ≡ n.outs
  pub directs : length f.directs.now ≡ n.directs
  pub feeds_small : AreAtMost (2 ^ 83) f.feeds.now
  pub outs_small : AreAtMost (2 ^ 83) f.outs.now
  pub directs_small : AreAtMost (2 ^ 83) f.directs.now

-- ---- rules at one node

abbrev pub KeepsSource : Net → Plan → ℕ → Type 0
KeepsSource n p i = source_outflow n p i ≤ p.base * n.source_max i

abbrev pub KeepsPool : Net → Plan → ℕ → Type 0
KeepsPool n p l = (pool_inflow n p l ≡ outflow n p l) × (outflow n p l ≤ p.base * n.pool_max l)

abbrev pub KeepsProduct : Net → Plan → ℕ → Type 0
KeepsProduct n p j = (p.base * n.product_min j ≤ product_inflow n p j) × (product_inflow n p j ≤ p.base * n.product_max j)

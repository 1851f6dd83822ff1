-- Points of the exact programs: whole numbers over denominators that they carry with them.
use Rattle.std.specs.Prelude.{◌≡◌, ℕ, ◌*◌, ◌<◌, ℤ, pos, ◌*ℤ◌}
use Rattle.pool_model.specs.Network.{Net}
use Rattle.pool_model.specs.Plan.{Plan, cost_of}

-- A point of form Q or Pq: flows along feeds, outs, directs and paths over `base`, and each feed's proportion in its pool
-- over `prop_base`.
pub record ProportionPoint : Type 0 where
  pub base : ℕ
  pub prop_base : ℕ
  pub proportion : ℕ → ℕ
  pub feed : ℕ → ℕ
  pub out : ℕ → ℕ
  pub direct : ℕ → ℕ
  pub path : ℕ → ℕ

-- A point of form P: flows over `base`, the qualities of each pool over `qual_base`, and for each out its pool's quality
-- times its flow over `base`.
pub record QualityPoint : Type 0 where
  pub base : ℕ
  pub qual_base : ℕ
  pub quality : ℕ → ℕ → ℤ
  pub feed : ℕ → ℕ
  pub out : ℕ → ℕ
  pub direct : ℕ → ℕ
  pub mixed : ℕ → ℕ → ℤ

-- ---- the flows of a point, as a plan; what the point costs is what they cost

abbrev pub proportion_flows : ProportionPoint → Plan
proportion_flows q = record { base = q.base; feed = q.feed; out = q.out; direct = q.direct }

abbrev pub quality_flows : QualityPoint → Plan
quality_flows q = record { base = q.base; feed = q.feed; out = q.out; direct = q.direct }

-- ---- the same flows over other denominators

-- two plans send the same along each arc
pub record SameFlows (n : Net) (a b : Plan) : Type 0 where
  pub feed : (e : ℕ) → e < n.feeds → a.feed e * b.base ≡ b.feed e * a.base
  pub out : (o : ℕ) → o < n.outs → a.out o * b.base ≡ b.out o * a.base
  pub direct : (e : ℕ) → e < n.directs → a.direct e * b.base ≡ b.direct e * a.base

-- two plans cost the same
abbrev pub SameCost : Net → Plan → Plan → Type 0
SameCost n a b = pos b.base *ℤ cost_of n a ≡ pos a.base *ℤ cost_of n b

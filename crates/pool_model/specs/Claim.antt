-- What a certificate claims, and what that means for every plan.
use Rattle.std.specs.Prelude.{◌≡◌, ℕ, ◌*◌, ℤ, pos, ◌-ℤ◌, ◌*ℤ◌, ◌≤ℤ◌}
use Rattle.pool_model.specs.Network.{Net}
use Rattle.pool_model.specs.Plan.{Plan, Obeys, cost_of, Written, plan_of}

-- a plan with its cost over a base, a bound and their difference over that base; a bound alone; that there is no plan
pub data Claimed : Type 0 where
  with_gap : (plan : Written) (cost : ℤ) (base : ℕ) (bound : ℤ) (gap : ℤ) → Claimed
  with_bound : (bound : ℤ) → Claimed
  no_plan : Claimed

-- no plan that obeys, over any denominator, costs less than this many picos
abbrev pub IsBound : Net → ℤ → Type 0
IsBound n bound = (p : Plan) → Obeys n p → (bound *ℤ pos p.base) ≤ℤ cost_of n p

-- no plan obeys
abbrev pub HasNoPlan : Net → Type 0
HasNoPlan n = (p : Plan) → ¬ Obeys n p

-- The written plan obeys, it costs what is claimed, no plan costs less than the bound, and the gap is the difference.
pub record FollowsGap (n : Net) (w : Written) (cost : ℤ) (base : ℕ) (bound gap : ℤ) : Type 0 where
  pub obeys : Obeys n (plan_of n w)
  pub base_is : base ≡ w.flow_base * w.base
  pub cost_is : cost ≡ cost_of n (plan_of n w)
  pub bound_holds : IsBound n bound
  pub gap_is : gap ≡ cost -ℤ bound *ℤ pos base
  pub not_negative : pos 0 ≤ℤ gap

-- what follows from a claim that is true
abbrev pub Follows : Net → Claimed → Type 0
Follows n (with_gap w cost base bound gap) = FollowsGap n w cost base bound gap
Follows n (with_bound bound) = IsBound n bound
Follows n no_plan = HasNoPlan n

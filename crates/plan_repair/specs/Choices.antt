-- The choice among judged plans, and the limit that one has to stay below.
use Rattle.std.specs.Prelude.{◌<◌, Bool, true, if◌then◌else◌, Option, Some, None, option_map, pos, ◌*ℤ◌, int_lt}
use Rattle.pool_model.specs.Network.{Net}
use Rattle.pool_model.specs.Plan.{Written}
use Rattle.plan_core.specs.Faults.{IsCostOf}
use Rattle.plan_core.specs.Views.{shown_plan}
use Rattle.plan_core.specs.declared.plan.Cost.{Cost}
use Rattle.plan_core.specs.declared.plan.WrittenPlan.{WrittenPlan}
use Rattle.plan_repair.specs.declared.judging.Judged.{Judged}

-- a plan that may be there, without where it lies in memory
abbrev pub shown_best : Option WrittenPlan → Option Written
shown_best best = option_map shown_plan best

-- the limit is what the best plan costs, where there is one
abbrev pub IsLimit : Net → Option Written → Option Cost → Type 0
IsLimit n None None = Unit {0}
IsLimit n (Some best) (Some limit) = IsCostOf n best limit
IsLimit n _ _ = ⊥

-- a cost is counted over a base
abbrev pub HasBase : Cost → Type 0
HasBase c = 0 < c.base

-- a cost is less than another one, as fractions
abbrev pub is_less : Cost → Cost → Bool
is_less a b = int_lt (pos b.base *ℤ a.num) (pos a.base *ℤ b.num)

-- a cost is less than the limit, where there is one
abbrev pub is_below : Cost → Option Cost → Bool
is_below a None = true
is_below a (Some b) = is_less a b

-- the cheaper of two plans, the first at a tie, or the one that is there
abbrev pub cheapest : Option Judged → Option Judged → Option Judged
cheapest None second = second
cheapest (Some first) None = Some first
cheapest (Some first) (Some second) = if is_less second.cost first.cost then Some second else Some first

-- the plan, where it costs less than the limit
abbrev pub gained : Option Judged → Option Cost → Option WrittenPlan
gained None limit = None
gained (Some found) limit = if is_below found.cost limit then Some found.plan else None

-- What a certificate claims, beside what its plan costs and what its tree shows.
use Rattle.std.specs.Prelude.{◌≡◌, ◌≢◌, ◌⊎◌, Option, None, Some, ℤ, pos, ◌-ℤ◌, ◌*ℤ◌, FitsSigned}
use Rattle.std.specs.Int.{w128}
use Rattle.pool_model.specs.Network.{Net}
use Rattle.pool_model.specs.Claim.{Claimed, with_gap, with_bound, no_plan}
use Rattle.plan_core.specs.Faults.{IsCostOf}
use Rattle.plan_core.specs.declared.plan.Cost.{Cost}
use Rattle.plan_core.specs.declared.fault.PlanFault.{PlanFault}
use Rattle.proof_lines.specs.declared.refusal.Refusal.{Refusal}
use Rattle.proof_lines.specs.declared.refusal.Refusal.TheVariants.{Plan, WrongKind, WrongCost, WrongBound, WrongGap}
use Rattle.proof_lines.specs.Refusals.{HasPlanFault, IsWrongKind, IsWrongBound, IsWrongGap}

-- what the plan that is claimed costs, where there is one
abbrev pub IsClaimCost : Net → Claimed → Option Cost → Type 0
IsClaimCost n (with_gap plan cost base bound gap) None = ⊥
IsClaimCost n (with_gap plan cost base bound gap) (Some c) = IsCostOf n plan c
IsClaimCost n (with_bound bound) c = c ≡ None
IsClaimCost n no_plan c = c ≡ None

-- the first rule that the plan that is claimed breaks
pub record IsPlanRefusal (n : Net) (claim : Claimed) (r : Refusal) : Type 0 where
  pub fault : PlanFault
  pub is : r ≡ Plan fault
  pub has : HasPlanFault n claim fault

-- a bound over the cost's base has 128 bits, where there are both
abbrev pub HasRoom : Option Cost → Option ℤ → Type 0
HasRoom cost found = (c : Cost) (bound : ℤ) → FitsSigned w128 c.num → cost ≡ Some c → found ≡ Some bound → FitsSigned w128 (bound *ℤ pos c.base)

-- the cost that is claimed is another
abbrev pub IsOtherCost : Option Cost → Claimed → Type 0
IsOtherCost cost (with_gap plan num base bound gap) = cost ≢ Some record { num = num; base = base }
IsOtherCost cost (with_bound bound) = ⊥
IsOtherCost cost no_plan = ⊥

-- what is claimed is this cost and this bound of the tree
abbrev pub AreClaimed : Option Cost → Option ℤ → Claimed → Type 0
AreClaimed cost found (with_gap plan num base bound gap) = (cost ≡ Some record { num = num; base = base }) × (found ≡ Some bound) × (gap ≡ num -ℤ bound *ℤ pos base)
AreClaimed cost found (with_bound bound) = found ≡ Some bound
AreClaimed cost found no_plan = found ≡ None

-- the first of the four things that may be wrong with a claim
abbrev pub IsClaimRefusal : Option Cost → Option ℤ → Claimed → Refusal → Type 0
IsClaimRefusal cost found claim WrongKind = IsWrongKind found claim
IsClaimRefusal cost found claim WrongCost = (¬ IsWrongKind found claim) × IsOtherCost cost claim
IsClaimRefusal cost found claim WrongBound = (¬ IsWrongKind found claim) × (¬ IsOtherCost cost claim) × IsWrongBound found claim
IsClaimRefusal cost found claim WrongGap = (¬ IsWrongKind found claim) × (¬ IsOtherCost cost claim) × (¬ IsWrongBound found claim) × IsWrongGap claim
IsClaimRefusal cost found claim _ = ⊥

-- no leaf may hold a plan, or the bound is another
abbrev pub IsBoundRefusal : Option ℤ → ℤ → Refusal → Type 0
IsBoundRefusal found bound r = ((r ≡ WrongKind) × (found ≡ None)) ⊎ ((r ≡ WrongBound) × (found ≢ None) × (found ≢ Some bound))

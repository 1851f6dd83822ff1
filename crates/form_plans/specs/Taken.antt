-- What the plan of a point is, and why a point has none.
use Rattle.std.specs.Prelude.{◌⊎◌}
use Rattle.pool_model.specs.Network.{Net}
use Rattle.pool_model.specs.Plan.{Written, IsWritten, Obeys, plan_of}
use Rattle.program_model.specs.Points.{SameCost, SameFlows, proportion_flows, quality_flows}
use Rattle.program_points.specs.Held.{IsHeldOfP, IsHeldOfQ, IsHeldOfPq}
use Rattle.program_points.specs.Views.{shown_prop, shown_qual}
use Rattle.program_points.specs.declared.points.PropPoint.{PropPoint}
use Rattle.program_points.specs.declared.points.QualPoint.{QualPoint}
use Rattle.program_model.specs.Plans.{IsPlanOfProportions, IsPlanOfQualities}
use Rattle.form_plans.specs.Parts.{AreTooFineParts}
use Rattle.form_plans.specs.Faults.{AreTooFine}
use Rattle.form_plans.specs.declared.fault.FormFault.{FormFault}
use Rattle.form_plans.specs.declared.fault.FormFault.TheVariants.{NotAPoint, TooFine, Memory}

-- The plan of a point of proportions: its proportions as weights, and its flows over the least base that makes them whole. It is well
-- written, it obeys, and it has the point's flows and its cost.
pub record IsPropPlan (n : Net) (q : PropPoint) (w : Written) : Type 0 where
  pub plan : IsPlanOfProportions n (shown_prop q) w
  pub written : IsWritten n w
  pub obeys : Obeys n (plan_of n w)
  pub flows : SameFlows n (plan_of n w) (proportion_flows (shown_prop q))
  pub cost : SameCost n (plan_of n w) (proportion_flows (shown_prop q))

-- The plan of a point of qualities: each feed's part of what its pool sends as its weight, over the least base that makes all parts
-- whole, and its flows over the least base that makes them whole. It is well written, it obeys, and it has the point's flows and its
-- cost.
pub record IsQualPlan (n : Net) (q : QualPoint) (w : Written) : Type 0 where
  pub plan : IsPlanOfQualities n (shown_qual n q) w
  pub written : IsWritten n w
  pub obeys : Obeys n (plan_of n w)
  pub flows : SameFlows n (plan_of n w) (quality_flows (shown_qual n q))
  pub cost : SameCost n (plan_of n w) (quality_flows (shown_qual n q))

-- a point of Q within the limits whose flows have a base for written plans
abbrev pub HasPlanOfQ : Net → PropPoint → Type 0
HasPlanOfQ n q = IsHeldOfQ n q × (¬ AreTooFine n (proportion_flows (shown_prop q)))

abbrev pub HasPlanOfPq : Net → PropPoint → Type 0
HasPlanOfPq n q = IsHeldOfPq n q × (¬ AreTooFine n (proportion_flows (shown_prop q)))

-- a point of P within the limits whose flows have a base for written plans, and whose parts have one
abbrev pub HasPlanOfP : Net → QualPoint → Type 0
HasPlanOfP n q = IsHeldOfP n q × (¬ AreTooFine n (quality_flows (shown_qual n q))) × (¬ AreTooFineParts n (quality_flows (shown_qual n q)))

-- why a point has no plan: it is none within the limits, or else its flows have no base for written plans
abbrev pub IsFaultOfQ : Net → PropPoint → FormFault → Type 0
IsFaultOfQ n q NotAPoint = ¬ IsHeldOfQ n q
IsFaultOfQ n q TooFine = IsHeldOfQ n q × AreTooFine n (proportion_flows (shown_prop q))
IsFaultOfQ n q Memory = Unit {0}

abbrev pub IsFaultOfPq : Net → PropPoint → FormFault → Type 0
IsFaultOfPq n q NotAPoint = ¬ IsHeldOfPq n q
IsFaultOfPq n q TooFine = IsHeldOfPq n q × AreTooFine n (proportion_flows (shown_prop q))
IsFaultOfPq n q Memory = Unit {0}

-- or else no base for written plans makes its flows, or the parts of its feeds, whole
abbrev pub IsFaultOfP : Net → QualPoint → FormFault → Type 0
IsFaultOfP n q NotAPoint = ¬ IsHeldOfP n q
IsFaultOfP n q TooFine = IsHeldOfP n q × (AreTooFine n (quality_flows (shown_qual n q)) ⊎ AreTooFineParts n (quality_flows (shown_qual n q)))
IsFaultOfP n q Memory = Unit {0}

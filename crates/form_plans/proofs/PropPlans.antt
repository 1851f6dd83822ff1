-- The plan that is made of a point of Q.
use Rattle.std.proofs.Common.{◌≡◌, ℕ, ◌/◌, ◌≤◌, List, length, get_or, arith, sym, ap, subst, ◌∙◌}
use Rattle.pool_model.specs.Network.{Net, IsLimited}
use Rattle.pool_model.specs.Plan.{Written, plan_of}
use Rattle.program_model.specs.Points.{proportion_flows}
use Rattle.program_model.specs.Programs.{IsPointOfQ}
use Rattle.program_model.proofs.FormQ.{point_of_q-obeys}
use Rattle.program_model.proofs.SameFlows.{cost-same}
use Rattle.program_points.specs.Held.{IsHeldOfQ}
use Rattle.program_points.specs.Views.{shown_prop}
use Rattle.program_points.specs.declared.points.PropPoint.{PropPoint}
use Rattle.program_model.specs.Plans.{IsPlanOfProportions}
use Rattle.program_model.proofs.PlanFlows.{plan-same, plan-obeys, proportions-parts, proportions-written}
use Rattle.form_plans.specs.Divisors.{IsFlowDivisor}
use Rattle.point_checks.specs.Flows.{flows_plan}
use Rattle.point_checks.specs.PropSlices.{point_over, seen}
use Rattle.point_checks.specs.ProportionTests.{IsPropPoint}
use Rattle.point_checks.specs.declared.prop_slices.PropSlices.{PropSlices}
use Rattle.form_plans.specs.Faults.{AreTooFine}
use Rattle.form_plans.specs.Made.{IsMade}
use Rattle.form_plans.specs.Slices.{AreSlicesOf}
use Rattle.form_plans.specs.Taken.{IsPropPlan}
use Rattle.form_plans.proofs.FlowBases.{HasFlowLists, made-flows}

-- ---- lent lists

-- they stand for the point
pub seen-shown : (q : PropPoint) (s : PropSlices) → AreSlicesOf q s → seen s ≡ shown_prop q
seen-shown q s h =
    ap (λ (b : ℕ). point_over b s.prop_base s.props.now s.flows.feeds.now s.flows.outs.now s.flows.directs.now s.paths.now) h.base
    ∙ ap (λ (b : ℕ). point_over q.base b s.props.now s.flows.feeds.now s.flows.outs.now s.flows.directs.now s.paths.now) h.prop_base
    ∙ ap (λ (xs : List ℕ). point_over q.base q.prop_base xs s.flows.feeds.now s.flows.outs.now s.flows.directs.now s.paths.now) h.props
    ∙ ap (λ (xs : List ℕ). point_over q.base q.prop_base q.props.items xs s.flows.outs.now s.flows.directs.now s.paths.now) h.x
    ∙ ap (λ (xs : List ℕ). point_over q.base q.prop_base q.props.items q.x.items xs s.flows.directs.now s.paths.now) h.y
    ∙ ap (λ (xs : List ℕ). point_over q.base q.prop_base q.props.items q.x.items q.y.items xs s.paths.now) h.z
    ∙ ap (λ (xs : List ℕ). point_over q.base q.prop_base q.props.items q.x.items q.y.items q.z.items xs) h.paths

pub point-held : (n : Net) (q : PropPoint) (s : PropSlices) → AreSlicesOf q s → IsPropPoint n s → IsHeldOfQ n q
point-held n q s h p = record {
  shape = record {
    base = omega (arith, h.base, p.shape.bases.base_most);
    prop_base = omega (arith, h.prop_base, p.shape.bases.second_most);
    props = ap length (sym h.props) ∙ p.shape.props;
    x = ap length (sym h.x) ∙ p.shape.x;
    y = ap length (sym h.y) ∙ p.shape.y;
    z = ap length (sym h.z) ∙ p.shape.z;
    w = ap length (sym h.paths) ∙ p.shape.paths;
  };
  point = subst (IsPointOfQ n) (seen-shown q s h) p.point;
}

pub held-point : (n : Net) (q : PropPoint) (s : PropSlices) → AreSlicesOf q s → IsHeldOfQ n q → IsPropPoint n s
held-point n q s h p = record {
  shape = record {
    bases = record {
      base = omega (arith, h.base, p.point.base);
      base_most = omega (arith, h.base, p.shape.base);
      second = omega (arith, h.prop_base, p.point.prop_base);
      second_most = omega (arith, h.prop_base, p.shape.prop_base);
    };
    props = ap length h.props ∙ p.shape.props;
    x = ap length h.x ∙ p.shape.x;
    y = ap length h.y ∙ p.shape.y;
    z = ap length h.z ∙ p.shape.z;
    paths = ap length h.paths ∙ p.shape.w;
  };
  point = subst (IsPointOfQ n) (sym (seen-shown q s h)) p.point;
}

pub flow_lists : (n : Net) (s : PropSlices) → IsPropPoint n s → HasFlowLists n s.flows
flow_lists n s p = record { base = p.shape.bases.base; outs = p.shape.y; directs = p.shape.z }

-- the flows of the lists are those of the point
pub too_fine-shown : (n : Net) (q : PropPoint) (s : PropSlices) → AreSlicesOf q s → AreTooFine n (flows_plan s.flows) → AreTooFine n (proportion_flows (shown_prop q))
too_fine-shown n q s h fine = subst (λ z. AreTooFine n (proportion_flows z)) (seen-shown q s h) fine

pub too_fine-seen : (n : Net) (q : PropPoint) (s : PropSlices) → AreSlicesOf q s → AreTooFine n (proportion_flows (shown_prop q)) → AreTooFine n (flows_plan s.flows)
too_fine-seen n q s h fine = subst (λ z. AreTooFine n (proportion_flows z)) (sym (seen-shown q s h)) fine

-- ---- the plan
made-plan : (n : Net) (s : PropSlices) (g : ℕ) (w : Written) → IsPropPoint n s → IsFlowDivisor s.flows.base s.flows.outs.now s.flows.directs.now g
    → IsMade s.flows g s.prop_base s.props.now w → IsPlanOfProportions n (seen s) w
made-plan n s g w p d m = record {
  flows = made-flows n s.flows g s.prop_base s.props.now w (flow_lists n s p) d p.shape.props m;
  base = m.base;
  weight = λ e lt. ap (λ (xs : List ℕ). get_or xs e 0) m.weights_are;
}

-- what the plan of a point promises
pub made-keeps : (n : Net) (q : PropPoint) (s : PropSlices) (g : ℕ) (w : Written) → IsLimited n → AreSlicesOf q s → IsPropPoint n s → IsFlowDivisor s.flows.base s.flows.outs.now s.flows.directs.now g
    → IsMade s.flows g s.prop_base s.props.now w → s.flows.base / g ≤ 65536 → IsPropPlan n q w
made-keeps n q s g w lim h p d m small =
    let held = point-held n q s h p in
    let plan = subst (λ z. IsPlanOfProportions n z w) (seen-shown q s h) (made-plan n s g w p d m) in
    let parts = proportions-parts n (shown_prop q) w lim held.point plan in
    let same = plan-same n (proportion_flows (shown_prop q)) w plan.flows parts in
    record {
      plan = plan;
      written = proportions-written n (shown_prop q) w held.point plan held.shape.prop_base (omega (arith, m.flow_base, small));
      obeys = plan-obeys n (proportion_flows (shown_prop q)) w lim (point_of_q-obeys n (shown_prop q) lim held.point) (omega (arith, plan.base, held.point.prop_base)) plan.flows parts;
      flows = same;
      cost = cost-same n (plan_of n w) (proportion_flows (shown_prop q)) same;
    }

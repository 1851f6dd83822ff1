-- The plan that is made of a point of P.
use Rattle.std.proofs.Common.{◌≡◌, ℕ, ◌*◌, ◌/◌, ◌≤◌, List, length, get_or, ℤ, arith, sym, ap, subst, ◌∙◌}
use Rattle.std.proofs.lemmas.Nat.Gcd.{dvd_refl}
use Rattle.pool_model.specs.Network.{Net, IsLimited}
use Rattle.pool_model.specs.Plan.{Written, plan_of, outflow}
use Rattle.pool_model.specs.Starting.{first_weight}
use Rattle.program_model.specs.Points.{quality_flows}
use Rattle.program_model.specs.Programs.{IsPointOfP}
use Rattle.program_model.proofs.FormP.{point_of_p-obeys}
use Rattle.program_model.proofs.SameFlows.{cost-same}
use Rattle.program_points.specs.Held.{IsHeldOfP}
use Rattle.program_points.specs.Views.{shown_qual}
use Rattle.program_points.specs.declared.points.QualPoint.{QualPoint}
use Rattle.program_model.specs.LeastBases.{AreWholeParts, IsLeastPartBase}
use Rattle.program_model.specs.Plans.{IsPlanOfQualities}
use Rattle.program_model.proofs.PlanFlows.{plan-same, plan-obeys, qualities-parts, qualities-written}
use Rattle.form_plans.specs.Divisors.{IsFlowDivisor}
use Rattle.point_checks.specs.Flows.{AreFlows, flows_plan}
use Rattle.point_checks.specs.QualSlices.{point_over, seen}
use Rattle.point_checks.specs.QualityTests.{IsQualPoint}
use Rattle.point_checks.specs.declared.qual_slices.QualSlices.{QualSlices}
use Rattle.point_checks.proofs.QualPoints.{point-fits}
use Rattle.form_plans.specs.Parts.{AreParts, AreTooFineParts}
use Rattle.form_plans.specs.Faults.{AreTooFine}
use Rattle.form_plans.specs.Made.{IsMade}
use Rattle.form_plans.specs.Slices.{AreQualSlicesOf}
use Rattle.form_plans.specs.Taken.{IsQualPlan}
use Rattle.form_plans.proofs.FlowBases.{HasFlowLists, made-flows}

-- ---- lent lists

-- they stand for the point
seen-shown : (n : Net) (q : QualPoint) (s : QualSlices) → AreQualSlicesOf q s → seen n s ≡ shown_qual n q
seen-shown n q s h =
    ap (λ (b : ℕ). point_over n b s.qual_base s.quals.now s.flows.feeds.now s.flows.outs.now s.flows.directs.now s.mix.now) h.base
    ∙ ap (λ (b : ℕ). point_over n q.base b s.quals.now s.flows.feeds.now s.flows.outs.now s.flows.directs.now s.mix.now) h.qual_base
    ∙ ap (λ (xs : List ℤ). point_over n q.base q.qual_base xs s.flows.feeds.now s.flows.outs.now s.flows.directs.now s.mix.now) h.quals
    ∙ ap (λ (xs : List ℕ). point_over n q.base q.qual_base q.quals.items xs s.flows.outs.now s.flows.directs.now s.mix.now) h.x
    ∙ ap (λ (xs : List ℕ). point_over n q.base q.qual_base q.quals.items q.x.items xs s.flows.directs.now s.mix.now) h.y
    ∙ ap (λ (xs : List ℕ). point_over n q.base q.qual_base q.quals.items q.x.items q.y.items xs s.mix.now) h.z
    ∙ ap (λ (xs : List ℤ). point_over n q.base q.qual_base q.quals.items q.x.items q.y.items q.z.items xs) h.mix

pub point-held : (n : Net) (q : QualPoint) (s : QualSlices) → AreQualSlicesOf q s → IsQualPoint n s → IsHeldOfP n q
point-held n q s h p = record {
  shape = record {
    base = omega (arith, h.base, p.shape.bases.base_most);
    qual_base = omega (arith, h.qual_base, p.shape.bases.second_most);
    quals = ap length (sym h.quals) ∙ p.shape.quals;
    x = ap length (sym h.x) ∙ p.shape.x;
    y = ap length (sym h.y) ∙ p.shape.y;
    z = ap length (sym h.z) ∙ p.shape.z;
    mix = ap length (sym h.mix) ∙ p.shape.mixed;
  };
  point = subst (IsPointOfP n) (seen-shown n q s h) p.point;
}

pub held-point : (n : Net) (q : QualPoint) (s : QualSlices) → AreQualSlicesOf q s → IsHeldOfP n q → IsQualPoint n s
held-point n q s h p = record {
  shape = record {
    bases = record {
      base = omega (arith, h.base, p.point.base);
      base_most = omega (arith, h.base, p.shape.base);
      second = omega (arith, h.qual_base, p.point.qual_base);
      second_most = omega (arith, h.qual_base, p.shape.qual_base);
    };
    quals = ap length h.quals ∙ p.shape.quals;
    x = ap length h.x ∙ p.shape.x;
    y = ap length h.y ∙ p.shape.y;
    z = ap length h.z ∙ p.shape.z;
    mixed = ap length h.mix ∙ p.shape.mix;
  };
  point = subst (IsPointOfP n) (sym (seen-shown n q s h)) p.point;
}

pub flow_lists : (n : Net) (s : QualSlices) → IsQualPoint n s → HasFlowLists n s.flows
flow_lists n s p = record { base = p.shape.bases.base; outs = p.shape.y; directs = p.shape.z }

-- no flow of a point is too large to be added up
pub point-flows : (n : Net) (s : QualSlices) → IsLimited n → IsQualPoint n s → AreFlows n s.flows
point-flows n s lim p =
    let fits = point-fits n s lim p in
    record {
      base = p.shape.bases.base_most;
      feeds = p.shape.x;
      outs = p.shape.y;
      directs = p.shape.z;
      feeds_small = λ e lt. omega (arith, fits.feeds e lt, p.shape.bases.base_most);
      outs_small = λ o lt. omega (arith, fits.outs o lt, p.shape.bases.base_most);
      directs_small = λ e lt. omega (arith, fits.directs e lt, p.shape.bases.base_most);
    }

-- the flows of the lists are those of the point
pub too_fine-shown : (n : Net) (q : QualPoint) (s : QualSlices) → AreQualSlicesOf q s → AreTooFine n (flows_plan s.flows) → AreTooFine n (quality_flows (shown_qual n q))
too_fine-shown n q s h fine = subst (λ z. AreTooFine n (quality_flows z)) (seen-shown n q s h) fine

pub too_fine-seen : (n : Net) (q : QualPoint) (s : QualSlices) → AreQualSlicesOf q s → AreTooFine n (quality_flows (shown_qual n q)) → AreTooFine n (flows_plan s.flows)
too_fine-seen n q s h fine = subst (λ z. AreTooFine n (quality_flows z)) (sym (seen-shown n q s h)) fine

pub parts_too_fine-shown : (n : Net) (q : QualPoint) (s : QualSlices) → AreQualSlicesOf q s → AreTooFineParts n (flows_plan s.flows) → AreTooFineParts n (quality_flows (shown_qual n q))
parts_too_fine-shown n q s h fine = subst (λ z. AreTooFineParts n (quality_flows z)) (seen-shown n q s h) fine

pub parts_too_fine-seen : (n : Net) (q : QualPoint) (s : QualSlices) → AreQualSlicesOf q s → AreTooFineParts n (quality_flows (shown_qual n q)) → AreTooFineParts n (flows_plan s.flows)
parts_too_fine-seen n q s h fine = subst (λ z. AreTooFineParts n (quality_flows z)) (sym (seen-shown n q s h)) fine

-- ---- parts

-- over the least base they are whole
pub whole-parts : (n : Net) (s : QualSlices) (base : ℕ) → IsLeastPartBase n (flows_plan s.flows) base → AreWholeParts n (flows_plan s.flows) base
whole-parts n s base least = (least.whole base).1 (dvd_refl base)

-- a base within the limit is not too fine
pub parts-fine : (n : Net) (s : QualSlices) (base : ℕ) → IsLeastPartBase n (flows_plan s.flows) base → base ≤ 1048576 → ¬ AreTooFineParts n (flows_plan s.flows)
parts-fine n s base least small fine = absurd (omega (arith, small, fine base least.positive (whole-parts n s base least)))

-- ---- the plan
made-plan : (n : Net) (s : QualSlices) (g base : ℕ) (weights : List ℕ) (w : Written) → IsQualPoint n s → IsFlowDivisor s.flows.base s.flows.outs.now s.flows.directs.now g
    → IsLeastPartBase n (flows_plan s.flows) base → AreParts n (flows_plan s.flows) base weights → IsMade s.flows g base weights w → IsPlanOfQualities n (seen n s) w
made-plan n s g base weights w p d least parts m =
    let flows = flows_plan s.flows in
    record {
      flows = made-flows n s.flows g base weights w (flow_lists n s p) d parts.long m;
      base = subst (IsLeastPartBase n flows) (sym m.base) least;
      part = λ e lt sends.
          ap (λ (xs : List ℕ). get_or xs e 0 * outflow n flows (n.feed_pool e)) m.weights_are ∙ (parts.each e lt).part sends ∙ ap (λ b. flows.feed e * b) (sym m.base);
      empty = λ e lt none. ap (λ (xs : List ℕ). get_or xs e 0) m.weights_are ∙ (parts.each e lt).empty none ∙ ap (λ b. b * first_weight n e) (sym m.base);
    }

-- what the plan of a point promises
pub made-keeps : (n : Net) (q : QualPoint) (s : QualSlices) (g base : ℕ) (weights : List ℕ) (w : Written) → IsLimited n → AreQualSlicesOf q s → IsQualPoint n s
    → IsFlowDivisor s.flows.base s.flows.outs.now s.flows.directs.now g → IsLeastPartBase n (flows_plan s.flows) base → AreParts n (flows_plan s.flows) base weights → IsMade s.flows g base weights w
    → s.flows.base / g ≤ 65536 → base ≤ 1048576 → IsQualPlan n q w
made-keeps n q s g base weights w lim h p d least parts m small fits =
    let point = shown_qual n q in
    let held = point-held n q s h p in
    let plan = subst (λ z. IsPlanOfQualities n z w) (seen-shown n q s h) (made-plan n s g base weights w p d least parts m) in
    let by_parts = qualities-parts n point w lim held.point plan in
    let same = plan-same n (quality_flows point) w plan.flows by_parts in
    record {
      plan = plan;
      written = qualities-written n point w lim held.point plan (omega (arith, m.base, fits)) (omega (arith, m.flow_base, small));
      obeys = plan-obeys n (quality_flows point) w lim (point_of_p-obeys n point lim held.point) plan.base.positive plan.flows by_parts;
      flows = same;
      cost = cost-same n (plan_of n w) (quality_flows point) same;
    }

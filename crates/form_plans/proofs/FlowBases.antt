-- Flows over the least base that makes them whole.
use Rattle.std.proofs.Common.{◌≡◌, ℕ, ◌*◌, ◌/◌, ◌<◌, ◌≤◌, ◌^◌, inl, inr, false, IsTrue, List, length, get_or, map, arith, refl, sym, ap, subst, ◌∙◌}
use Rattle.std.specs.Int.{◌∣◌}
use Rattle.std.proofs.lemmas.Bool.{false≢true, cases_lt}
use Rattle.std.proofs.Math.Nat.{div-mul_cancel, mul-le-mul_left}
use Rattle.std.proofs.lemmas.Nat.Gcd.{dvd_refl, dvd_trans, le_of_dvd}
use Rattle.std.proofs.lemmas.List.{get_or-map, length-map}
use Rattle.pool_model.specs.Network.{Net, IsLimited}
use Rattle.pool_model.specs.Plan.{Written, Carries}
use Rattle.program_model.specs.LeastBases.{IsLeastFlowBase}
use Rattle.program_model.specs.Plans.{HasFlowsOf}
use Rattle.program_model.proofs.Bounds.{carries-bounded}
use Rattle.form_plans.specs.Divisors.{IsDivisorOf, IsFlowDivisor}
use Rattle.form_plans.proofs.CommonDivisors.{least-flow_base}
use Rattle.point_checks.specs.Flows.{flows_plan}
use Rattle.point_checks.specs.Sizes.{AreAtMost}
use Rattle.point_checks.specs.declared.flows.Flows.{Flows}
use Rattle.form_plans.specs.Made.{IsMade}
use Rattle.form_plans.specs.Faults.{AreTooFine}

-- flows over a base, one for each out and direct
pub record HasFlowLists (n : Net) (f : Flows) : Type 0 where
  pub base : 0 < f.base
  pub outs : length f.outs.now ≡ n.outs
  pub directs : length f.directs.now ≡ n.directs

-- ---- the least base
module _ (n : Net) (f : Flows) (g : ℕ) (lists : HasFlowLists n f) (d : IsFlowDivisor f.base f.outs.now f.directs.now g) where
  pub least_base : IsLeastFlowBase n (flows_plan f) (f.base / g)
  least_base =
      least-flow_base n (flows_plan f) d.first g lists.base
      (subst (λ (k : ℕ). IsDivisorOf f.base (λ i. get_or f.outs.now i 0) k d.first) lists.outs d.of_outs)
      (subst (λ (k : ℕ). IsDivisorOf d.first (λ i. get_or f.directs.now i 0) k g) lists.directs d.of_directs)

  pub positive : 0 < g
  positive = d.of_directs.positive (d.of_outs.positive lists.base)

  of_base : g ∣ f.base
  of_base = dvd_trans g d.of_directs.whole d.of_outs.whole

  whole_base : f.base / g * g ≡ f.base
  whole_base = div-mul_cancel g of_base

  of_out : (o : ℕ) → o < length f.outs.now → g ∣ get_or f.outs.now o 0
  of_out o lt = dvd_trans g d.of_directs.whole (d.of_outs.parts o lt)

  of_direct : (e : ℕ) → e < length f.directs.now → g ∣ get_or f.directs.now e 0
  of_direct e lt = d.of_directs.parts e lt

  -- how large what is divided is
  fine : (b x : ℕ) → b ≡ f.base / g → b ≤ 65536 → x ≤ f.base * 10 ^ 12 → x ≤ g * 2 ^ 56
  fine b x e small most = omega (arith, most, ap (λ z. z * g) e, whole_base, mul-le-mul_left g small)

  pub outs-fine : IsLimited n → Carries n (flows_plan f) → f.base / g ≤ 65536 → AreAtMost (g * 2 ^ 56) f.outs.now
  outs-fine lim carries small o lt =
      fine (f.base / g) (get_or f.outs.now o 0) refl small ((carries-bounded n (flows_plan f) lim carries).out o (omega (arith, lt, lists.outs)))

  pub directs-fine : IsLimited n → Carries n (flows_plan f) → f.base / g ≤ 65536 → AreAtMost (g * 2 ^ 56) f.directs.now
  directs-fine lim carries small e lt =
      fine (f.base / g) (get_or f.directs.now e 0) refl small ((carries-bounded n (flows_plan f) lim carries).direct e (omega (arith, lt, lists.directs)))

  -- a base above the limit is too fine, and one within it is not
  pub base-too_fine : 65536 < f.base / g → AreTooFine n (flows_plan f)
  base-too_fine over = record { base = f.base / g; least = least_base; over = over }

  pub base-fine : f.base / g ≤ 65536 → ¬ AreTooFine n (flows_plan f)
  base-fine small fine = absurd (omega (arith, small, fine.over, le_of_dvd least_base.positive ((fine.least.whole (f.base / g)).0 ((least_base.whole (f.base / g)).1 (dvd_refl (f.base / g))))))

-- a flow over the divisor is the flow over the base over the divisor
regroup : (q r g : ℕ) → q * (r * g) ≡ (q * g) * r
regroup q r g = omega arith

over : (f b g : ℕ) → g ∣ f → g ∣ b → f / g * b ≡ f * (b / g)
over f b g hf hb = ap (λ z. f / g * z) (sym (div-mul_cancel g hb)) ∙ regroup (f / g) (b / g) g ∙ ap (λ z. z * (b / g)) (div-mul_cancel g hf)

over_at : (xs ys : List ℕ) (i b g : ℕ) → i < length ys → xs ≡ map (λ f. f / g) ys → g ∣ get_or ys i 0 → g ∣ b → get_or xs i 0 * b ≡ get_or ys i 0 * (b / g)
over_at xs ys i b g lt e hf hb = ap (λ (z : List ℕ). get_or z i 0 * b) e ∙ ap (λ z. z * b) (get_or-map (λ f. f / g) ys i 0 0 lt) ∙ over (get_or ys i 0) b g hf hb

-- ---- the flows of the plan
pub made-flows : (n : Net) (f : Flows) (g parts : ℕ) (weights : List ℕ) (w : Written) → HasFlowLists n f → IsFlowDivisor f.base f.outs.now f.directs.now g → length weights ≡ n.feeds
    → IsMade f g parts weights w → HasFlowsOf n (flows_plan f) w
made-flows n f g parts weights w lists d long m = record {
  flow_base = subst (IsLeastFlowBase n (flows_plan f)) (sym m.flow_base) (least_base n f g lists d);
  weights = ap length m.weights_are ∙ long;
  outflows = ap length m.outflows ∙ length-map f.outs.now (λ x. x / g) ∙ lists.outs;
  direct = ap length m.direct ∙ length-map f.directs.now (λ x. x / g) ∙ lists.directs;
  out = λ o lt.
      let within : o < length f.outs.now = omega (arith, lt, lists.outs) in
      over_at w.outflows f.outs.now o f.base g within m.outflows (of_out n f g lists d o within) (of_base n f g lists d) ∙ ap (λ z. get_or f.outs.now o 0 * z) (sym m.flow_base);
  straight = λ e lt.
      let within : e < length f.directs.now = omega (arith, lt, lists.directs) in
      over_at w.direct f.directs.now e f.base g within m.direct (of_direct n f g lists d e within) (of_base n f g lists d) ∙ ap (λ z. get_or f.directs.now e 0 * z) (sym m.flow_base);
}

-- a base that fails the test is above the limit
pub above : (b : ℕ) → (b ≤ 65536 → IsTrue false) → 65536 < b
above b fails = elim (cases_lt 65536 b) [ inl over ↦ over | inr within ↦ absurd (false≢true (fails within)) ]

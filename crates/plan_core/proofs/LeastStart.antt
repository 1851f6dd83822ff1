-- The cheapest of the starting plans, from the first number that is cheapest.
use Rattle.std.proofs.Common.{◌≡◌, ℕ, zero, suc, ◌*◌, None, Some, arith, refl, sym, ap, subst, ◌∙◌}
use Rattle.integers.proofs.Ring.{additive}
use Rattle.pool_model.specs.Network.{Net, IsLimited}
use Rattle.pool_model.specs.Plan.{Written, IsWritten, Obeys, plan_of, cost_of}
use Rattle.pool_model.specs.Starting.{IsCheapestStart, IsStarting, StartObeys, simple_plan, start_at, start_cost, starts, way_at}
use Rattle.pool_model.specs.Starting as model
use Rattle.pool_model.proofs.StartOrder.{start_at-every, start_at-written}
use Rattle.start_ways.specs.Cheapest.{IsFirstLeast}
use Rattle.start_ways.specs.declared.choice.Choice.{Choice}
use Rattle.plan_core.specs.Faults.{IsCostOf}
use Rattle.plan_core.specs.declared.plan.Cost.{Cost}

pub start-base : (n : Net) (k : ℕ) → (start_at n k).flow_base * (start_at n k).base ≡ 1
start-base n zero = refl
start-base n (suc a) = simple-base (way_at n a)
  where
    simple-base : (way : model.Way) → (simple_plan n way).flow_base * (simple_plan n way).base ≡ 1
    simple-base (model.through e o) = refl
    simple-base (model.straight e) = refl

module _ (n : Net) (limited : IsLimited n) where
  pub none-obeys : IsFirstLeast (StartObeys n) (start_cost n) (starts n) None → (w : Written) → IsStarting n w → ¬ Obeys n (plan_of n w)
  none-obeys none w starting obeys = let at = start_at-every n w limited starting in none at.0 at.1 (subst (λ v. Obeys n (plan_of n v)) (sym at.2) obeys)

  pub least-cheapest : (best : Choice) (w : Written) → w ≡ start_at n best.number → IsFirstLeast (StartObeys n) (start_cost n) (starts n) (Some best) → IsCheapestStart n w
  least-cheapest best w is least = record {
    number = best.number;
    there = least.there;
    is = is;
    obeys = subst (λ v. Obeys n (plan_of n v)) (sym is) least.has;
    no_dearer = λ v starting obeys.
        let at = start_at-every n v limited starting in
        let low = least.least at.0 at.1 (subst (λ v. Obeys n (plan_of n v)) (sym at.2) obeys) in
        omega (arith, additive, low, least.is, ap (λ v. cost_of n (plan_of n v)) is, ap (λ v. cost_of n (plan_of n v)) at.2);
    first = λ k lt obeys. omega (arith, additive, least.first k lt obeys, least.is, ap (λ v. cost_of n (plan_of n v)) is);
  }

  pub least-costs : (best : Choice) (w : Written) (c : Cost) → w ≡ start_at n best.number
      → IsFirstLeast (StartObeys n) (start_cost n) (starts n) (Some best) → c.num ≡ best.cost → c.base ≡ 1 → IsCostOf n w c
  least-costs best w c is least num base = record {
    written = subst (IsWritten n) (sym is) (start_at-written n best.number limited least.there);
    obeys = subst (λ v. Obeys n (plan_of n v)) (sym is) least.has;
    num = num ∙ least.is ∙ ap (λ v. cost_of n (plan_of n v)) (sym is);
    base = base ∙ sym (ap (λ (v : Written). v.flow_base * v.base) is ∙ start-base n best.number);
  }

-- A written plan that breaks no rule has its form, and the plan that it stands for obeys the network.
use Rattle.std.proofs.Common.{◌≡◌, ◌*◌, ℤ, ◌≤ℤ◌, ◌<ℤ◌}
use Rattle.std.proofs.Math.Nat.{mul-le-mul}
use Rattle.std.proofs.lemmas.Int.{by_lt_z}
use Rattle.pool_model.specs.Network.{Net}
use Rattle.pool_model.specs.Plan.{Written, IsWritten, plan_of, Carries, Blends, cost_of}
use Rattle.pool_model.proofs.ArcCosts.{by_number-keeps}
use Rattle.plan_core.specs.Faults.{IsShaped, Keeps, KeepsEach, IsCostOf}
use Rattle.plan_core.specs.declared.plan.Cost.{Cost}
use Rattle.plan_core.specs.declared.fault.PlanFault.TheVariants.{WeightSum, SourceOver, PoolOver, ProductOver, ProductUnder, QualityOver, QualityUnder, ArcOver}
use Rattle.plan_core.proofs.Supply.{whole_weights, balance, not_less}

-- the rules about flows
pub record KeepsFlows (n : Net) (w : Written) : Type 0 where
  pub shaped : IsShaped n w
  pub sums : Keeps n w (λ l. WeightSum l)
  pub sources : Keeps n w (λ i. SourceOver i)
  pub pools : Keeps n w (λ l. PoolOver l)
  pub most : Keeps n w (λ j. ProductOver j)
  pub least : Keeps n w (λ j. ProductUnder j)

-- and about qualities and arcs
pub record KeepsAll (n : Net) (w : Written) : Type 0 where
  pub flows : KeepsFlows n w
  pub most : KeepsEach n w (λ j k. QualityOver j k)
  pub least : KeepsEach n w (λ j k. QualityUnder j k)
  pub arcs : Keeps n w (λ a. ArcOver a)

pub written-shape : (n : Net) (w : Written) → IsShaped n w → Keeps n w (λ l. WeightSum l) → IsWritten n w
written-shape n w shaped sums = record {
  base = shaped.base;
  flow_base = shaped.flow_base;
  weights = shaped.weights;
  outflows = shaped.outflows;
  direct = shaped.direct;
  weight_sums = whole_weights n w sums;
}

carries : (n : Net) (w : Written) → KeepsFlows n w → Keeps n w (λ a. ArcOver a) → Carries n (plan_of n w)
carries n w kept arcs = record {
  sources = λ i lt. not_less _ _ (λ over. kept.sources i (lt, over));
  balanced = λ l lt. balance n w l (whole_weights n w kept.sums l lt);
  pools = λ l lt. not_less _ _ (λ over. kept.pools l (lt, over));
  at_least = λ j lt. not_less _ _ (λ under. kept.least j (lt, under));
  at_most = λ j lt. not_less _ _ (λ over. kept.most j (lt, over));
  arcs = by_number-keeps n (plan_of n w) (λ a m lt is. not_less _ _ (λ over. arcs a (lt, record { most = m; is = is; above = over })));
}

not_less_ℤ : (a b : ℤ) → ¬ (a <ℤ b) → b ≤ℤ a
not_less_ℤ a b h = by_lt_z a b (λ l. absurd (h l)) (λ g. g)

blends : (n : Net) (w : Written) → KeepsAll n w → Blends n (plan_of n w)
blends n w kept = record {
  at_most = λ j k u in_products in_qualities is. not_less_ℤ _ _ (λ above. kept.most j k (in_products, in_qualities, record { most = u; is = is; above = above }));
  at_least = λ j k u in_products in_qualities is. not_less_ℤ _ _ (λ below. kept.least j k (in_products, in_qualities, record { least = u; is = is; below = below }));
}

pub cost_is : (n : Net) (w : Written) (c : Cost) → KeepsAll n w → c.num ≡ cost_of n (plan_of n w) → c.base ≡ w.flow_base * w.base → IsCostOf n w c
cost_is n w c kept num base = record {
  written = written-shape n w kept.flows.shaped kept.flows.sums;
  obeys = record { denominator = mul-le-mul kept.flows.shaped.flow_base.0 kept.flows.shaped.base.0; carries = carries n w kept.flows kept.arcs; blends = blends n w kept };
  num = num;
  base = base;
}

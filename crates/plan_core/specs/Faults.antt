-- When a written plan breaks a rule of its network, which of these counts first, and what a plan without a fault costs.
use Rattle.std.specs.Prelude.{◌≡◌, ◌≢◌, ℕ, ◌*◌, ◌<◌, ◌≤◌, ◌⊎◌, List, [], ◌∷◌, length, Some, ℤ, ◌<ℤ◌}
use Rattle.faults.specs.First.{IsFirst, IsFirstOf}
use Rattle.integers.specs.Sums.{sum_at}
use Rattle.pool_model.specs.Network.{Net, arcs, arc_max}
use Rattle.pool_model.specs.Plan.{Plan, Written, weight, IsWritten, plan_of, arc_flow, outflow, source_outflow, product_inflow, quality_inflow, quality_room, Obeys, cost_of}
use Rattle.plan_core.specs.declared.plan.Cost.{Cost}
use Rattle.plan_core.specs.declared.fault.PlanFault.{PlanFault}
use Rattle.plan_core.specs.declared.fault.PlanFault.TheVariants.{Shape, WeightSum, SourceOver, PoolOver, ProductOver, ProductUnder, QualityOver, QualityUnder, ArcOver}

-- The bases are within the limits, and there is a number for each arc.
pub record IsShaped (n : Net) (w : Written) : Type 0 where
  pub base : (1 ≤ w.base) × (w.base ≤ 1048576)
  pub flow_base : (1 ≤ w.flow_base) × (w.flow_base ≤ 65536)
  pub weights : length w.weights ≡ n.feeds
  pub outflows : length w.outflows ≡ n.outs
  pub direct : length w.direct ≡ n.directs

-- the product's mean of the quality is above its most, multiplied out
pub record IsAboveMost (n : Net) (p : Plan) (j k : ℕ) : Type 0 where
  pub most : ℤ
  pub is : n.most j k ≡ Some most
  pub above : quality_room n p j most <ℤ quality_inflow n p j k

-- the product's mean of the quality is below its least, multiplied out
pub record IsBelowLeast (n : Net) (p : Plan) (j k : ℕ) : Type 0 where
  pub least : ℤ
  pub is : n.least j k ≡ Some least
  pub below : quality_inflow n p j k <ℤ quality_room n p j least

-- the arc has a maximum, and carries more
pub record IsAboveMaximum (n : Net) (p : Plan) (a : ℕ) : Type 0 where
  pub most : ℕ
  pub is : arc_max n a ≡ Some most
  pub above : p.base * most < arc_flow n p a

-- The written plan breaks this rule. Flows and qualities are those of the plan that it stands for.
abbrev pub Breaks : Net → Written → PlanFault → Type 0
Breaks n w Shape = ¬ IsShaped n w
Breaks n w (WeightSum l) = (l < n.pools) × (sum_at n.feed_pool l (weight w) n.feeds ≢ w.base)
Breaks n w (SourceOver i) = (i < n.sources) × ((plan_of n w).base * n.source_max i < source_outflow n (plan_of n w) i)
Breaks n w (PoolOver l) = (l < n.pools) × ((plan_of n w).base * n.pool_max l < outflow n (plan_of n w) l)
Breaks n w (ProductOver j) = (j < n.products) × ((plan_of n w).base * n.product_max j < product_inflow n (plan_of n w) j)
Breaks n w (ProductUnder j) = (j < n.products) × (product_inflow n (plan_of n w) j < (plan_of n w).base * n.product_min j)
Breaks n w (QualityOver j k) = (j < n.products) × (k < n.qualities) × IsAboveMost n (plan_of n w) j k
Breaks n w (QualityUnder j k) = (j < n.products) × (k < n.qualities) × IsBelowLeast n (plan_of n w) j k
Breaks n w (ArcOver a) = (a < arcs n) × IsAboveMaximum n (plan_of n w) a

-- ---- order

-- the number of the rule
abbrev pub number : PlanFault → ℕ
number Shape = 1
number (WeightSum _) = 2
number (SourceOver _) = 3
number (PoolOver _) = 4
number (ProductOver _) = 5
number (ProductUnder _) = 6
number (QualityOver _ _) = 7
number (QualityUnder _ _) = 8
number (ArcOver _) = 9

-- the source, pool, product or arc that it is about, then the quality
abbrev pub about : PlanFault → List ℕ
about Shape = []
about (WeightSum l) = l ∷ []
about (SourceOver i) = i ∷ []
about (PoolOver l) = l ∷ []
about (ProductOver j) = j ∷ []
about (ProductUnder j) = j ∷ []
about (QualityOver j k) = j ∷ k ∷ []
about (QualityUnder j k) = j ∷ k ∷ []
about (ArcOver a) = a ∷ []

-- rules go by their numbers, then by what they are about
abbrev pub rank : PlanFault → List ℕ
rank f = number f ∷ about f

-- a rule that the plan breaks, where it breaks none before it
abbrev pub IsFirstFault : Net → Written → PlanFault → Type 0
IsFirstFault n w = IsFirst rank (Breaks n w)

-- ---- one rule at a time

-- the plan keeps a rule about nodes or arcs at every one
abbrev pub Keeps : Net → Written → (ℕ → PlanFault) → Type 0
Keeps n w fault = (i : ℕ) → ¬ Breaks n w (fault i)

-- the fault of the first node or arc at which the plan breaks a rule
abbrev pub IsFirstBroken : Net → Written → (ℕ → PlanFault) → PlanFault → Type 0
IsFirstBroken n w fault = IsFirstOf fault (λ i. Breaks n w (fault i))

-- the same for a rule about products and qualities
abbrev pub KeepsEach : Net → Written → (ℕ → ℕ → PlanFault) → Type 0
KeepsEach n w fault = (j : ℕ) → Keeps n w (fault j)

pub record IsFirstOfEach (n : Net) (w : Written) (fault : ℕ → ℕ → PlanFault) (f : PlanFault) : Type 0 where
  pub product : ℕ
  pub quality : IsFirstBroken n w (fault product) f
  pub first : (j : ℕ) → j < product → Keeps n w (fault j)

-- The first fault about qualities: all that are too high come before those that are too low.
abbrev pub IsFirstQuality : Net → Written → PlanFault → Type 0
IsFirstQuality n w f = IsFirstOfEach n w (λ j k. QualityOver j k) f ⊎ (KeepsEach n w (λ j k. QualityOver j k) × IsFirstOfEach n w (λ j k. QualityUnder j k) f)

-- ---- cost

-- The written plan has its form, the plan that it stands for obeys the network, and this is its cost.
pub record IsCostOf (n : Net) (w : Written) (c : Cost) : Type 0 where
  pub written : IsWritten n w
  pub obeys : Obeys n (plan_of n w)
  pub num : c.num ≡ cost_of n (plan_of n w)
  pub base : c.base ≡ w.flow_base * w.base

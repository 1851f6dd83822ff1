-- What the check adds up and compares: flows of the written plan's plan, and qualities by weights in place of products over all pools.
use Rattle.std.specs.Prelude.{◌≡◌, ℕ, ◌<◌, ◌≤◌, ◌^◌, List, [], get_or, Option, Some, None, ℤ, pos, ◌+ℤ◌, ◌*ℤ◌, ◌<ℤ◌, unsigned_abs}
use Rattle.integers.specs.Sums.{int_sum_at, sum_at, sum_below}
use Rattle.pool_model.specs.Network.{Net}
use Rattle.pool_model.specs.Plan.{Written, weight, written_out, written_outflow, plan_of, source_outflow, product_inflow}

-- a pool's quality by the weights of its feeds, over the base
abbrev pub weighed : Net → Written → ℕ → ℕ → ℤ
weighed n w l k = int_sum_at n.feed_pool l (λ e. n.source_quality (n.feed_source e) k *ℤ pos (weight w e)) n.feeds

-- what of it leaves the pool, in parts of the scale
abbrev pub leaving : Net → Written → ℕ → ℕ → ℤ
leaving n w l k = pos (n.retained l k) *ℤ weighed n w l k

-- what the pools bring of a quality to a product, in parts of the scale, over both bases: along the outs below a number
abbrev pub pooled_below : Net → Written → ℕ → ℕ → ℕ → ℤ
pooled_below n w k outs j = int_sum_at n.out_product j (λ o. leaving n w (n.out_pool o) k *ℤ pos (written_out w o)) outs

-- the same for directs
abbrev pub sent_below : Net → Written → ℕ → ℕ → ℕ → ℤ
sent_below n w k directs j =
    int_sum_at n.direct_product j (λ e. pos n.scale *ℤ n.source_quality (n.direct_source e) k *ℤ pos ((plan_of n w).direct e)) directs

-- the quality that reaches a product, in parts of the scale, over both bases
abbrev pub written_quality : Net → Written → ℕ → ℕ → ℤ
written_quality n w j k = pooled_below n w k n.outs j +ℤ sent_below n w k n.directs j

-- a quality that reaches a product, in parts of a scale, passes a most, if there is one
abbrev pub IsAbove : ℤ → Option ℤ → ℕ → ℤ → Type 0
IsAbove scale None inflow quality = ⊥
IsAbove scale (Some most) inflow quality = (scale *ℤ most *ℤ pos inflow) <ℤ quality

-- a quality that reaches a product, in parts of a scale, stays below a least, if there is one
abbrev pub IsBelow : ℤ → Option ℤ → ℕ → ℤ → Type 0
IsBelow scale None inflow quality = ⊥
IsBelow scale (Some least) inflow quality = quality <ℤ (scale *ℤ least *ℤ pos inflow)

-- ---- tables by node

abbrev pub AreWeightSums : Net → Written → List ℕ → Type 0
AreWeightSums n w sums = (l : ℕ) → l < n.pools → get_or sums l 0 ≡ sum_at n.feed_pool l (weight w) n.feeds

abbrev pub ArePoolOutflows : Net → Written → List ℕ → Type 0
ArePoolOutflows n w flows = (l : ℕ) → l < n.pools → get_or flows l 0 ≡ written_outflow n w l

abbrev pub AreSourceOutflows : Net → Written → List ℕ → Type 0
AreSourceOutflows n w flows = (i : ℕ) → i < n.sources → get_or flows i 0 ≡ source_outflow n (plan_of n w) i

abbrev pub AreProductInflows : Net → Written → List ℕ → Type 0
AreProductInflows n w flows = (j : ℕ) → j < n.products → get_or flows j 0 ≡ product_inflow n (plan_of n w) j

-- of one quality, by pool
abbrev pub ArePoolQualities : Net → Written → ℕ → List ℤ → Type 0
ArePoolQualities n w k sums = (l : ℕ) → l < n.pools → get_or sums l (pos 0) ≡ weighed n w l k

-- of one quality, by product
abbrev pub AreProductQualities : Net → Written → ℕ → List ℤ → Type 0
AreProductQualities n w k sums = (j : ℕ) → j < n.products → get_or sums j (pos 0) ≡ written_quality n w j k

-- of each quality, by product
abbrev pub AreQualities : Net → Written → List (List ℤ) → Type 0
AreQualities n w columns = (k : ℕ) → k < n.qualities → AreProductQualities n w k (get_or columns k [])

-- ---- sizes

-- How large the numbers of a plan are whose weights sum to the base and that passes no product's maximum.
pub record HasRoom (n : Net) (w : Written) : Type 0 where
  pub outflows : (o : ℕ) → o < n.outs → written_out w o ≤ 2 ^ 56
  pub pooled : (j : ℕ) → j < n.products → sum_at n.out_product j (written_out w) n.outs ≤ 2 ^ 56
  pub directs : (e : ℕ) → e < n.directs → (plan_of n w).direct e ≤ 2 ^ 76
  pub weights : (l : ℕ) → l < n.pools → sum_at n.feed_pool l (weight w) n.feeds ≤ 2 ^ 20
  pub weighed : (l k : ℕ) → l < n.pools → k < n.qualities → unsigned_abs (weighed n w l k) ≤ 2 ^ 57
  pub inflows : (j : ℕ) → j < n.products → product_inflow n (plan_of n w) j ≤ 2 ^ 76
  pub supply : sum_below (source_outflow n (plan_of n w)) n.sources ≤ 2 ^ 82
  pub demand : sum_below (product_inflow n (plan_of n w)) n.products ≤ 2 ^ 82

-- ---- searches

-- the first number below a count of which a fact holds, if there is one
abbrev pub IsFirstBelow : (ℕ → Type 0) → ℕ → Option ℕ → Type 0
IsFirstBelow P count None = (k : ℕ) → k < count → ¬ P k
IsFirstBelow P count (Some k) = (k < count) × P k × ((m : ℕ) → m < k → ¬ P m)

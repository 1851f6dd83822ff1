-- A plan that sends one amount along a way and nothing else: it obeys where that is all that is demanded and suits, and what it costs.
use Rattle.std.proofs.Common.{◌≡◌, ℕ, ◌*◌, ◌<◌, ◌≤◌, ◌⊎◌, inl, inr, ◌==◌, if◌then◌else◌, Bool, true, false, ◌&&◌, Option, Some, None, ℤ, pos, neg_ℤ, ◌+ℤ◌, ◌-ℤ◌, ◌*ℤ◌, ◌≤ℤ◌, arith, refl, sym, ap, subst, ◌∙◌}
use Rattle.std.specs.Prelude.{int_le}
use Rattle.std.proofs.lemmas.Int.{ints}
use Rattle.std.proofs.Math.IntN.{*ℤ-zero}
use Rattle.integers.specs.Sums.{product_below}
use Rattle.integers.proofs.Ring.{additive, mul_comm_ℤ, add-mul, neg-mul}
use Rattle.integers.proofs.Order.{le-mul}
use Rattle.integers.proofs.ByIndex.{int_sum_below-same}
use Rattle.integers.proofs.AtKey.{same_or_other, chosen, passed, none_either}
use Rattle.integers.proofs.ByNode.{int_sum_below-alone}
use Rattle.pool_model.specs.Network.{Net}
use Rattle.pool_model.specs.Plan.{Plan, Obeys, Carries, KeepsMaxima, Blends, source_outflow, pool_inflow, outflow, product_inflow, carriage, cost_of, factor, quality_inflow}
use Rattle.pool_model.specs.Starting.{HasNoMinima, MeetsMinima, Way, way_source, way_product, way_quality, way_carriage, suits, is_above, is_below}
use Rattle.pool_model.proofs.AllBelow.{all_below-each}

-- so much goes along a way, over 1: all that reaches the product has the qualities that the way brings, and what the arcs cost
pub record Ships (n : Net) (p : Plan) (way : Way) (t : ℕ) : Type 0 where
  pub base : p.base ≡ 1
  pub sent : (k : ℕ) → source_outflow n p k ≡ (if way_source n way == k then t else 0)
  pub taken : (k : ℕ) → product_inflow n p k ≡ (if way_product n way == k then t else 0)
  pub quality : (m k : ℕ) → quality_inflow n p m k ≡ pos (product_below (factor n p) n.pools) *ℤ (way_quality n way k *ℤ pos (product_inflow n p m))
  pub carried : carriage n p ≡ way_carriage n way *ℤ pos t

pub chosen-le : (i j t base : ℕ) (max : ℕ → ℕ) → base ≡ 1 → t ≤ max i → (if i == j then t else 0) ≤ base * max j
chosen-le i j t base max b h = elim (same_or_other i j) [
  | inl e ↦ omega (arith, chosen i j t 0 e, ap max e, ap (λ z. z * max j) b)
  | inr d ↦ omega (arith, passed i j t 0 d)
]

pub carries-ships : (n : Net) (p : Plan) (way : Way) (t : ℕ) → Ships n p way t → MeetsMinima n (way_product n way) t
    → t ≤ n.source_max (way_source n way) → t ≤ n.product_max (way_product n way)
    → ((l : ℕ) → l < n.pools → pool_inflow n p l ≡ outflow n p l) → ((l : ℕ) → l < n.pools → outflow n p l ≤ p.base * n.pool_max l) → KeepsMaxima n p → Carries n p
carries-ships n p way t s m source product balanced pools arcs = record {
  sources = λ k lt. omega (arith, s.sent k, chosen-le (way_source n way) k t p.base n.source_max s.base source);
  balanced = balanced;
  pools = pools;
  at_least = λ k lt. omega (arith, s.taken k, m k lt, ap (λ z. z * n.product_min k) s.base);
  at_most = λ k lt. omega (arith, s.taken k, chosen-le (way_product n way) k t p.base n.product_max s.base product);
  arcs = arcs;
}

-- what is shipped is all that a product must take
pub ships-minima : (n : Net) (p : Plan) (way : Way) (t : ℕ) → Ships n p way t → Obeys n p → MeetsMinima n (way_product n way) t
ships-minima n p way t s obeys k lt = omega (arith, s.taken k, obeys.carries.at_least k lt, ap (λ z. z * n.product_min k) s.base)

pub meets-nothing : (n : Net) (product : ℕ) → HasNoMinima n → MeetsMinima n product 0
meets-nothing n product none j lt = omega (arith, none j lt)

pub meets-none : (n : Net) (product : ℕ) → MeetsMinima n product 0 → HasNoMinima n
meets-none n product meets j lt = omega (arith, meets j lt, none_either (product == j) 0 refl)

-- the qualities that a way brings meet the product's limits at this flow
pub record Suits (n : Net) (way : Way) (t : ℕ) : Type 0 where
  pub most : (k : ℕ) (u : ℤ) → k < n.qualities → n.most (way_product n way) k ≡ Some u → (way_quality n way k *ℤ pos t) ≤ℤ (pos n.scale *ℤ u *ℤ pos t)
  pub least : (k : ℕ) (u : ℤ) → k < n.qualities → n.least (way_product n way) k ≡ Some u → (pos n.scale *ℤ u *ℤ pos t) ≤ℤ (way_quality n way k *ℤ pos t)

-- two qualities in order at a flow are in order at the flow or at none
pub le-none_or : (a b : ℤ) (s : ℕ) → s ≡ 0 → (a *ℤ pos s) ≤ℤ (b *ℤ pos s)
le-none_or a b s e = omega (arith, additive, ap (λ z. a *ℤ pos z) e, ap (λ z. b *ℤ pos z) e, *ℤ-zero a, *ℤ-zero b)

pub blends-ships : (n : Net) (p : Plan) (way : Way) (t : ℕ) → Ships n p way t → Suits n way t → Blends n p
blends-ships n p way t s fits = record {
  at_most = λ m k u lm lk is.
      let j = way_product n way in
      let q = way_quality n way k in
      let limit = pos n.scale *ℤ u in
      let order : (q *ℤ pos (product_inflow n p m)) ≤ℤ (limit *ℤ pos (product_inflow n p m)) = elim (same_or_other j m) [
        | inl same ↦ subst (λ (z : ℕ). (q *ℤ pos z) ≤ℤ (limit *ℤ pos z)) (sym (s.taken m ∙ chosen j m t 0 same)) (fits.most k u lk (ap (λ z. n.most z k) same ∙ is))
        | inr other ↦ le-none_or q limit (product_inflow n p m) (s.taken m ∙ passed j m t 0 other)
      ] in
      omega (arith, additive, s.quality m k, le-mul (pos (product_below (factor n p) n.pools)) (q *ℤ pos (product_inflow n p m)) (limit *ℤ pos (product_inflow n p m)) (omega (arith, additive)) order);
  at_least = λ m k u lm lk is.
      let j = way_product n way in
      let q = way_quality n way k in
      let limit = pos n.scale *ℤ u in
      let order : (limit *ℤ pos (product_inflow n p m)) ≤ℤ (q *ℤ pos (product_inflow n p m)) = elim (same_or_other j m) [
        | inl same ↦ subst (λ (z : ℕ). (limit *ℤ pos z) ≤ℤ (q *ℤ pos z)) (sym (s.taken m ∙ chosen j m t 0 same)) (fits.least k u lk (ap (λ z. n.least z k) same ∙ is))
        | inr other ↦ le-none_or limit q (product_inflow n p m) (s.taken m ∙ passed j m t 0 other)
      ] in
      omega (arith, additive, s.quality m k, le-mul (pos (product_below (factor n p) n.pools)) (limit *ℤ pos (product_inflow n p m)) (q *ℤ pos (product_inflow n p m)) (omega (arith, additive)) order);
}

pub cost-ships : (n : Net) (p : Plan) (way : Way) (t : ℕ) → Ships n p way t → way_source n way < n.sources → way_product n way < n.products
    → cost_of n p ≡ (n.source_cost (way_source n way) +ℤ way_carriage n way -ℤ n.price (way_product n way)) *ℤ pos t
cost-ships n p way t s ls lp =
    let i = way_source n way in
    let j = way_product n way in
    omega (
      arith,
      additive,
      int_sum_below-same (λ k. n.source_cost k *ℤ pos (source_outflow n p k)) (λ k. n.source_cost k *ℤ pos (if i == k then t else 0)) n.sources (λ k lt. ap (λ z. n.source_cost k *ℤ pos z) (s.sent k)),
      int_sum_below-alone n.source_cost i t n.sources ls,
      s.carried,
      int_sum_below-same (λ k. n.price k *ℤ pos (product_inflow n p k)) (λ k. n.price k *ℤ pos (if j == k then t else 0)) n.products (λ k lt. ap (λ z. n.price k *ℤ pos z) (s.taken k)),
      int_sum_below-alone n.price j t n.products lp,
      add-mul (n.source_cost i +ℤ way_carriage n way) (neg_ℤ (n.price j)) (pos t),
      add-mul (n.source_cost i) (way_carriage n way) (pos t),
      neg-mul (n.price j) (pos t),
    )

-- ---- when a shipment suits
flow_or_none : (b : Bool) (m : ℕ) → ((if b then m else 0) ≡ 0) ⊎ (b ≡ true)
flow_or_none true m = inr refl
flow_or_none false m = inl refl

pub flow-le : (b : Bool) (m c : ℕ) → m ≤ c → (if b then m else 0) ≤ c
flow-le true m c h = h
flow-le false m c h = omega arith

-- a flow times two qualities in order
le-mul_flow : (flow : ℕ) (a b : ℤ) → a ≤ℤ b → (a *ℤ pos flow) ≤ℤ (b *ℤ pos flow)
le-mul_flow flow a b h = omega (arith, additive, le-mul (pos flow) a b (omega (arith, additive)) h, mul_comm_ℤ a (pos flow), mul_comm_ℤ b (pos flow))

le_from_test : (a b : ℤ) → int_le a b ≡ true → a ≤ℤ b
le_from_test a b t = grind (arith, ints)

-- what the tests of the qualities tell
below-most : (scale u q : ℤ) (most : Option ℤ) → most ≡ Some u → is_below scale most q ≡ true → q ≤ℤ (scale *ℤ u)
below-most scale u q None e t = cc
below-most scale u q (Some m) e t = let same : m ≡ u = cc in omega (arith, additive, ap (λ z. scale *ℤ z) same, le_from_test q (scale *ℤ m) t)

above-least : (scale u q : ℤ) (least : Option ℤ) → least ≡ Some u → is_above scale least q ≡ true → (scale *ℤ u) ≤ℤ q
above-least scale u q None e t = cc
above-least scale u q (Some m) e t = let same : m ≡ u = cc in omega (arith, additive, ap (λ z. scale *ℤ z) same, le_from_test (scale *ℤ m) q t)

suits-each : (n : Net) (quality : ℕ → ℤ) (j k : ℕ) → suits n quality j ≡ true → k < n.qualities
    → (is_above (pos n.scale) (n.least j k) (quality k) ≡ true) × (is_below (pos n.scale) (n.most j k) (quality k) ≡ true)
suits-each n quality j k fits lk =
    both (is_above (pos n.scale) (n.least j k) (quality k)) (is_below (pos n.scale) (n.most j k) (quality k))
    (all_below-each (λ h. is_above (pos n.scale) (n.least j h) (quality h) && is_below (pos n.scale) (n.most j h) (quality h)) n.qualities k fits lk)
  where
    both : (a b : Bool) → (a && b) ≡ true → (a ≡ true) × (b ≡ true)
    both true b e = (refl, e)
    both false b e = cc

-- what a way carries alone suits
pub flow-suits : (n : Net) (way : Way) (m : ℕ) → Suits n way (if suits n (way_quality n way) (way_product n way) then m else 0)
flow-suits n way m =
    let j = way_product n way in
    let test = suits n (way_quality n way) j in
    let flow = if test then m else 0 in
    elim (flow_or_none test m) [
      | inl z ↦ record { most = λ k u lk is. le-none_or (way_quality n way k) (pos n.scale *ℤ u) flow z; least = λ k u lk is. le-none_or (pos n.scale *ℤ u) (way_quality n way k) flow z }
      | inr fits ↦ record {
        most = λ k u lk is.
            le-mul_flow flow (way_quality n way k) (pos n.scale *ℤ u)
            (below-most (pos n.scale) u (way_quality n way k) (n.most j k) is (suits-each n (way_quality n way) j k fits lk).1);
        least = λ k u lk is.
            le-mul_flow flow (pos n.scale *ℤ u) (way_quality n way k)
            (above-least (pos n.scale) u (way_quality n way k) (n.least j k) is (suits-each n (way_quality n way) j k fits lk).0);
      }
    ]

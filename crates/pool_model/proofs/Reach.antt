-- No plan that obeys costs less than the reach bound.
use Rattle.std.proofs.Common.{◌≡◌, ℕ, zero, suc, ◌*◌, ◌<◌, inl, inr, ◌==◌, if◌then◌else◌, Option, Some, None, ℤ, pos, neg_ℤ, ◌+ℤ◌, ◌-ℤ◌, ◌*ℤ◌, ◌≤ℤ◌, arith, refl, sym, ap, subst, ◌∙◌}
use Rattle.std.specs.Prelude.{unwrap_or, option_map}
use Rattle.std.proofs.lemmas.Int.{clamps}
use Rattle.integers.specs.Sums.{int_sum_below}
use Rattle.integers.proofs.Ring.{additive, sorted, mul_comm_ℤ, add-mul, neg-mul}
use Rattle.std.proofs.Math.IntN.{*ℤ-zero, zero-*ℤ}
use Rattle.integers.proofs.Order.{le-mul, nonneg-mul}
use Rattle.integers.proofs.ByIndex.{int_sum_below-zero, int_sum_below-same, int_sum_below-le, int_sum_below-add, int_sum_below-mul_right}
use Rattle.integers.proofs.AtKey.{same_or_other, chosen, two_kinds, term-le-sum_at}
use Rattle.integers.proofs.ByNode.{sum_at-no_key, one_kind}
use Rattle.pool_model.specs.Network.{Net, IsLimited, feed_delivered, direct_delivered}
use Rattle.pool_model.specs.Plan.{Plan, Carries, outflow, pool_inflow, product_inflow}
use Rattle.pool_model.specs.Starting.{lesser, least_below, pool_cost, out_delivered, reach_cost, margin, reach_bound}
use Rattle.pool_model.specs.Claim.{IsBound}
use Rattle.pool_model.proofs.ArcCosts.{cost-by_arcs}

-- ---- the least of those that are there

-- there is one, and it is no greater
abbrev pub Reaches : Option ℤ → ℤ → Type 0
Reaches None a = ⊥
Reaches (Some c) a = c ≤ℤ a

Reaches-lesser_left : (x y : Option ℤ) (a : ℤ) → Reaches x a → Reaches (lesser x y) a
Reaches-lesser_left None y a h = absurd h
Reaches-lesser_left (Some c) None a h = h
Reaches-lesser_left (Some c) (Some d) a h = omega (arith, additive, clamps)

Reaches-lesser_right : (x y : Option ℤ) (a : ℤ) → Reaches y a → Reaches (lesser x y) a
Reaches-lesser_right None y a h = h
Reaches-lesser_right (Some c) None a h = absurd h
Reaches-lesser_right (Some c) (Some d) a h = omega (arith, additive, clamps)

-- the least of numbers that are the same
pub least_below-same : (f g : ℕ → Option ℤ) (n : ℕ) → ((i : ℕ) → i < n → f i ≡ g i) → least_below f n ≡ least_below g n
least_below-same f g zero h = refl
least_below-same f g (suc n) h =
    ap (λ (o : Option ℤ). lesser o (f n)) (least_below-same f g n (λ i lt. h i (omega arith)))
    ∙ ap (λ (o : Option ℤ). lesser (least_below g n) o) (h n (omega arith))

pub Reaches-least_below : (f : ℕ → Option ℤ) (n i : ℕ) (a : ℤ) → i < n → Reaches (f i) a → Reaches (least_below f n) a
Reaches-least_below f zero i a h r = absurd (omega arith)
Reaches-least_below f (suc n) i a h r = elim (same_or_other i n) [
  | inl e ↦ Reaches-lesser_right (least_below f n) (f n) a (subst (λ (j : ℕ). Reaches (f j) a) e r)
  | inr d ↦ Reaches-lesser_left (least_below f n) (f n) a (Reaches-least_below f n i a (omega arith) r)
]

-- at the key
Reaches-keyed : (key : ℕ → ℕ) (k : ℕ) (f : ℕ → Option ℤ) (n i : ℕ) (a : ℤ) → i < n → key i ≡ k → Reaches (f i) a
    → Reaches (least_below (λ j. if key j == k then f j else None) n) a
Reaches-keyed key k f n i a h e r =
    Reaches-least_below (λ j. if key j == k then f j else None) n i a h
    (subst (λ (o : Option ℤ). Reaches o a) (sym (chosen (key i) k (f i) None e)) r)

feed-reaches : (n : Net) (e : ℕ) → e < n.feeds → Reaches (pool_cost n (n.feed_pool e)) (feed_delivered n e)
feed-reaches n e h = Reaches-keyed n.feed_pool (n.feed_pool e) (λ i. Some (feed_delivered n i)) n.feeds e (feed_delivered n e) h refl (omega (arith, additive))

direct-reaches : (n : Net) (e : ℕ) → e < n.directs → Reaches (reach_cost n (n.direct_product e)) (direct_delivered n e)
direct-reaches n e h =
    Reaches-lesser_left
    (least_below (λ i. if n.direct_product i == n.direct_product e then Some (direct_delivered n i) else None) n.directs)
    (least_below (λ o. if n.out_product o == n.direct_product e then out_delivered n o else None) n.outs)
    (direct_delivered n e)
    (Reaches-keyed n.direct_product (n.direct_product e) (λ i. Some (direct_delivered n i)) n.directs e (direct_delivered n e) h refl (omega (arith, additive)))

out-reaches : (n : Net) (o : ℕ) (a : ℤ) → o < n.outs → Reaches (out_delivered n o) a → Reaches (reach_cost n (n.out_product o)) a
out-reaches n o a h r =
    Reaches-lesser_right
    (least_below (λ i. if n.direct_product i == n.out_product o then Some (direct_delivered n i) else None) n.directs)
    (least_below (λ i. if n.out_product i == n.out_product o then out_delivered n i else None) n.outs)
    a
    (Reaches-keyed n.out_product (n.out_product o) (λ i. out_delivered n i) n.outs o a h refl r)

-- ---- margins
margin-earns : (o : Option ℤ) (price a : ℤ) → Reaches o a → (price -ℤ a) ≤ℤ margin o price
margin-earns None price a r = absurd r
margin-earns (Some c) price a r = omega (arith, additive, clamps)

margin-nonneg : (o : Option ℤ) (price : ℤ) → pos 0 ≤ℤ margin o price
margin-nonneg None price = omega (arith, additive)
margin-nonneg (Some c) price = omega (arith, additive, clamps)

-- the best margin of a product
best : Net → ℕ → ℤ
best n j = margin (reach_cost n j) (n.price j)

best-nonneg : (n : Net) (j : ℕ) → pos 0 ≤ℤ best n j
unfolding best
best-nonneg n j = margin-nonneg (reach_cost n j) (n.price j)

reach_bound-best : (n : Net) → reach_bound n ≡ neg_ℤ (int_sum_below (λ j. pos (n.product_max j) *ℤ best n j) n.products)
unfolding best
reach_bound-best n = refl

-- what a unit that a pool sends out costs at the least
pool_price : Net → ℕ → ℤ
pool_price n l = unwrap_or (pool_cost n l) (pos 0)

feed-price : (n : Net) (e : ℕ) → e < n.feeds → pool_price n (n.feed_pool e) ≤ℤ feed_delivered n e
unfolding pool_price
feed-price n e h = reached-le (pool_cost n (n.feed_pool e)) (feed_delivered n e) (feed-reaches n e h)
  where
    reached-le : (o : Option ℤ) (a : ℤ) → Reaches o a → unwrap_or o (pos 0) ≤ℤ a
    reached-le None a r = absurd r
    reached-le (Some c) a r = r

out-margin : (n : Net) (o : ℕ) (a : ℤ) → o < n.outs → pool_cost n (n.out_pool o) ≡ Some a
    → n.price (n.out_product o) ≤ℤ (pool_price n (n.out_pool o) +ℤ n.out_cost o +ℤ best n (n.out_product o))
unfolding pool_price best
out-margin n o a h e =
    let c = a +ℤ n.out_cost o in
    let r : Reaches (out_delivered n o) c = subst (λ (w : Option ℤ). Reaches (option_map (λ z. z +ℤ n.out_cost o) w) c) (sym e) (omega (arith, additive)) in
    let m : (n.price (n.out_product o) -ℤ c) ≤ℤ margin (reach_cost n (n.out_product o)) (n.price (n.out_product o)) =
    margin-earns (reach_cost n (n.out_product o)) (n.price (n.out_product o)) c (out-reaches n o c h r) in
    let q : unwrap_or (pool_cost n (n.out_pool o)) (pos 0) ≡ a = ap (λ w. unwrap_or w (pos 0)) e in
    omega (arith, additive, m, q)

direct-margin : (n : Net) (e : ℕ) → e < n.directs
    → n.price (n.direct_product e) ≤ℤ (direct_delivered n e +ℤ best n (n.direct_product e))
unfolding best
direct-margin n e h =
    let m : (n.price (n.direct_product e) -ℤ direct_delivered n e) ≤ℤ margin (reach_cost n (n.direct_product e))
    (n.price (n.direct_product e)) = margin-earns (reach_cost n (n.direct_product e)) (n.price (n.direct_product e)) (direct_delivered n e) (direct-reaches n e h) in
    omega (arith, additive, m)

-- a flow times two costs in order
le-mul_pos : (flow : ℕ) {a b : ℤ} → a ≤ℤ b → (a *ℤ pos flow) ≤ℤ (b *ℤ pos flow)
le-mul_pos flow {a} {b} h = omega (arith, additive, le-mul (pos flow) a b (omega (arith, additive)) h, mul_comm_ℤ a (pos flow), mul_comm_ℤ b (pos flow))

-- what three numbers bring for each unit of a flow
earns-nothing : (x y z : ℤ) (flow : ℕ) → flow ≡ 0 → pos 0 ≤ℤ (x *ℤ pos flow +ℤ y *ℤ pos flow +ℤ z *ℤ pos flow)
earns-nothing x y z flow e = omega (arith, additive, none x e, none y e, none z e)
  where
    none : (x : ℤ) {flow : ℕ} → flow ≡ 0 → x *ℤ pos flow ≡ pos 0
    none x e = ap (λ t. x *ℤ pos t) e ∙ *ℤ-zero x

earns-mul : (x y z : ℤ) (flow : ℕ) → pos 0 ≤ℤ (x +ℤ y +ℤ z) → pos 0 ≤ℤ (x *ℤ pos flow +ℤ y *ℤ pos flow +ℤ z *ℤ pos flow)
earns-mul x y z flow h =
    omega (arith, additive, nonneg-mul (x +ℤ y +ℤ z) (pos flow) h (omega (arith, additive)), add-mul (x +ℤ y) z (pos flow), add-mul x y (pos flow))

-- ---- what feeds cost is at least what the outs cost at their pools' least costs
no_feed-no_outflow : (n : Net) (p : Plan) (l : ℕ) → Carries n p → l < n.pools → pool_cost n l ≡ None → outflow n p l ≡ 0
no_feed-no_outflow n p l c lt none =
    sym (c.balanced l lt) ∙ sum_at-no_key n.feed_pool l p.feed n.feeds (λ e h q. contradiction n l e h q none)
  where
    contradiction : (n : Net) (l e : ℕ) → e < n.feeds → n.feed_pool e ≡ l → pool_cost n l ≡ None → ⊥
    contradiction n l e h q none =
        let a = feed_delivered n e in
        let r : Reaches (pool_cost n l) a = subst (λ (i : ℕ). Reaches (pool_cost n i) a) q (feed-reaches n e h) in
        subst (λ (o : Option ℤ). Reaches o a) none r

feeds-cost : (n : Net) (p : Plan) → IsLimited n → Carries n p
    → int_sum_below (λ o. pool_price n (n.out_pool o) *ℤ pos (p.out o)) n.outs ≤ℤ int_sum_below (λ e. feed_delivered n e *ℤ pos (p.feed e)) n.feeds
feeds-cost n p lim c =
    let at_pools : int_sum_below (λ l. pool_price n l *ℤ pos (pool_inflow n p l)) n.pools ≡ int_sum_below (λ l. pool_price n l *ℤ pos (outflow n p l)) n.pools
    = int_sum_below-same (λ l. pool_price n l *ℤ pos (pool_inflow n p l)) (λ l. pool_price n l *ℤ pos (outflow n p l)) n.pools (λ l lt. ap (λ z. pool_price n l *ℤ pos z) (c.balanced l lt)) in
    omega (
      arith,
      additive,
      at_pools,
      one_kind (pool_price n) n.feed_pool p.feed n.pools n.feeds lim.feed_pools,
      one_kind (pool_price n) n.out_pool p.out n.pools n.outs lim.out_pools,
      int_sum_below-le (λ e. pool_price n (n.feed_pool e) *ℤ pos (p.feed e)) (λ e. feed_delivered n e *ℤ pos (p.feed e)) n.feeds (λ e h. le-mul_pos (p.feed e) (feed-price n e h)),
    )

-- ---- what each arc into a product earns at the most
out-earns : (n : Net) (p : Plan) (o : ℕ) → IsLimited n → Carries n p → o < n.outs
    → pos 0 ≤ℤ ((n.out_cost o -ℤ n.price (n.out_product o)) *ℤ pos (p.out o) +ℤ pool_price n (n.out_pool o) *ℤ pos (p.out o) +ℤ best n (n.out_product o) *ℤ pos (p.out o))
out-earns n p o lim c h = cases (pool_cost n (n.out_pool o)) refl
  where
    cases : (w : Option ℤ) → pool_cost n (n.out_pool o) ≡ w
        → pos 0 ≤ℤ ((n.out_cost o -ℤ n.price (n.out_product o)) *ℤ pos (p.out o) +ℤ pool_price n (n.out_pool o) *ℤ pos (p.out o) +ℤ best n (n.out_product o) *ℤ pos (p.out o))
    cases None e =
        earns-nothing (n.out_cost o -ℤ n.price (n.out_product o)) (pool_price n (n.out_pool o)) (best n (n.out_product o)) (p.out o)
        (omega (arith, term-le-sum_at n.out_pool (n.out_pool o) p.out n.outs o h refl, no_feed-no_outflow n p (n.out_pool o) c (lim.out_pools o h) e))
    cases (Some a) e =
        earns-mul (n.out_cost o -ℤ n.price (n.out_product o)) (pool_price n (n.out_pool o)) (best n (n.out_product o)) (p.out o)
        (omega (arith, additive, out-margin n o a h e))

direct-earns : (n : Net) (p : Plan) (e : ℕ) → e < n.directs
    → pos 0 ≤ℤ ((direct_delivered n e -ℤ n.price (n.direct_product e)) *ℤ pos (p.direct e) +ℤ pos 0 *ℤ pos (p.direct e) +ℤ best n (n.direct_product e) *ℤ pos (p.direct e))
direct-earns n p e h =
    earns-mul (direct_delivered n e -ℤ n.price (n.direct_product e)) (pos 0) (best n (n.direct_product e)) (p.direct e) (omega (arith, additive, direct-margin n e h))

-- ---- what a product earns at the most
product-earns : (n : Net) (p : Plan) (j : ℕ) → Carries n p → j < n.products
    → (best n j *ℤ pos (product_inflow n p j)) ≤ℤ (pos (n.product_max j) *ℤ best n j *ℤ pos p.base)
product-earns n p j c h =
    omega (
      arith,
      additive,
      le-mul (best n j) (pos (product_inflow n p j)) (pos (p.base * n.product_max j)) (best-nonneg n j) (omega (arith, additive, c.at_most j h)),
      turned (best n j) (pos p.base) (pos (n.product_max j)),
    )
  where
    turned : (b d m : ℤ) → b *ℤ (d *ℤ m) ≡ m *ℤ b *ℤ d
    turned b d m = simp sorted refl

-- what flows along arcs into products, with what their pools' units cost and what the products earn at the most, is not negative
outs-earn : (n : Net) (p : Plan) → IsLimited n → Carries n p
    → pos 0 ≤ℤ (int_sum_below (λ o. (n.out_cost o -ℤ n.price (n.out_product o)) *ℤ pos (p.out o)) n.outs
    +ℤ int_sum_below (λ o. pool_price n (n.out_pool o) *ℤ pos (p.out o)) n.outs +ℤ int_sum_below (λ o. best n (n.out_product o) *ℤ pos (p.out o)) n.outs)
outs-earn n p lim c =
    let sold = λ (o : ℕ). (n.out_cost o -ℤ n.price (n.out_product o)) *ℤ pos (p.out o) in
    let bought = λ (o : ℕ). pool_price n (n.out_pool o) *ℤ pos (p.out o) in
    let earned = λ (o : ℕ). best n (n.out_product o) *ℤ pos (p.out o) in
    omega (
      arith,
      additive,
      int_sum_below-zero n.outs,
      int_sum_below-le (λ o. pos 0) (λ o. sold o +ℤ bought o +ℤ earned o) n.outs (λ o h. out-earns n p o lim c h),
      int_sum_below-add (λ o. sold o +ℤ bought o) earned n.outs,
      int_sum_below-add sold bought n.outs,
    )

directs-earn : (n : Net) (p : Plan)
    → pos 0 ≤ℤ (int_sum_below (λ e. (direct_delivered n e -ℤ n.price (n.direct_product e)) *ℤ pos (p.direct e)) n.directs
    +ℤ int_sum_below (λ e. best n (n.direct_product e) *ℤ pos (p.direct e)) n.directs)
directs-earn n p =
    let sold = λ (e : ℕ). (direct_delivered n e -ℤ n.price (n.direct_product e)) *ℤ pos (p.direct e) in
    let earned = λ (e : ℕ). best n (n.direct_product e) *ℤ pos (p.direct e) in
    omega (
      arith,
      additive,
      int_sum_below-zero n.directs,
      int_sum_below-le (λ e. pos 0) (λ e. sold e +ℤ earned e) n.directs (λ e h. omega (arith, additive, zero-*ℤ (pos (p.direct e)), direct-earns n p e h)),
      int_sum_below-add sold earned n.directs,
    )

pub reach_bound-holds : (n : Net) → IsLimited n → IsBound n (reach_bound n)
reach_bound-holds n lim p ob =
    let c = ob.carries in
    let total = int_sum_below (λ j. pos (n.product_max j) *ℤ best n j) n.products in
    omega (
      arith,
      additive,
      cost-by_arcs n p lim,
      two_kinds (best n) n.out_product n.direct_product p.out p.direct n.products n.outs n.directs lim.out_products lim.direct_products,
      feeds-cost n p lim c,
      outs-earn n p lim c,
      directs-earn n p,
      int_sum_below-le (λ j. best n j *ℤ pos (product_inflow n p j)) (λ j. pos (n.product_max j) *ℤ best n j *ℤ pos p.base) n.products (λ j h. product-earns n p j c h),
      int_sum_below-mul_right (λ j. pos (n.product_max j) *ℤ best n j) (pos p.base) n.products,
      ap (λ z. z *ℤ pos p.base) (reach_bound-best n),
      neg-mul total (pos p.base),
    )

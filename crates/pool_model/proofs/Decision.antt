-- Whether a plan obeys, as a test that computes.
use Rattle.std.proofs.Common.{◌≡◌, ℕ, ◌*◌, ◌<◌, ◌≤◌, Bool, true, false, not, ◌&&◌, ◌==◌, nat_le, nat_lt, int_le, List, All, Option, Some, None, ℤ, ◌≤ℤ◌, Decides, arith, refl, subst}
use Rattle.std.proofs.lemmas.Int.{ints}
use Rattle.std.proofs.lemmas.Bool.Decides.{nat_tests, Decides-and, Decides-eqb, Decides-like, Decides-ltb, Decides-not, Decides-by_and}
use Rattle.std.specs.List.{list_all}
use Rattle.pool_model.specs.Network.{Net}
use Rattle.pool_model.specs.Plan.{Plan, Written, plan_of, Obeys, KeepsMaxima, Blends, source_outflow, pool_inflow, outflow, product_inflow, quality_inflow, quality_room}
use Rattle.pool_model.specs.Starting.{all_below}
use Rattle.pool_model.proofs.AllBelow.{all_below-each, all_below-all}

abbrev pub sources_test : Net → Plan → Bool
sources_test n p = all_below (λ i. nat_le (source_outflow n p i) (p.base * n.source_max i)) n.sources

abbrev pub pools_test : Net → Plan → Bool
pools_test n p = all_below (λ l. (pool_inflow n p l == outflow n p l) && nat_le (outflow n p l) (p.base * n.pool_max l)) n.pools

abbrev pub products_test : Net → Plan → Bool
products_test n p = all_below (λ j. nat_le (p.base * n.product_min j) (product_inflow n p j) && nat_le (product_inflow n p j) (p.base * n.product_max j)) n.products

-- a flow against a maximum
abbrev pub max_test : Option ℕ → ℕ → ℕ → Bool
max_test None base flow = true
max_test (Some m) base flow = nat_le flow (base * m)

abbrev pub arcs_test : Net → Plan → Bool
arcs_test n p =
    all_below (λ e. max_test (n.feed_max e) p.base (p.feed e)) n.feeds
    && (all_below (λ o. max_test (n.out_max o) p.base (p.out o)) n.outs && all_below (λ e. max_test (n.direct_max e) p.base (p.direct e)) n.directs)

-- a product's inflow of a quality against its limits
abbrev pub most_test : Net → Plan → ℕ → ℤ → Option ℤ → Bool
most_test n p j q None = true
most_test n p j q (Some u) = int_le q (quality_room n p j u)

abbrev pub least_test : Net → Plan → ℕ → ℤ → Option ℤ → Bool
least_test n p j q None = true
least_test n p j q (Some u) = int_le (quality_room n p j u) q

abbrev pub blends_test : Net → Plan → Bool
blends_test n p = all_below (λ j. all_below (λ k. most_test n p j (quality_inflow n p j k) (n.most j k) && least_test n p j (quality_inflow n p j k) (n.least j k)) n.qualities) n.products

abbrev pub obeys_test : Net → Plan → Bool
obeys_test n p = nat_lt 0 p.base && (sources_test n p && (pools_test n p && (products_test n p && (arcs_test n p && blends_test n p))))

-- ---- what the tests tell
Decides-nat_le : (a b : ℕ) → Decides (nat_le a b) (a ≤ b)
Decides-nat_le a b = (λ e. grind (arith, nat_tests), λ h. grind (arith, nat_tests))

Decides-int_le : (a b : ℤ) → Decides (int_le a b) (a ≤ℤ b)
Decides-int_le a b = (λ e. grind (arith, ints), λ h. grind (arith, ints))

Decides-all_below : (test : ℕ → Bool) (P : ℕ → Type 0) (n : ℕ) → ((i : ℕ) → Decides (test i) (P i)) → Decides (all_below test n) ((i : ℕ) → i < n → P i)
Decides-all_below test P n each = (λ e i lt. (each i).0 (all_below-each test n i e lt), λ h. all_below-all test n (λ i lt. (each i).1 (h i lt)))

Decides-most : (n : Net) (p : Plan) (j : ℕ) (q : ℤ) (most : Option ℤ) → Decides (most_test n p j q most) ((u : ℤ) → most ≡ Some u → q ≤ℤ quality_room n p j u)
Decides-most n p j q None = (λ e u is. cc, λ h. refl)
Decides-most n p j q (Some m) = (
  λ e u is. let same : m ≡ u = cc in subst (λ (v : ℤ). q ≤ℤ quality_room n p j v) same ((Decides-int_le q (quality_room n p j m)).0 e),
  λ h. (Decides-int_le q (quality_room n p j m)).1 (h m refl),
)

Decides-least : (n : Net) (p : Plan) (j : ℕ) (q : ℤ) (least : Option ℤ) → Decides (least_test n p j q least) ((u : ℤ) → least ≡ Some u → quality_room n p j u ≤ℤ q)
Decides-least n p j q None = (λ e u is. cc, λ h. refl)
Decides-least n p j q (Some m) = (
  λ e u is. let same : m ≡ u = cc in subst (λ (v : ℤ). quality_room n p j v ≤ℤ q) same ((Decides-int_le (quality_room n p j m) q).0 e),
  λ h. (Decides-int_le (quality_room n p j m) q).1 (h m refl),
)

Decides-blends : (n : Net) (p : Plan) → Decides (blends_test n p) (Blends n p)
Decides-blends n p =
    Decides-like (blends_test n p)
    (λ h. record { at_most = λ j k u lj lk is. (h j lj k lk).0 u is; at_least = λ j k u lj lk is. (h j lj k lk).1 u is })
    (λ b j lj k lk. (λ u is. b.at_most j k u lj lk is, λ u is. b.at_least j k u lj lk is))
    (Decides-all_below
    (λ j. all_below (λ k. most_test n p j (quality_inflow n p j k) (n.most j k) && least_test n p j (quality_inflow n p j k) (n.least j k)) n.qualities)
    (λ j. (k : ℕ) → k < n.qualities → ((u : ℤ) → n.most j k ≡ Some u → quality_inflow n p j k ≤ℤ quality_room n p j u)
    × ((u : ℤ) → n.least j k ≡ Some u → quality_room n p j u ≤ℤ quality_inflow n p j k))
    n.products
    (λ j. Decides-all_below
    (λ k. most_test n p j (quality_inflow n p j k) (n.most j k) && least_test n p j (quality_inflow n p j k) (n.least j k))
    (λ k. ((u : ℤ) → n.most j k ≡ Some u → quality_inflow n p j k ≤ℤ quality_room n p j u) × ((u : ℤ) → n.least j k ≡ Some u → quality_room n p j u ≤ℤ quality_inflow n p j k))
    n.qualities
    (λ k. Decides-and (most_test n p j (quality_inflow n p j k) (n.most j k)) (least_test n p j (quality_inflow n p j k) (n.least j k))
    (Decides-most n p j (quality_inflow n p j k) (n.most j k)) (Decides-least n p j (quality_inflow n p j k) (n.least j k)))))

Decides-sources : (n : Net) (p : Plan) → Decides (sources_test n p) ((i : ℕ) → i < n.sources → source_outflow n p i ≤ p.base * n.source_max i)
Decides-sources n p =
    Decides-all_below (λ i. nat_le (source_outflow n p i) (p.base * n.source_max i)) (λ i. source_outflow n p i ≤ p.base * n.source_max i) n.sources
    (λ i. Decides-nat_le (source_outflow n p i) (p.base * n.source_max i))

Decides-pools : (n : Net) (p : Plan) → Decides (pools_test n p) ((l : ℕ) → l < n.pools → (pool_inflow n p l ≡ outflow n p l) × (outflow n p l ≤ p.base * n.pool_max l))
Decides-pools n p =
    Decides-all_below (λ l. (pool_inflow n p l == outflow n p l) && nat_le (outflow n p l) (p.base * n.pool_max l))
    (λ l. (pool_inflow n p l ≡ outflow n p l) × (outflow n p l ≤ p.base * n.pool_max l)) n.pools
    (λ l. Decides-and (pool_inflow n p l == outflow n p l) (nat_le (outflow n p l) (p.base * n.pool_max l))
    (Decides-eqb (pool_inflow n p l) (outflow n p l)) (Decides-nat_le (outflow n p l) (p.base * n.pool_max l)))

Decides-products : (n : Net) (p : Plan)
    → Decides (products_test n p) ((j : ℕ) → j < n.products → (p.base * n.product_min j ≤ product_inflow n p j) × (product_inflow n p j ≤ p.base * n.product_max j))
Decides-products n p =
    Decides-all_below (λ j. nat_le (p.base * n.product_min j) (product_inflow n p j) && nat_le (product_inflow n p j) (p.base * n.product_max j))
    (λ j. (p.base * n.product_min j ≤ product_inflow n p j) × (product_inflow n p j ≤ p.base * n.product_max j)) n.products
    (λ j. Decides-and (nat_le (p.base * n.product_min j) (product_inflow n p j)) (nat_le (product_inflow n p j) (p.base * n.product_max j))
    (Decides-nat_le (p.base * n.product_min j) (product_inflow n p j)) (Decides-nat_le (product_inflow n p j) (p.base * n.product_max j)))

Decides-max : (max : Option ℕ) (base flow : ℕ) → Decides (max_test max base flow) ((m : ℕ) → max ≡ Some m → flow ≤ base * m)
Decides-max None base flow = (λ e m is. cc, λ h. refl)
Decides-max (Some c) base flow = (
  λ e m is. let same : c ≡ m = cc in subst (λ (v : ℕ). flow ≤ base * v) same ((Decides-nat_le flow (base * c)).0 e),
  λ h. (Decides-nat_le flow (base * c)).1 (h c refl),
)

Decides-maxima : (max : ℕ → Option ℕ) (base : ℕ) (flow : ℕ → ℕ) (count : ℕ)
    → Decides (all_below (λ i. max_test (max i) base (flow i)) count) ((i : ℕ) → i < count → (m : ℕ) → max i ≡ Some m → flow i ≤ base * m)
Decides-maxima max base flow count =
    Decides-all_below (λ i. max_test (max i) base (flow i)) (λ i. (m : ℕ) → max i ≡ Some m → flow i ≤ base * m) count (λ i. Decides-max (max i) base (flow i))

Decides-arcs : (n : Net) (p : Plan) → Decides (arcs_test n p) (KeepsMaxima n p)
Decides-arcs n p =
    let feeds = all_below (λ e. max_test (n.feed_max e) p.base (p.feed e)) n.feeds in
    let outs = all_below (λ o. max_test (n.out_max o) p.base (p.out o)) n.outs in
    let directs = all_below (λ e. max_test (n.direct_max e) p.base (p.direct e)) n.directs in
    Decides-like (arcs_test n p)
    (λ h. record { feeds = λ e m lt is. h.0 e lt m is; outs = λ o m lt is. h.1.0 o lt m is; directs = λ e m lt is. h.1.1 e lt m is })
    (λ k. (λ e lt m is. k.feeds e m lt is, (λ o lt m is. k.outs o m lt is, λ e lt m is. k.directs e m lt is)))
    (Decides-and feeds (outs && directs) (Decides-maxima n.feed_max p.base p.feed n.feeds)
    (Decides-and outs directs (Decides-maxima n.out_max p.base p.out n.outs) (Decides-maxima n.direct_max p.base p.direct n.directs)))

-- the test and what it decides
pub Decides-obeys : (n : Net) (p : Plan) → Decides (obeys_test n p) (Obeys n p)
Decides-obeys n p = (
  λ e.
      let a = both (nat_lt 0 p.base) (sources_test n p && (pools_test n p && (products_test n p && (arcs_test n p && blends_test n p)))) e in
      let b = both (sources_test n p) (pools_test n p && (products_test n p && (arcs_test n p && blends_test n p))) a.1 in
      let d = both (pools_test n p) (products_test n p && (arcs_test n p && blends_test n p)) b.1 in
      let f = both (products_test n p) (arcs_test n p && blends_test n p) d.1 in
      let g = both (arcs_test n p) (blends_test n p) f.1 in
      record {
        denominator = (Decides-ltb 0 p.base).0 a.0;
        carries = record {
          sources = (Decides-sources n p).0 b.0;
          balanced = λ l lt. ((Decides-pools n p).0 d.0 l lt).0;
          pools = λ l lt. ((Decides-pools n p).0 d.0 l lt).1;
          at_least = λ j lt. ((Decides-products n p).0 f.0 j lt).0;
          at_most = λ j lt. ((Decides-products n p).0 f.0 j lt).1;
          arcs = (Decides-arcs n p).0 g.0;
        };
        blends = (Decides-blends n p).0 g.1;
      },
  λ o.
      join (nat_lt 0 p.base) (sources_test n p && (pools_test n p && (products_test n p && (arcs_test n p && blends_test n p)))) ((Decides-ltb 0 p.base).1 o.denominator)
      (join (sources_test n p) (pools_test n p && (products_test n p && (arcs_test n p && blends_test n p))) ((Decides-sources n p).1 o.carries.sources)
      (join (pools_test n p) (products_test n p && (arcs_test n p && blends_test n p)) ((Decides-pools n p).1 (λ l lt. (o.carries.balanced l lt, o.carries.pools l lt)))
      (join (products_test n p) (arcs_test n p && blends_test n p) ((Decides-products n p).1 (λ j lt. (o.carries.at_least j lt, o.carries.at_most j lt)))
      (join (arcs_test n p) (blends_test n p) ((Decides-arcs n p).1 o.carries.arcs) ((Decides-blends n p).1 o.blends))))),
)
  where
    both : (a b : Bool) → (a && b) ≡ true → (a ≡ true) × (b ≡ true)
    both true b e = (refl, e)
    both false b e = cc

    join : (a b : Bool) → a ≡ true → b ≡ true → (a && b) ≡ true
    join true b e f = f
    join false b e f = e

pub obeys : (n : Net) (p : Plan) → obeys_test n p ≡ true → Obeys n p
obeys n p e = (Decides-obeys n p).0 e

pub breaks : (n : Net) (p : Plan) → obeys_test n p ≡ false → ¬ Obeys n p
breaks n p e o = let yes : obeys_test n p ≡ true = (Decides-obeys n p).1 o in differ (obeys_test n p) yes e
  where
    differ : (b : Bool) → b ≡ true → b ≡ false → ⊥
    differ true e f = cc
    differ false e f = cc

-- ---- lists of written plans
pub all_obey : (n : Net) (ws : List Written) → list_all (λ w. obeys_test n (plan_of n w)) ws ≡ true → All (λ w. Obeys n (plan_of n w)) ws
all_obey n ws e =
    (Decides-by_and (λ w. obeys_test n (plan_of n w)) (λ w. Obeys n (plan_of n w)) (list_all (λ w. obeys_test n (plan_of n w))) (λ w. Decides-obeys n (plan_of n w)) refl (λ w ws. refl) ws).0 e

pub all_break : (n : Net) (ws : List Written) → list_all (λ w. not (obeys_test n (plan_of n w))) ws ≡ true → All (λ w. ¬ Obeys n (plan_of n w)) ws
all_break n ws e =
    (Decides-by_and (λ w. not (obeys_test n (plan_of n w))) (λ w. ¬ Obeys n (plan_of n w)) (list_all (λ w. not (obeys_test n (plan_of n w))))
    (λ w. Decides-not (obeys_test n (plan_of n w)) (Decides-obeys n (plan_of n w))) refl (λ w ws. refl) ws).0 e

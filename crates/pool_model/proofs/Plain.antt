-- Plain networks: arcs cost nothing and hold everything, and what enters a pool leaves it.
use Rattle.std.proofs.Common.{◌≡◌, ℕ, zero, suc, ◌==◌, ◌&&◌, Bool, true, false, if◌then◌else◌, List, [], ◌∷◌, get_or, Option, Some, None, ℤ, pos, ◌+ℤ◌, ◌-ℤ◌, ◌*ℤ◌, arith, refl, ap, ◌∙◌}
use Rattle.std.proofs.Math.IntN.{zero-*ℤ}
use Rattle.std.proofs.lemmas.Int.{ints}
use Rattle.std.proofs.lemmas.Bool.Decides.{nat_tests}
use Rattle.std.specs.Prelude.{is_none, unsigned_abs}
use Rattle.std.specs.List.{list_all}
use Rattle.integers.specs.Sums.{int_sum_below, int_sum_at, product_below, product_but}
use Rattle.integers.proofs.Ring.{additive, linear}
use Rattle.integers.proofs.ByIndex.{int_sum_below-same, int_sum_below-zero}
use Rattle.integers.proofs.AtKey.{int_sum_at-same}
use Rattle.pool_model.specs.Network.{Arc, Network, Net, no_arc, no_pool, net_of, removes_nothing}
use Rattle.pool_model.specs.Plain.{is_plain_arc, is_plain, IsPlain}
use Rattle.pool_model.specs.Starting.{Way, through, straight, way_source, way_quality}
use Rattle.pool_model.specs.Plan.{Plan, KeepsMaxima, source_outflow, product_inflow, mix, treated, factor, quality_inflow, quality_room, cost_of}

both : (a b : Bool) → (a && b) ≡ true → (a ≡ true) × (b ≡ true)
both true b e = (refl, e)
both false b e = cc

-- a plain arc costs nothing and has no maximum
plain_cost : (a : Arc) → is_plain_arc a ≡ true → a.cost ≡ pos 0
plain_cost a h = nothing a.cost (both (unsigned_abs a.cost == 0) (is_none a.max) h).0
  where
    nothing : (z : ℤ) → (unsigned_abs z == 0) ≡ true → z ≡ pos 0
    nothing z e = grind (arith, ints, nat_tests)

plain_max : (a : Arc) → is_plain_arc a ≡ true → a.max ≡ None
plain_max a h = absent a.max (both (unsigned_abs a.cost == 0) (is_none a.max) h).1
  where
    absent : (o : Option ℕ) → is_none o ≡ true → o ≡ None
    absent None e = refl
    absent (Some m) e = cc

-- and so is each in a list of plain arcs, and what stands behind its end
plain_at : (arcs : List Arc) (i : ℕ) → list_all is_plain_arc arcs ≡ true → is_plain_arc (get_or arcs i no_arc) ≡ true
plain_at [] i h = refl
plain_at (a ∷ arcs) zero h = (both (is_plain_arc a) (list_all is_plain_arc arcs) h).0
plain_at (a ∷ arcs) (suc i) h = plain_at arcs i (both (is_plain_arc a) (list_all is_plain_arc arcs) h).1

pub plain-by_number : (n : Network) → is_plain n ≡ true → IsPlain (net_of n)
unfolding net_of
plain-by_number n h =
    let a = both (removes_nothing n.pools) (list_all is_plain_arc n.feeds && (list_all is_plain_arc n.outs && list_all is_plain_arc n.directs)) h in
    let b = both (list_all is_plain_arc n.feeds) (list_all is_plain_arc n.outs && list_all is_plain_arc n.directs) a.1 in
    let c = both (list_all is_plain_arc n.outs) (list_all is_plain_arc n.directs) b.1 in
    record {
      scale = ap (λ t. if t then 1 else 1000) a.0;
      retained = λ l k. ap (λ t. if t then 1 else get_or (get_or n.pools l no_pool).ratio k 1000) a.0;
      feed_cost = λ e. plain_cost (get_or n.feeds e no_arc) (plain_at n.feeds e b.0);
      out_cost = λ o. plain_cost (get_or n.outs o no_arc) (plain_at n.outs o c.0);
      direct_cost = λ e. plain_cost (get_or n.directs e no_arc) (plain_at n.directs e c.1);
      feed_max = λ e. plain_max (get_or n.feeds e no_arc) (plain_at n.feeds e b.0);
      out_max = λ o. plain_max (get_or n.outs o no_arc) (plain_at n.outs o c.0);
      direct_max = λ e. plain_max (get_or n.directs e no_arc) (plain_at n.directs e c.1);
    }

-- ---- what follows for plans

pub plain-keeps : (n : Net) (p : Plan) → IsPlain n → KeepsMaxima n p
plain-keeps n p h = record {
  feeds = λ e m lt is. absurd (unlimited m (h.feed_max e) is);
  outs = λ o m lt is. absurd (unlimited m (h.out_max o) is);
  directs = λ e m lt is. absurd (unlimited m (h.direct_max e) is);
}
  where
    unlimited : {o : Option ℕ} (m : ℕ) → o ≡ None → o ≡ Some m → ⊥
    unlimited m none some = cc

free : (c : ℕ → ℤ) (x : ℕ → ℕ) (n : ℕ) → ((i : ℕ) → c i ≡ pos 0) → int_sum_below (λ i. c i *ℤ pos (x i)) n ≡ pos 0
free c x n h = int_sum_below-same (λ i. c i *ℤ pos (x i)) (λ i. pos 0) n (λ i lt. ap (λ z. z *ℤ pos (x i)) (h i) ∙ zero-*ℤ (pos (x i))) ∙ int_sum_below-zero n

pub plain-cost : (n : Net) (p : Plan) → IsPlain n
    → cost_of n p
    ≡ int_sum_below (λ i. n.source_cost i *ℤ pos (source_outflow n p i)) n.sources -ℤ int_sum_below (λ j. n.price j *ℤ pos (product_inflow n p j)) n.products
plain-cost n p h = omega (arith, additive, free n.feed_cost p.feed n.feeds h.feed_cost, free n.out_cost p.out n.outs h.out_cost, free n.direct_cost p.direct n.directs h.direct_cost)

one_part : (s : ℕ) (z : ℤ) → s ≡ 1 → pos s *ℤ z ≡ z
one_part s z e = ap (λ m. pos m *ℤ z) e ∙ whole z
  where
    whole : (z : ℤ) → pos 1 *ℤ z ≡ z
    whole z = omega (arith, linear)

pub plain-inflow : (n : Net) (p : Plan) (j k : ℕ) → IsPlain n
    → quality_inflow n p j k
    ≡ int_sum_at n.out_product j (λ o. pos (product_but (n.out_pool o) (factor n p) n.pools) *ℤ mix n p (n.out_pool o) k *ℤ pos (p.out o)) n.outs
    +ℤ pos (product_below (factor n p) n.pools) *ℤ int_sum_at n.direct_product j (λ e. n.source_quality (n.direct_source e) k *ℤ pos (p.direct e)) n.directs
plain-inflow n p j k h =
    omega (
      arith,
      additive,
      int_sum_at-same n.out_product j (λ o. pos (product_but (n.out_pool o) (factor n p) n.pools) *ℤ treated n p (n.out_pool o) k *ℤ pos (p.out o))
          (λ o. pos (product_but (n.out_pool o) (factor n p) n.pools) *ℤ mix n p (n.out_pool o) k *ℤ pos (p.out o)) n.outs
          (λ o lo is. ap (λ z. pos (product_but (n.out_pool o) (factor n p) n.pools) *ℤ z *ℤ pos (p.out o))
          (one_part (n.retained (n.out_pool o) k) (mix n p (n.out_pool o) k) (h.retained (n.out_pool o) k))),
      ap (λ z. pos (product_below (factor n p) n.pools) *ℤ z)
          (one_part n.scale (int_sum_at n.direct_product j (λ e. n.source_quality (n.direct_source e) k *ℤ pos (p.direct e)) n.directs) h.scale),
    )

pub plain-room : (n : Net) (p : Plan) (j : ℕ) (u : ℤ) → IsPlain n → quality_room n p j u ≡ pos (product_below (factor n p) n.pools) *ℤ (u *ℤ pos (product_inflow n p j))
plain-room n p j u h = ap (λ z. pos (product_below (factor n p) n.pools) *ℤ (z *ℤ pos (product_inflow n p j))) (one_part n.scale u h.scale)

pub plain-brought : (n : Net) (way : Way) (k : ℕ) → IsPlain n → way_quality n way k ≡ n.source_quality (way_source n way) k
plain-brought n (through e o) k h = one_part (n.retained (n.out_pool o) k) (n.source_quality (n.feed_source e) k) (h.retained (n.out_pool o) k)
plain-brought n (straight e) k h = one_part n.scale (n.source_quality (n.direct_source e) k) h.scale

-- Running totals of a number for each unit of a flow, and how large they are.
use Rattle.std.proofs.Common.{◌≡◌, ℕ, zero, suc, ◌+◌, ◌*◌, ◌^◌, ◌<◌, ◌≤◌, List, get_or, ℤ, pos, ◌+ℤ◌, ◌-ℤ◌, ◌*ℤ◌, unsigned_abs, FitsSigned, add-one, arith, sym, ap, ◌∙◌}
use Rattle.std.proofs.lemmas.Int.{ints, to_z-of_z}
use mir.Syntax.{w64, w128}
use mir.Val.{to_z, of_z}
use Rattle.integers.specs.Sums.{int_sum_below, piece, sum_at, sum_below}
use Rattle.integers.proofs.AtKey.{sum_below-same, sum_below-part, term-le-sum_below}
use Rattle.integers.proofs.ByIndex.{int_sum_below-same, piece-first, piece-rest}
use Rattle.integers.proofs.ByNode.{sum_below-add, sum_keys}
use Rattle.pool_model.specs.Network.{Net, IsLimited, arcs, arc_cost}
use Rattle.pool_model.specs.Plan.{Plan, Written, plan_of, arc_flow, carriage, source_outflow, product_inflow, cost_of}
use Rattle.pool_model.proofs.ArcCosts.{carriage-by_number}
use Rattle.plan_core.specs.Weighed.{AreSourceOutflows, AreProductInflows, HasRoom}

-- ---- a running total of money for each unit of a flow
pub record IsTotal (q : ℕ → ℤ) (g : ℕ → ℕ) (i : ℕ) (total : ℤ) : Type 0 where
  pub sum : total ≡ int_sum_below (λ j. q j *ℤ pos (g j)) i
  pub size : unsigned_abs total ≤ 10 ^ 12 * sum_below g i

module _ (q : ℕ → ℤ) (g : ℕ → ℕ) (i n : ℕ) where
  small_total : (total : ℤ) → i < n → sum_below g n ≤ 2 ^ 83 → IsTotal q g i total → unsigned_abs total ≤ 2 ^ 123
  small_total total lt room before = omega (arith, before.size, sum_below-part g i n lt)

  pub total_fits : (total part : ℤ) → i < n → sum_below g n ≤ 2 ^ 83 → IsTotal q g i total → unsigned_abs part ≤ 10 ^ 12 * g i → FitsSigned w128 (total +ℤ to_z w128 (of_z w128 part))
  total_fits total part lt room before size = fits total part (small_total total lt room before) (omega (arith, size, term-le-sum_below g n i lt))
    where
      fits : (a b : ℤ) → unsigned_abs a ≤ 2 ^ 123 → unsigned_abs b ≤ 2 ^ 123 → FitsSigned w128 (a +ℤ to_z w128 (of_z w128 b))
      fits a b h k = omega (arith, ints)

  pub total_more : (total money part : ℤ) → i < n → sum_below g n ≤ 2 ^ 83 → IsTotal q g i total → FitsSigned w64 money → money ≡ q i → part ≡ to_z w64 (of_z w64 money) *ℤ pos (g i)
      → unsigned_abs part ≤ 10 ^ 12 * g i → IsTotal q g (i + 1) (to_z w128 (of_z w128 (total +ℤ to_z w128 (of_z w128 part))))
  total_more total money part lt room before fits is e size =
      let new : to_z w128 (of_z w128 (total +ℤ to_z w128 (of_z w128 part))) ≡ total +ℤ part = whole total part (small_total total lt room before) (omega (arith, size, term-le-sum_below g n i lt)) in
      record {
        sum = rw add-one (new ∙ ap (λ z. z +ℤ part) before.sum ∙ ap (λ z. int_sum_below (λ j. q j *ℤ pos (g j)) i +ℤ z) (e ∙ ap (λ z. z *ℤ pos (g i)) (to_z-of_z w64 money fits ∙ is)));
        size = rw (new, add-one) (added total part (sum_below g i) (g i) before.size size);
      }
    where
      whole : (t b : ℤ) → unsigned_abs t ≤ 2 ^ 123 → unsigned_abs b ≤ 2 ^ 123 → to_z w128 (of_z w128 (t +ℤ to_z w128 (of_z w128 b))) ≡ t +ℤ b
      whole t b h k = omega (arith, ints)

      added : (t b : ℤ) (s x : ℕ) → unsigned_abs t ≤ 10 ^ 12 * s → unsigned_abs b ≤ 10 ^ 12 * x → unsigned_abs (t +ℤ b) ≤ 10 ^ 12 * (s + x)
      added t b s x h k = omega (arith, ints)

  pub total_size : (total : ℤ) → i ≡ n → sum_below g n ≤ 2 ^ 82 → IsTotal q g i total → unsigned_abs total ≤ 2 ^ 122
  total_size total all room whole = omega (arith, whole.size, ap (sum_below g) all)

  pub wide_total : (total : ℤ) → i ≡ n → sum_below g n ≤ 2 ^ 83 → IsTotal q g i total → unsigned_abs total ≤ 2 ^ 123
  wide_total total all room whole = omega (arith, whole.size, ap (sum_below g) all)

-- ---- what flows along all arcs

sum_below-append : (f : ℕ → ℕ) (m n : ℕ) → sum_below f (m + n) ≡ sum_below f m + sum_below (λ i. f (m + i)) n
sum_below-append f m zero = ap (sum_below f) (let e : m + 0 ≡ m = omega arith in e) ∙ omega arith
sum_below-append f m (suc n) = ap (sum_below f) (let e : m + suc n ≡ suc (m + n) = omega arith in e) ∙ omega (arith, sum_below-append f m n)

sum_below-piece : (m n : ℕ) (f g : ℕ → ℕ) → sum_below (piece m f g) (m + n) ≡ sum_below f m + sum_below g n
sum_below-piece m n f g =
    omega (
      arith,
      sum_below-append (piece m f g) m n,
      sum_below-same (piece m f g) f m (λ i lt. piece-first m f g i lt),
      sum_below-same (λ i. piece m f g (m + i)) g n (λ i lt. piece-rest m f g i),
    )

-- what sources send passes feeds and directs, what products take outs and directs
pub carriage_room : (n : Net) (w : Written) → IsLimited n → HasRoom n w → sum_below (arc_flow n (plan_of n w)) (arcs n) ≤ 2 ^ 83
carriage_room n w limited room =
    let p = plan_of n w in
    omega (
      arith,
      ap (sum_below (arc_flow n p)) (let e : n.feeds + n.outs + n.directs ≡ n.feeds + (n.outs + n.directs) = omega arith in e),
      sum_below-piece n.feeds (n.outs + n.directs) p.feed (piece n.outs p.out p.direct),
      sum_below-piece n.outs n.directs p.out p.direct,
      sum_below-add (λ i. sum_at n.feed_source i p.feed n.feeds) (λ i. sum_at n.direct_source i p.direct n.directs) n.sources,
      sum_below-add (λ j. sum_at n.out_product j p.out n.outs) (λ j. sum_at n.direct_product j p.direct n.directs) n.products,
      sum_keys n.feed_source p.feed n.sources n.feeds limited.feed_sources,
      sum_keys n.direct_source p.direct n.sources n.directs limited.direct_sources,
      sum_keys n.out_product p.out n.products n.outs limited.out_products,
      sum_keys n.direct_product p.direct n.products n.directs limited.direct_products,
      room.supply,
      room.demand,
    )

pub carriage_is : (n : Net) (p : Plan) (i : ℕ) (total : ℤ) → i ≡ arcs n → IsTotal (arc_cost n) (arc_flow n p) i total → total ≡ carriage n p
carriage_is n p i total all whole = whole.sum ∙ ap (int_sum_below (λ a. arc_cost n a *ℤ pos (arc_flow n p a))) all ∙ sym (carriage-by_number n p)

-- ---- the cost
pub supply_room : (n : Net) (w : Written) (flows : List ℕ) → HasRoom n w → AreSourceOutflows n w flows → sum_below (λ i. get_or flows i 0) n.sources ≤ 2 ^ 82
supply_room n w flows room are = omega (arith, room.supply, sum_below-same (λ i. get_or flows i 0) (source_outflow n (plan_of n w)) n.sources are)

pub demand_room : (n : Net) (w : Written) (flows : List ℕ) → HasRoom n w → AreProductInflows n w flows → sum_below (λ j. get_or flows j 0) n.products ≤ 2 ^ 82
demand_room n w flows room are = omega (arith, room.demand, sum_below-same (λ j. get_or flows j 0) (product_inflow n (plan_of n w)) n.products are)

-- purchases and carriage less revenue, as the code computes them
module _ (n : Net) (w : Written) (outflows inflows : List ℕ) (spent carried earned : ℤ) (out : AreSourceOutflows n w outflows) (in_ : AreProductInflows n w inflows)
    (bought : spent ≡ int_sum_below (λ i. n.source_cost i *ℤ pos (get_or outflows i 0)) n.sources) (brought : carried ≡ carriage n (plan_of n w))
    (sold : earned ≡ int_sum_below (λ j. n.price j *ℤ pos (get_or inflows j 0)) n.products) where
  pub difference_is : spent +ℤ carried -ℤ earned ≡ cost_of n (plan_of n w)
  difference_is =
      let purchases = int_sum_below (λ i. n.source_cost i *ℤ pos (source_outflow n (plan_of n w) i)) n.sources in
      ap (λ z. z +ℤ carried -ℤ earned)
      (bought ∙ int_sum_below-same (λ i. n.source_cost i *ℤ pos (get_or outflows i 0))
      (λ i. n.source_cost i *ℤ pos (source_outflow n (plan_of n w) i)) n.sources (λ i lt. ap (λ m. n.source_cost i *ℤ pos m) (out i lt)))
      ∙ ap (λ z. purchases +ℤ z -ℤ earned) brought
      ∙ ap (λ z. purchases +ℤ carriage n (plan_of n w) -ℤ z)
      (sold ∙ int_sum_below-same (λ j. n.price j *ℤ pos (get_or inflows j 0)) (λ j. n.price j *ℤ pos (product_inflow n (plan_of n w) j)) n.products (λ j lt. ap (λ m. n.price j *ℤ pos m) (in_ j lt)))

pub difference_small : (a c b : ℤ) → unsigned_abs a ≤ 2 ^ 122 → unsigned_abs c ≤ 2 ^ 123 → unsigned_abs b ≤ 2 ^ 122 → unsigned_abs (a +ℤ c -ℤ b) ≤ 2 ^ 124
difference_small a c b h m k = omega (arith, ints)

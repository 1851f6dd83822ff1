-- The starting plan of a way, by what is read of the way.
use Rattle.std.proofs.Common.{◌≡◌, ℕ, ◌≤◌, Option, Some, None, ℤ, ◌+ℤ◌, ◌-ℤ◌, ◌*ℤ◌, pos, arith, refl, sym, ap, subst, ◌∙◌}
use Rattle.std.specs.Prelude.{min, option_map}
use Rattle.std.specs.Int.{int_min}
use Rattle.std.proofs.lemmas.Int.{clamps}
use Rattle.integers.proofs.Ring.{additive}
use Rattle.pool_model.specs.Network.{Net, IsLimited, capped}
use Rattle.pool_model.specs.Plan.{Obeys, plan_of, cost_of}
use Rattle.pool_model.specs.Starting.{IsWay, MeetsMinima, direct_room, path_room, simple_plan, start_at, way_carriage, way_flow, way_product, way_source, zero_plan}
use Rattle.pool_model.proofs.Capped.{capped-le}
use Rattle.pool_model.proofs.Paths.{path_at-way}
use Rattle.pool_model.proofs.StartOrder.{way-obeys, way-minima, way-cost}
use Rattle.start_ways.specs.Ways.{shown_way, IsInRange, capped as capped_by}
use Rattle.start_ways.specs.declared.way.Way.{Way}
use Rattle.start_ways.specs.declared.way.Way.TheVariants.{Through, Direct}

pub start-zero : (n : Net) (k : ℕ) → k ≡ 0 → start_at n k ≡ zero_plan n
start-zero n k e = ap (start_at n) e

pub in_range-way : (n : Net) (way : Way) → IsInRange n way → IsWay n (shown_way n way)
in_range-way n (Through a) lt = path_at-way n a _ _ lt refl refl
in_range-way n (Direct e) lt = lt

-- a way by what is read of it
module _ (n : Net) (way : Way) (source product flow : ℕ) (limited : IsLimited n) (there : IsInRange n way) (from : source ≡ way_source n (shown_way n way))
    (to : product ≡ way_product n (shown_way n way)) (carries : flow ≡ way_flow n (shown_way n way)) where
  pub read-obeys : MeetsMinima n product flow → Obeys n (plan_of n (simple_plan n (shown_way n way)))
  read-obeys meets = way-obeys n (shown_way n way) limited (in_range-way n way there) (subst (MeetsMinima n (way_product n (shown_way n way))) carries (subst (λ j. MeetsMinima n j flow) to meets))

  pub read-minima : Obeys n (plan_of n (simple_plan n (shown_way n way))) → MeetsMinima n product flow
  read-minima obeys =
      subst (λ j. MeetsMinima n j flow) (sym to) (subst (MeetsMinima n (way_product n (shown_way n way))) (sym carries) (way-minima n (shown_way n way) limited (in_range-way n way there) obeys))

  pub read-cost : (n.source_cost source +ℤ way_carriage n (shown_way n way) -ℤ n.price product) *ℤ pos flow ≡ cost_of n (plan_of n (simple_plan n (shown_way n way)))
  read-cost =
      let carriage = way_carriage n (shown_way n way) in
      ap (λ i. (n.source_cost i +ℤ carriage -ℤ n.price product) *ℤ pos flow) from
      ∙ ap (λ j. (n.source_cost (way_source n (shown_way n way)) +ℤ carriage -ℤ n.price j) *ℤ pos flow) to
      ∙ ap (λ f. (n.source_cost (way_source n (shown_way n way)) +ℤ carriage -ℤ n.price (way_product n (shown_way n way))) *ℤ pos f) carries
      ∙ sym (way-cost n (shown_way n way) limited (in_range-way n way there))

-- ---- what a way carries, by what is read of the maxima along it

lesser-read : (x y : ℕ) → int_min (pos x) (pos y) ≡ pos (min x y)
lesser-read x y = omega (arith, additive, clamps)

capped-read : (most : Option ℕ) (amount : ℕ) → capped_by (option_map pos most) (pos amount) ≡ pos (capped most amount)
capped-read None amount = refl
capped-read (Some most) amount = lesser-read most amount

capped-same : (most : Option ℕ) (amount : ℕ) (read : Option ℤ) (z : ℤ) → read ≡ option_map pos most → z ≡ pos amount → capped_by read z ≡ pos (capped most amount)
capped-same most amount read z reads is = ap (λ o. capped_by o z) reads ∙ ap (λ a. capped_by (option_map pos most) a) is ∙ capped-read most amount

module _ (n : Net) (e o i l j : ℕ) (from : i ≡ n.feed_source e) (by : l ≡ n.out_pool o) (to : j ≡ n.out_product o) where
  path-nodes : min (n.source_max i) (min (n.pool_max l) (n.product_max j)) ≡ min (n.source_max (n.feed_source e)) (min (n.pool_max (n.out_pool o)) (n.product_max (n.out_product o)))
  path-nodes =
      ap (λ s. min (n.source_max s) (min (n.pool_max l) (n.product_max j))) from
      ∙ ap (λ p. min (n.source_max (n.feed_source e)) (min (n.pool_max p) (n.product_max j))) by
      ∙ ap (λ x. min (n.source_max (n.feed_source e)) (min (n.pool_max (n.out_pool o)) (n.product_max x))) to

  pub path_room-read : (source pool product lower nodes by_feed room : ℤ) (feed_read out_read : Option ℤ)
      → source ≡ pos (n.source_max i) → pool ≡ pos (n.pool_max l) → product ≡ pos (n.product_max j) → lower ≡ int_min pool product → nodes ≡ int_min source lower
      → feed_read ≡ option_map pos (n.feed_max e) → by_feed ≡ capped_by feed_read nodes → out_read ≡ option_map pos (n.out_max o) → room ≡ capped_by out_read by_feed → room ≡ pos (path_room n e o)
  path_room-read source pool product lower nodes by_feed room feed_read out_read source_is pool_is product_is inner outer feed_is by_is out_is room_is =
      let amount = min (n.source_max (n.feed_source e)) (min (n.pool_max (n.out_pool o)) (n.product_max (n.out_product o))) in
      let lower_is : lower ≡ pos (min (n.pool_max l) (n.product_max j)) =
      inner ∙ ap (λ z. int_min z product) pool_is ∙ ap (int_min (pos (n.pool_max l))) product_is ∙ lesser-read (n.pool_max l) (n.product_max j) in
      let nodes_are : nodes ≡ pos amount =
      outer ∙ ap (λ z. int_min z lower) source_is ∙ ap (int_min (pos (n.source_max i))) lower_is ∙ lesser-read (n.source_max i) (min (n.pool_max l) (n.product_max j)) ∙ ap pos path-nodes in
      room_is ∙ capped-same (n.out_max o) (capped (n.feed_max e) amount) out_read by_feed out_is (by_is ∙ capped-same (n.feed_max e) amount feed_read nodes feed_is nodes_are)

  pub path_room-most : path_room n e o ≤ n.product_max j
  path_room-most =
      let nodes = min (n.source_max (n.feed_source e)) (min (n.pool_max (n.out_pool o)) (n.product_max (n.out_product o))) in
      omega (arith, capped-le (n.out_max o) (capped (n.feed_max e) nodes), capped-le (n.feed_max e) nodes, ap n.product_max to)

-- What a plan costs, arc by arc; costs and maxima of arcs by one number.
use Rattle.std.proofs.Common.{◌≡◌, ℕ, ◌+◌, ◌-◌, ◌*◌, ◌<◌, ◌≤◌, ◌⊎◌, ◌==◌, nat_lt, Bool, true, false, if◌then◌else◌, Option, Some, ℤ, pos, neg_ℤ, ◌+ℤ◌, ◌-ℤ◌, ◌*ℤ◌, arith, refl, sym, ap, ◌∙◌}
use Rattle.std.proofs.lemmas.Bool.Decides.{nat_tests}
use Rattle.integers.specs.Sums.{int_sum_below, piece}
use Rattle.integers.proofs.Ring.{additive, add-mul, neg-mul}
use Rattle.integers.proofs.ByIndex.{int_sum_below-same, int_sum_below-add, int_sum_below-piece, piece-first, piece-rest}
use Rattle.integers.proofs.AtKey.{two_kinds}
use Rattle.integers.proofs.ByNode.{int_sum_at-alone}
use Rattle.pool_model.specs.Network.{Net, IsLimited, arcs, arc_cost, arc_max, feed_delivered, direct_delivered}
use Rattle.pool_model.specs.Plan.{Plan, KeepsMaxima, arc_flow, carriage, cost_of}

-- one flow alone that is paid for
pub paid_alone : (a : ℕ → ℤ) (x : ℕ → ℕ) (arc amount n : ℕ) → (arc < n) ⊎ (amount ≡ 0) → ((i : ℕ) → i < n → x i ≡ (if i == arc then amount else 0))
    → int_sum_below (λ i. a i *ℤ pos (x i)) n ≡ a arc *ℤ pos amount
paid_alone a x arc amount n there is = int_sum_at-alone (λ _. 0) 0 a x arc amount n there is

-- a flow that is paid for twice
pub paid_twice : (a b : ℕ → ℤ) (x : ℕ → ℕ) (n : ℕ)
    → int_sum_below (λ i. (a i +ℤ b i) *ℤ pos (x i)) n ≡ int_sum_below (λ i. a i *ℤ pos (x i)) n +ℤ int_sum_below (λ i. b i *ℤ pos (x i)) n
paid_twice a b x n =
    int_sum_below-same (λ i. (a i +ℤ b i) *ℤ pos (x i)) (λ i. a i *ℤ pos (x i) +ℤ b i *ℤ pos (x i)) n (λ i lt. add-mul (a i) (b i) (pos (x i)))
    ∙ int_sum_below-add (λ i. a i *ℤ pos (x i)) (λ i. b i *ℤ pos (x i)) n

-- a flow that is paid for and brings something
pub paid_less : (a b : ℕ → ℤ) (x : ℕ → ℕ) (n : ℕ)
    → int_sum_below (λ i. (a i -ℤ b i) *ℤ pos (x i)) n +ℤ int_sum_below (λ i. b i *ℤ pos (x i)) n ≡ int_sum_below (λ i. a i *ℤ pos (x i)) n
paid_less a b x n =
    sym (int_sum_below-add (λ i. (a i -ℤ b i) *ℤ pos (x i)) (λ i. b i *ℤ pos (x i)) n)
    ∙ int_sum_below-same (λ i. (a i -ℤ b i) *ℤ pos (x i) +ℤ b i *ℤ pos (x i)) (λ i. a i *ℤ pos (x i)) n (λ i lt. apart (a i) (b i) (pos (x i)))
  where
    apart : (a b x : ℤ) → (a -ℤ b) *ℤ x +ℤ b *ℤ x ≡ a *ℤ x
    apart a b x = omega (arith, additive, add-mul a (neg_ℤ b) x, neg-mul b x)

-- a feed costs what it brings, an out carries and sells, a direct brings and sells
pub cost-by_arcs : (n : Net) (p : Plan) → IsLimited n
    → cost_of n p
    ≡ int_sum_below (λ e. feed_delivered n e *ℤ pos (p.feed e)) n.feeds
    +ℤ int_sum_below (λ o. (n.out_cost o -ℤ n.price (n.out_product o)) *ℤ pos (p.out o)) n.outs
    +ℤ int_sum_below (λ e. (direct_delivered n e -ℤ n.price (n.direct_product e)) *ℤ pos (p.direct e)) n.directs
cost-by_arcs n p lim =
    omega (
      arith,
      additive,
      two_kinds n.source_cost n.feed_source n.direct_source p.feed p.direct n.sources n.feeds n.directs lim.feed_sources lim.direct_sources,
      two_kinds n.price n.out_product n.direct_product p.out p.direct n.products n.outs n.directs lim.out_products lim.direct_products,
      paid_twice (λ e. n.source_cost (n.feed_source e)) n.feed_cost p.feed n.feeds,
      paid_less n.out_cost (λ o. n.price (n.out_product o)) p.out n.outs,
      paid_less (λ e. direct_delivered n e) (λ e. n.price (n.direct_product e)) p.direct n.directs,
      paid_twice (λ e. n.source_cost (n.direct_source e)) n.direct_cost p.direct n.directs,
    )

-- ---- by one number
pub carriage-by_number : (n : Net) (p : Plan) → carriage n p ≡ int_sum_below (λ a. arc_cost n a *ℤ pos (arc_flow n p a)) (arcs n)
carriage-by_number n p =
    let costs = piece n.outs n.out_cost n.direct_cost in
    let flows = piece n.outs (λ o. pos (p.out o)) (λ e. pos (p.direct e)) in
    omega (
      arith,
      additive,
      ap (int_sum_below (λ a. arc_cost n a *ℤ pos (arc_flow n p a))) (let e : n.feeds + n.outs + n.directs ≡ n.feeds + (n.outs + n.directs) = omega arith in e),
      int_sum_below-same (λ a. arc_cost n a *ℤ pos (arc_flow n p a)) (λ a. arc_cost n a *ℤ piece n.feeds (λ e. pos (p.feed e)) flows a) (n.feeds + (n.outs + n.directs))
          (λ a lt. ap (λ z. arc_cost n a *ℤ z) (flow_at a)),
      int_sum_below-piece n.feeds (n.outs + n.directs) n.feed_cost costs (λ e. pos (p.feed e)) flows,
      int_sum_below-piece n.outs n.directs n.out_cost n.direct_cost (λ o. pos (p.out o)) (λ e. pos (p.direct e)),
    )
  where
    moved : (b : Bool) (x y : ℕ) (z : ℤ) → pos y ≡ z → pos (if b then x else y) ≡ (if b then pos x else z)
    moved true x y z e = refl
    moved false x y z e = e

    flow_at : (a : ℕ) → pos (arc_flow n p a) ≡ piece n.feeds (λ e. pos (p.feed e)) (piece n.outs (λ o. pos (p.out o)) (λ e. pos (p.direct e))) a
    flow_at a =
        let o = a - n.feeds in
        moved (nat_lt a n.feeds) (p.feed a) (piece n.outs p.out p.direct o) (piece n.outs (λ i. pos (p.out i)) (λ e. pos (p.direct e)) o)
        (moved (nat_lt o n.outs) (p.out o) (p.direct (o - n.outs)) (pos (p.direct (o - n.outs))) refl)

-- what holds on both pieces holds throughout
pieces-hold : (P : Option ℕ → ℕ → Type 0) (k n : ℕ) (f g : ℕ → Option ℕ) (x y : ℕ → ℕ) → ((i : ℕ) → i < k → P (f i) (x i)) → ((i : ℕ) → i < n → P (g i) (y i))
    → (i : ℕ) → i < k + n → P (piece k f g i) (piece k x y i)
pieces-hold P k n f g x y first rest i h = cases (nat_lt i k) refl
  where
    cases : (test : Bool) → nat_lt i k ≡ test → P (if test then f i else g (i - k)) (if test then x i else y (i - k))
    cases true e = first i (grind (arith, nat_tests))
    cases false e = let past : k ≤ i = grind (arith, nat_tests) in rest (i - k) (omega arith)

pub keeps-by_number : (n : Net) (p : Plan) → KeepsMaxima n p → (a m : ℕ) → a < arcs n → arc_max n a ≡ Some m → arc_flow n p a ≤ p.base * m
keeps-by_number n p keeps a m lt is =
    let Keeps = λ (o : Option ℕ) (x : ℕ). (c : ℕ) → o ≡ Some c → x ≤ p.base * c in
    pieces-hold Keeps n.feeds (n.outs + n.directs) n.feed_max (piece n.outs n.out_max n.direct_max) p.feed (piece n.outs p.out p.direct)
    (λ e le c. keeps.feeds e c le)
    (pieces-hold Keeps n.outs n.directs n.out_max n.direct_max p.out p.direct (λ o lo c. keeps.outs o c lo) (λ e le c. keeps.directs e c le))
    a (omega arith) m is

pub by_number-keeps : (n : Net) (p : Plan) → ((a m : ℕ) → a < arcs n → arc_max n a ≡ Some m → arc_flow n p a ≤ p.base * m) → KeepsMaxima n p
by_number-keeps n p h =
    let maxima = piece n.outs n.out_max n.direct_max in
    let flows = piece n.outs p.out p.direct in
    record {
      feeds = λ e m lt is. omega (arith, piece-first n.feeds p.feed flows e lt, h e m (omega arith) (piece-first n.feeds n.feed_max maxima e lt ∙ is));
      outs = λ o m lt is.
          omega (
            arith,
            piece-rest n.feeds p.feed flows o,
            piece-first n.outs p.out p.direct o lt,
            h (n.feeds + o) m (omega arith) (piece-rest n.feeds n.feed_max maxima o ∙ piece-first n.outs n.out_max n.direct_max o lt ∙ is),
          );
      directs = λ e m lt is.
          omega (
            arith,
            piece-rest n.feeds p.feed flows (n.outs + e),
            piece-rest n.outs p.out p.direct e,
            h (n.feeds + (n.outs + e)) m (omega arith) (piece-rest n.feeds n.feed_max maxima (n.outs + e) ∙ piece-rest n.outs n.out_max n.direct_max e ∙ is),
          );
    }

-- How much a row of a limit weighs: it meets flows into its own product alone, so what it comes to is limited by what the product takes.
use Rattle.std.proofs.Common.{◌≡◌, ◌∙◌, ℕ, ◌+◌, ◌*◌, ◌^◌, ◌<◌, ◌≤◌, Bool, true, false, ◌==◌, if◌then◌else◌, ℤ, pos, unsigned_abs, ap, sym, arith}
use Rattle.integers.specs.Sums.{int_sum_at, sum_at, sum_below}
use Rattle.integers.proofs.AtKey.{int_sum_at-same, pos-sum_at, sum_at-mul, sum_below-le}
use Rattle.integers.proofs.ByNode.{sum_at-same_key, sum_below-nothing}
use Rattle.integers.proofs.Order.{same_pos}
use Rattle.pool_model.specs.Network.{Net, IsLimited}
use Rattle.pool_model.specs.Plan.{Written, IsWritten, plan_of, product_inflow, weight, written_out}
use Rattle.row_model.specs.Catalogue.{when}
use Rattle.row_model.specs.Variables.{PerVariable, none, path_count, path_feed, path_out}
use Rattle.row_model.proofs.PathSums.{paths_at_key}
use Rattle.row_model.proofs.RowSums.{weight_at, weights_at}
use Rattle.tight_leaf.specs.PlanPoints.{plan_values}
use Rattle.tight_leaf.proofs.KindSums.{kind-sums, weight_of}

-- ---- the coefficients of a row of a limit

-- by mixed variables: of outs and directs into a product, and of one quality
abbrev pub mixed_limit : Net → (product quality : ℕ) → (y z mixed : ℕ → ℤ) → PerVariable
mixed_limit n j k y z mixed = record none {
  y = λ o. when (n.out_product o) j (y o);
  z = λ e. when (n.direct_product e) j (z e);
  mixed = λ o h. when h k (when (n.out_product o) j (mixed o));
}

-- by flows along paths: of outs, directs and paths into a product
abbrev pub path_limit : Net → (product : ℕ) → (y z w : ℕ → ℤ) → PerVariable
path_limit n j y z w = record none {
  y = λ o. when (n.out_product o) j (y o);
  z = λ e. when (n.direct_product e) j (z e);
  w = λ q. when (n.out_product (path_out n q)) j (w q);
}

no-weight : (a : ℕ → ℤ) (m : ℕ) → sum_below (λ i. unsigned_abs (pos 0) * unsigned_abs (a i)) m ≡ 0
no-weight a m = sum_below-nothing (λ i. unsigned_abs (pos 0) * unsigned_abs (a i)) m (λ i lt. omega arith)

no-weights : (a : ℕ → ℕ → ℤ) (m n : ℕ) → sum_below (λ i. sum_below (λ k. unsigned_abs (pos 0) * unsigned_abs (a i k)) n) m ≡ 0
no-weights a m n = sum_below-nothing (λ i. sum_below (λ k. unsigned_abs (pos 0) * unsigned_abs (a i k)) n) m (λ i lt. no-weight (a i) n)

module _ (n : Net) (j : ℕ) (y z : ℕ → ℤ) (s : PerVariable) (few_y : (o : ℕ) → o < n.outs → unsigned_abs (y o) ≤ 10 ^ 14) (few_z : (e : ℕ) → e < n.directs → unsigned_abs (z e) ≤ 2 * 10 ^ 14) where
  mixed-weight : (k : ℕ) (mixed : ℕ → ℤ) → k < n.qualities → ((o : ℕ) → o < n.outs → unsigned_abs (mixed o) ≤ 1000)
      → weight_of n (mixed_limit n j k y z mixed) s
      ≤ 10 ^ 14 * sum_at n.out_product j (λ o. unsigned_abs (s.y o)) n.outs
      + 2 * 10 ^ 14 * sum_at n.direct_product j (λ e. unsigned_abs (s.z e)) n.directs
      + 1000 * sum_at n.out_product j (λ o. unsigned_abs (s.mixed o k)) n.outs
  mixed-weight k mixed lk few =
      omega (
        arith,
        kind-sums n (mixed_limit n j k y z mixed) s,
        no-weight s.x n.feeds,
        weight_at n.out_product j y (λ o. unsigned_abs (s.y o)) (10 ^ 14) n.outs few_y,
        weight_at n.direct_product j z (λ e. unsigned_abs (s.z e)) (2 * 10 ^ 14) n.directs few_z,
        no-weight s.w (path_count n),
        no-weight s.proportion n.feeds,
        no-weights s.quality n.pools n.qualities,
        weights_at n.out_product j k mixed (λ o h. unsigned_abs (s.mixed o h)) 1000 n.outs n.qualities lk few,
      )

  path-weight : (w : ℕ → ℤ) → ((q : ℕ) → q < path_count n → unsigned_abs (w q) ≤ 10 ^ 14)
      → weight_of n (path_limit n j y z w) s
      ≤ 10 ^ 14 * sum_at n.out_product j (λ o. unsigned_abs (s.y o)) n.outs
      + 2 * 10 ^ 14 * sum_at n.direct_product j (λ e. unsigned_abs (s.z e)) n.directs
      + 10 ^ 14 * sum_at (λ q. n.out_product (path_out n q)) j (λ q. unsigned_abs (s.w q)) (path_count n)
  path-weight w few =
      omega (
        arith,
        kind-sums n (path_limit n j y z w) s,
        no-weight s.x n.feeds,
        weight_at n.out_product j y (λ o. unsigned_abs (s.y o)) (10 ^ 14) n.outs few_y,
        weight_at n.direct_product j z (λ e. unsigned_abs (s.z e)) (2 * 10 ^ 14) n.directs few_z,
        weight_at (λ q. n.out_product (path_out n q)) j w (λ q. unsigned_abs (s.w q)) (10 ^ 14) (path_count n) few,
        no-weight s.proportion n.feeds,
        no-weights s.quality n.pools n.qualities,
        no-weights s.mixed n.outs n.qualities,
      )

-- ---- at the point of a written plan

sum_at-most : (key : ℕ → ℕ) (k most : ℕ) (f g : ℕ → ℕ) (n : ℕ) → ((i : ℕ) → i < n → f i ≤ most * g i) → sum_at key k f n ≤ most * sum_at key k g n
sum_at-most key k most f g n h =
    omega (
      arith,
      sum_below-le (λ i. if key i == k then f i else 0) (λ i. if key i == k then most * g i else 0) n (λ i lt. le_if (key i == k) (f i) (most * g i) (h i lt)),
      sum_at-mul key k most g n,
    )
  where
    le_if : (test : Bool) (a b : ℕ) → a ≤ b → (if test then a else 0) ≤ (if test then b else 0)
    le_if true a b h = h
    le_if false a b h = omega arith

-- along paths to a product flows what its outs carry
paths-carry : (n : Net) (w : Written) (j : ℕ) → IsLimited n → IsWritten n w
    → sum_at (λ q. n.out_product (path_out n q)) j (λ q. weight w (path_feed n q) * written_out w (path_out n q)) (path_count n) ≡ sum_at n.out_product j (plan_of n w).out n.outs
paths-carry n w j lim written =
    let key = λ (q : ℕ). n.out_product (path_out n q) in
    let flow = λ (q : ℕ). weight w (path_feed n q) * written_out w (path_out n q) in
    let of_pair = λ (e o : ℕ). pos (weight w e * written_out w o) in
    same_pos (sum_at key j flow (path_count n)) (sum_at n.out_product j (plan_of n w).out n.outs)
    (sym (pos-sum_at key j flow (path_count n))
    ∙ paths_at_key n of_pair n.out_product j record { each = lim.feed_pools }
    ∙ int_sum_at-same n.out_product j (λ o. int_sum_at n.feed_pool (n.out_pool o) (λ e. of_pair e o) n.feeds) (λ o. pos (w.base * written_out w o)) n.outs
    (λ o lo is.
    pos-sum_at n.feed_pool (n.out_pool o) (λ e. weight w e * written_out w o) n.feeds
    ∙ ap pos (sum_at-same_key n.feed_pool (n.out_pool o) (λ e. weight w e * written_out w o) (λ e. written_out w o * weight w e) n.feeds (λ e le at. turned (weight w e) (written_out w o))
    ∙ sum_at-mul n.feed_pool (n.out_pool o) (written_out w o) (weight w) n.feeds
    ∙ ap (λ (t : ℕ). written_out w o * t) (written.weight_sums (n.out_pool o) (lim.out_pools o lo))
    ∙ turned (written_out w o) w.base))
    ∙ pos-sum_at n.out_product j (plan_of n w).out n.outs)
  where
    turned : (a b : ℕ) → a * b ≡ b * a
    turned a b = omega arith

module _ (n : Net) (w : Written) (lim : IsLimited n) (written : IsWritten n w) (j : ℕ) (y z : ℕ → ℤ) (few_y : (o : ℕ) → o < n.outs → unsigned_abs (y o) ≤ 10 ^ 14)
    (few_z : (e : ℕ) → e < n.directs → unsigned_abs (z e) ≤ 2 * 10 ^ 14) where
  pub mixed_limit-weight : (k : ℕ) (mixed : ℕ → ℤ) → k < n.qualities → ((o : ℕ) → o < n.outs → unsigned_abs (mixed o) ≤ 1000)
      → ((o : ℕ) → o < n.outs → unsigned_abs ((plan_values n w).mixed o k) ≤ 10 ^ 11 * (plan_of n w).out o)
      → weight_of n (mixed_limit n j k y z mixed) (plan_values n w) ≤ 2 * 10 ^ 14 * product_inflow n (plan_of n w) j
  mixed_limit-weight k mixed lk few mixed_few =
      let p = plan_of n w in
      let parts : weight_of n (mixed_limit n j k y z mixed) (plan_values n w)
      ≤ 10 ^ 14 * sum_at n.out_product j p.out n.outs + 2 * 10 ^ 14 * sum_at n.direct_product j p.direct n.directs
      + 1000 * sum_at n.out_product j (λ o. unsigned_abs ((plan_values n w).mixed o k)) n.outs =
      mixed-weight n j y z (plan_values n w) few_y few_z k mixed lk few in
      omega (
        arith,
        parts,
        sum_at-most n.out_product j (10 ^ 11) (λ o. unsigned_abs ((plan_values n w).mixed o k)) (plan_of n w).out n.outs mixed_few,
      )

  pub path_limit-weight : (c : ℕ → ℤ) → ((q : ℕ) → q < path_count n → unsigned_abs (c q) ≤ 10 ^ 14)
      → weight_of n (path_limit n j y z c) (plan_values n w) ≤ 2 * 10 ^ 14 * product_inflow n (plan_of n w) j
  path_limit-weight c few =
      let p = plan_of n w in
      let flow = λ (q : ℕ). weight w (path_feed n q) * written_out w (path_out n q) in
      let parts : weight_of n (path_limit n j y z c) (plan_values n w)
      ≤ 10 ^ 14 * sum_at n.out_product j p.out n.outs + 2 * 10 ^ 14 * sum_at n.direct_product j p.direct n.directs
      + 10 ^ 14 * sum_at (λ q. n.out_product (path_out n q)) j flow (path_count n) =
      path-weight n j y z (plan_values n w) few_y few_z c few in
      omega (arith, parts, paths-carry n w j lim written)

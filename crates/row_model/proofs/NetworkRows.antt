-- The rows of the network are met by flows that carry, over any second base.
use Rattle.std.proofs.Common.{◌≡◌, ℕ, ◌*◌, ◌≤◌, ℤ, pos, neg_ℤ, ◌-ℤ◌, ◌*ℤ◌, ◌≤ℤ◌, arith, ap}
use Rattle.integers.proofs.Ring.{linear, additive, neg-mul}
use Rattle.integers.proofs.Order.{nonneg-mul, mul_out}
use Rattle.pool_model.specs.Network.{Net}
use Rattle.pool_model.specs.Plan.{Plan, Carries, outflow, pool_inflow, source_outflow, product_inflow}
use Rattle.row_model.specs.Variables.{PerVariable, path_count}
use Rattle.row_model.specs.Catalogue.{HoldsOfEach, network_families, source_row, balance_row, pool_row, maximum_row, minimum_row}
use Rattle.row_model.specs.Lift.{with_flows, value_over, MeetsRow}
use Rattle.row_model.proofs.RowSums.{no_sum, no_sums, scaled_at}

-- what is left of a room, times a factor
left-met : (m used room : ℕ) (value : ℤ) → used ≤ room → value ≡ pos m *ℤ (pos room -ℤ pos used) → pos 0 ≤ℤ value
left-met m used room value h e = rw e (nonneg-mul (pos m) (pos room -ℤ pos used) (omega (arith, additive)) (omega (arith, additive)))

module _ (n : Net) (second : ℕ) (p : Plan) (beside : PerVariable) where
  pub source_row-value : (i : ℕ) → value_over n (with_flows second p beside) (p.base * second) (source_row n i) ≡ pos second *ℤ (pos (p.base * n.source_max i) -ℤ pos (source_outflow n p i))
  source_row-value i =
      let m = pos second in
      let v = with_flows second p beside in
      omega (
        arith,
        linear,
        no_sum v.y n.outs,
        no_sum v.w (path_count n),
        no_sum v.proportion n.feeds,
        no_sums v.quality n.pools n.qualities,
        no_sums v.mixed n.outs n.qualities,
        scaled_at n.feed_source i (neg_ℤ (pos 1)) m p.feed n.feeds,
        scaled_at n.direct_source i (neg_ℤ (pos 1)) m p.direct n.directs,
        mul_out m (pos (p.base * n.source_max i)) (pos (source_outflow n p i)),
      )

  pub balance_row-value : (l : ℕ) → value_over n (with_flows second p beside) (p.base * second) (balance_row n l) ≡ pos second *ℤ pos (pool_inflow n p l) -ℤ pos second *ℤ pos (outflow n p l)
  balance_row-value l =
      let v = with_flows second p beside in
      omega (
        arith,
        linear,
        no_sum v.z n.directs,
        no_sum v.w (path_count n),
        no_sum v.proportion n.feeds,
        no_sums v.quality n.pools n.qualities,
        no_sums v.mixed n.outs n.qualities,
        scaled_at n.feed_pool l (pos 1) (pos second) p.feed n.feeds,
        scaled_at n.out_pool l (neg_ℤ (pos 1)) (pos second) p.out n.outs,
      )

  pub pool_row-value : (l : ℕ) → value_over n (with_flows second p beside) (p.base * second) (pool_row n l) ≡ pos second *ℤ (pos (p.base * n.pool_max l) -ℤ pos (outflow n p l))
  pool_row-value l =
      let m = pos second in
      let v = with_flows second p beside in
      omega (
        arith,
        linear,
        no_sum v.x n.feeds,
        no_sum v.z n.directs,
        no_sum v.w (path_count n),
        no_sum v.proportion n.feeds,
        no_sums v.quality n.pools n.qualities,
        no_sums v.mixed n.outs n.qualities,
        scaled_at n.out_pool l (neg_ℤ (pos 1)) m p.out n.outs,
        mul_out m (pos (p.base * n.pool_max l)) (pos (outflow n p l)),
      )

  pub maximum_row-value : (j : ℕ) → value_over n (with_flows second p beside) (p.base * second) (maximum_row n j) ≡ pos second *ℤ (pos (p.base * n.product_max j) -ℤ pos (product_inflow n p j))
  maximum_row-value j =
      let m = pos second in
      let v = with_flows second p beside in
      omega (
        arith,
        linear,
        no_sum v.x n.feeds,
        no_sum v.w (path_count n),
        no_sum v.proportion n.feeds,
        no_sums v.quality n.pools n.qualities,
        no_sums v.mixed n.outs n.qualities,
        scaled_at n.out_product j (neg_ℤ (pos 1)) m p.out n.outs,
        scaled_at n.direct_product j (neg_ℤ (pos 1)) m p.direct n.directs,
        mul_out m (pos (p.base * n.product_max j)) (pos (product_inflow n p j)),
      )

  pub minimum_row-value : (j : ℕ) → value_over n (with_flows second p beside) (p.base * second) (minimum_row n j) ≡ pos second *ℤ (pos (product_inflow n p j) -ℤ pos (p.base * n.product_min j))
  minimum_row-value j =
      let m = pos second in
      let v = with_flows second p beside in
      omega (
        arith,
        linear,
        no_sum v.x n.feeds,
        no_sum v.w (path_count n),
        no_sum v.proportion n.feeds,
        no_sums v.quality n.pools n.qualities,
        no_sums v.mixed n.outs n.qualities,
        scaled_at n.out_product j (pos 1) m p.out n.outs,
        scaled_at n.direct_product j (pos 1) m p.direct n.directs,
        mul_out m (pos (product_inflow n p j)) (pos (p.base * n.product_min j)),
        neg-mul (pos (n.product_min j)) (pos (p.base * second)),
      )

  pub network_rows-met : Carries n p → HoldsOfEach (MeetsRow n (with_flows second p beside) (p.base * second)) (network_families n)
  network_rows-met c = (
    λ i lt. left-met second (source_outflow n p i) (p.base * n.source_max i) (value_over n (with_flows second p beside) (p.base * second) (source_row n i)) (c.sources i lt) (source_row-value i),
    (
      λ l lt. omega (arith, additive, balance_row-value l, ap (λ z. pos second *ℤ pos z) (c.balanced l lt)),
      (
        λ l lt. left-met second (outflow n p l) (p.base * n.pool_max l) (value_over n (with_flows second p beside) (p.base * second) (pool_row n l)) (c.pools l lt) (pool_row-value l),
        (
          λ j lt. left-met second (product_inflow n p j) (p.base * n.product_max j)
              (value_over n (with_flows second p beside) (p.base * second) (maximum_row n j)) (c.at_most j lt) (maximum_row-value j),
          (
            λ j lt. left-met second (p.base * n.product_min j) (product_inflow n p j)
                (value_over n (with_flows second p beside) (p.base * second) (minimum_row n j)) (c.at_least j lt) (minimum_row-value j),
            tt,
          ),
        ),
      ),
    ),
  )

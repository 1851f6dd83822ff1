-- The rows of P, of Q and of PQ, but their envelopes, over flows times a second base, beside other numbers.
use Rattle.std.proofs.Common.{◌≡◌, ℕ, ◌*◌, ◌<◌, ℤ, pos, neg_ℤ, ◌+ℤ◌, ◌-ℤ◌, ◌*ℤ◌, arith, ap}
use Rattle.integers.specs.Sums.{int_sum_at, sum_at}
use Rattle.integers.proofs.Ring.{additive, linear, neg-mul, mul_left_comm_ℤ}
use Rattle.integers.proofs.AtKey.{int_sum_at-same, int_sum_at-mul}
use Rattle.pool_model.specs.Network.{Net}
use Rattle.pool_model.specs.Plan.{Plan, direct_mix, limit_room, mix}
use Rattle.pool_model.specs.Starting.{straight, way_quality}
use Rattle.pool_model.specs.Limits.{Limit}
use Rattle.row_model.specs.Boxes.{grain}
use Rattle.row_model.specs.Variables.{PerVariable, path_count, path_feed, path_out}
use Rattle.row_model.specs.Catalogue.{when, limit_parts, path_quality, mixing_row, mixed_most_row, mixed_least_row, proportions_row, feed_row, path_most_row, path_least_row, out_row, share_row}
use Rattle.row_model.specs.Lift.{with_flows, value_over}
use Rattle.row_model.proofs.Brought.{directs-bring}
use Rattle.row_model.proofs.RowSums.{no_sum, no_sums, key_sum, one_sum, one_sums, scaled_at, same_at, opposite_at, room_at, excess_at, room_of_both}

-- the quality that flows along paths bring to a product
abbrev pub along_paths : Net → PerVariable → ℕ → ℕ → ℤ
along_paths n v j k = int_sum_at (λ a. n.out_product (path_out n a)) j (λ a. path_quality n a k *ℤ v.w a) (path_count n)

-- the quality that mixed variables bring to a product, as far as pools retain it
abbrev pub through_pools : Net → PerVariable → ℕ → ℕ → ℤ
through_pools n v j k = int_sum_at n.out_product j (λ o. pos (n.retained (n.out_pool o) k) *ℤ v.mixed o k) n.outs

module _ (n : Net) (second : ℕ) (p : Plan) (v : PerVariable) (base : ℕ) where
  -- ---- form P

  pub mixing_row-sum : (l k : ℕ) → k < n.qualities
      → value_over n (with_flows second p v) base (mixing_row n l k) ≡ pos second *ℤ mix n p l k -ℤ int_sum_at n.out_pool l (λ o. v.mixed o k) n.outs
  mixing_row-sum l k lk =
      let m = pos second in
      let flows = with_flows second p v in
      let quality = λ (e : ℕ). n.source_quality (n.feed_source e) k in
      omega (
        arith,
        linear,
        no_sum flows.y n.outs,
        no_sum flows.z n.directs,
        no_sum v.w (path_count n),
        no_sum v.proportion n.feeds,
        no_sums v.quality n.pools n.qualities,
        key_sum n.feed_pool l quality flows.x n.feeds,
        int_sum_at-same n.feed_pool l (λ e. quality e *ℤ flows.x e) (λ e. m *ℤ (quality e *ℤ pos (p.feed e))) n.feeds (λ e le is. mul_left_comm_ℤ (quality e) m (pos (p.feed e))),
        int_sum_at-mul n.feed_pool l m (λ e. quality e *ℤ pos (p.feed e)) n.feeds,
        one_sums k (λ o. when (n.out_pool o) l (neg_ℤ (pos 1))) v.mixed n.outs n.qualities lk,
        same_at n.out_pool l (neg_ℤ (pos 1)) (λ o. v.mixed o k) n.outs,
      )

  pub mixed_most_row-sum : (u : Limit) → u.quality < n.qualities
      → value_over n (with_flows second p v) base (mixed_most_row n u)
      ≡ pos second *ℤ limit_room n p u.product u.limit -ℤ (through_pools n v u.product u.quality +ℤ pos second *ℤ direct_mix n p u.product u.quality)
  mixed_most_row-sum u lk =
      let m = pos second in
      let flows = with_flows second p v in
      let limit = limit_parts n u in
      let retained = λ (o : ℕ). pos (n.retained (n.out_pool o) u.quality) in
      omega (
        arith,
        additive,
        no_sum flows.x n.feeds,
        no_sum v.w (path_count n),
        no_sum v.proportion n.feeds,
        no_sums v.quality n.pools n.qualities,
        scaled_at n.out_product u.product limit m p.out n.outs,
        room_at n.direct_product u.product limit m (λ e. way_quality n (straight e) u.quality) p.direct n.directs,
        ap (λ z. m *ℤ z) (directs-bring n p u.product u.quality),
        one_sums u.quality (λ o. when (n.out_product o) u.product (neg_ℤ (retained o))) v.mixed n.outs n.qualities lk,
        opposite_at n.out_product u.product retained (λ o. v.mixed o u.quality) n.outs,
        room_of_both m limit (pos (sum_at n.out_product u.product p.out n.outs)) (pos (sum_at n.direct_product u.product p.direct n.directs)),
      )

  pub mixed_least_row-sum : (u : Limit) → u.quality < n.qualities
      → value_over n (with_flows second p v) base (mixed_least_row n u)
      ≡ through_pools n v u.product u.quality +ℤ pos second *ℤ direct_mix n p u.product u.quality -ℤ pos second *ℤ limit_room n p u.product u.limit
  mixed_least_row-sum u lk =
      let m = pos second in
      let flows = with_flows second p v in
      let limit = limit_parts n u in
      let retained = λ (o : ℕ). pos (n.retained (n.out_pool o) u.quality) in
      omega (
        arith,
        additive,
        no_sum flows.x n.feeds,
        no_sum v.w (path_count n),
        no_sum v.proportion n.feeds,
        no_sums v.quality n.pools n.qualities,
        scaled_at n.out_product u.product (neg_ℤ limit) m p.out n.outs,
        neg-mul limit (m *ℤ pos (sum_at n.out_product u.product p.out n.outs)),
        excess_at n.direct_product u.product limit m (λ e. way_quality n (straight e) u.quality) p.direct n.directs,
        ap (λ z. m *ℤ z) (directs-bring n p u.product u.quality),
        one_sums u.quality (λ o. when (n.out_product o) u.product (retained o)) v.mixed n.outs n.qualities lk,
        key_sum n.out_product u.product retained (λ o. v.mixed o u.quality) n.outs,
        room_of_both m limit (pos (sum_at n.out_product u.product p.out n.outs)) (pos (sum_at n.direct_product u.product p.direct n.directs)),
      )

  -- ---- form Q

  pub proportions_row-sum : (l : ℕ) → value_over n (with_flows second p v) base (proportions_row n l) ≡ int_sum_at n.feed_pool l v.proportion n.feeds -ℤ pos (grain * base)
  proportions_row-sum l =
      let flows = with_flows second p v in
      omega (
        arith,
        linear,
        no_sum flows.x n.feeds,
        no_sum flows.y n.outs,
        no_sum flows.z n.directs,
        no_sum v.w (path_count n),
        no_sums v.quality n.pools n.qualities,
        no_sums v.mixed n.outs n.qualities,
        same_at n.feed_pool l (pos 1) v.proportion n.feeds,
        neg-mul (pos grain) (pos base),
      )

  pub feed_row-sum : (e : ℕ) → e < n.feeds → value_over n (with_flows second p v) base (feed_row n e) ≡ pos (second * p.feed e) -ℤ int_sum_at (path_feed n) e v.w (path_count n)
  feed_row-sum e lt =
      let flows = with_flows second p v in
      omega (
        arith,
        linear,
        no_sum flows.y n.outs,
        no_sum flows.z n.directs,
        no_sum v.proportion n.feeds,
        no_sums v.quality n.pools n.qualities,
        no_sums v.mixed n.outs n.qualities,
        one_sum e (pos 1) flows.x n.feeds lt,
        same_at (path_feed n) e (neg_ℤ (pos 1)) v.w (path_count n),
      )

  pub path_most_row-sum : (u : Limit)
      → value_over n (with_flows second p v) base (path_most_row n u)
      ≡ pos second *ℤ limit_room n p u.product u.limit -ℤ (along_paths n v u.product u.quality +ℤ pos second *ℤ direct_mix n p u.product u.quality)
  path_most_row-sum u =
      let m = pos second in
      let flows = with_flows second p v in
      let limit = limit_parts n u in
      omega (
        arith,
        additive,
        no_sum flows.x n.feeds,
        no_sum v.proportion n.feeds,
        no_sums v.quality n.pools n.qualities,
        no_sums v.mixed n.outs n.qualities,
        scaled_at n.out_product u.product limit m p.out n.outs,
        room_at n.direct_product u.product limit m (λ e. way_quality n (straight e) u.quality) p.direct n.directs,
        ap (λ z. m *ℤ z) (directs-bring n p u.product u.quality),
        opposite_at (λ a. n.out_product (path_out n a)) u.product (λ a. path_quality n a u.quality) v.w (path_count n),
        room_of_both m limit (pos (sum_at n.out_product u.product p.out n.outs)) (pos (sum_at n.direct_product u.product p.direct n.directs)),
      )

  pub path_least_row-sum : (u : Limit)
      → value_over n (with_flows second p v) base (path_least_row n u)
      ≡ along_paths n v u.product u.quality +ℤ pos second *ℤ direct_mix n p u.product u.quality -ℤ pos second *ℤ limit_room n p u.product u.limit
  path_least_row-sum u =
      let m = pos second in
      let flows = with_flows second p v in
      let limit = limit_parts n u in
      omega (
        arith,
        additive,
        no_sum flows.x n.feeds,
        no_sum v.proportion n.feeds,
        no_sums v.quality n.pools n.qualities,
        no_sums v.mixed n.outs n.qualities,
        scaled_at n.out_product u.product (neg_ℤ limit) m p.out n.outs,
        neg-mul limit (m *ℤ pos (sum_at n.out_product u.product p.out n.outs)),
        excess_at n.direct_product u.product limit m (λ e. way_quality n (straight e) u.quality) p.direct n.directs,
        ap (λ z. m *ℤ z) (directs-bring n p u.product u.quality),
        key_sum (λ a. n.out_product (path_out n a)) u.product (λ a. path_quality n a u.quality) v.w (path_count n),
        room_of_both m limit (pos (sum_at n.out_product u.product p.out n.outs)) (pos (sum_at n.direct_product u.product p.direct n.directs)),
      )

  -- ---- form PQ

  pub out_row-sum : (o : ℕ) → o < n.outs → value_over n (with_flows second p v) base (out_row n o) ≡ int_sum_at (path_out n) o v.w (path_count n) -ℤ pos (second * p.out o)
  out_row-sum o lt =
      let flows = with_flows second p v in
      omega (
        arith,
        linear,
        no_sum flows.x n.feeds,
        no_sum flows.z n.directs,
        no_sum v.proportion n.feeds,
        no_sums v.quality n.pools n.qualities,
        no_sums v.mixed n.outs n.qualities,
        one_sum o (neg_ℤ (pos 1)) flows.y n.outs lt,
        same_at (path_out n) o (pos 1) v.w (path_count n),
      )

  pub share_row-sum : (e : ℕ) → e < n.feeds
      → value_over n (with_flows second p v) base (share_row n e)
      ≡ pos (n.pool_max (n.feed_pool e)) *ℤ v.proportion e -ℤ pos grain *ℤ int_sum_at (path_feed n) e v.w (path_count n)
  share_row-sum e lt =
      let flows = with_flows second p v in
      omega (
        arith,
        additive,
        no_sum flows.x n.feeds,
        no_sum flows.y n.outs,
        no_sum flows.z n.directs,
        no_sums v.quality n.pools n.qualities,
        no_sums v.mixed n.outs n.qualities,
        same_at (path_feed n) e (neg_ℤ (pos grain)) v.w (path_count n),
        neg-mul (pos grain) (int_sum_at (path_feed n) e v.w (path_count n)),
        one_sum e (pos (n.pool_max (n.feed_pool e))) v.proportion n.feeds lt,
      )

-- The rows of P but its envelopes are met by the points of P.
use Rattle.std.proofs.Common.{◌≡◌, ℕ, ◌*◌, ◌/◌, ◌%◌, ◌<◌, get_or, pos, ◌+ℤ◌, ◌-ℤ◌, ◌*ℤ◌, arith, ap}
use Rattle.integers.specs.Sums.{int_sum_at}
use Rattle.integers.proofs.Ring.{additive, mul-add, mul_left_comm_ℤ}
use Rattle.integers.proofs.AtKey.{int_sum_at-same, int_sum_at-mul}
use Rattle.integers.proofs.Grids.{grid-row, grid-column}
use Rattle.pool_model.specs.Network.{Net}
use Rattle.pool_model.specs.Plan.{limit_room, mix, direct_mix}
use Rattle.pool_model.specs.Limits.{Limit, most_limits, least_limits, no_limit}
use Rattle.pool_model.proofs.Limits.{most_limit-set, least_limit-set}
use Rattle.row_model.specs.Catalogue.{HoldsOfEach, mixing_row, mixed_most_row, mixed_least_row}
use Rattle.row_model.specs.Lift.{value_over, MeetsRow}
use Rattle.row_model.proofs.FormRows.{through_pools, mixing_row-sum, mixed_most_row-sum, mixed_least_row-sum}
use Rattle.program_model.specs.Points.{QualityPoint, quality_flows}
use Rattle.program_model.specs.Programs.{IsPointOfP, mixed_inflow}
use Rattle.program_model.specs.Rows.{exact_p_families, quality_values}
use Rattle.program_model.proofs.PathRows.{room-met}

-- the quality that is brought to a product, times the second base
mixed-bring : (n : Net) (q : QualityPoint) (j k : ℕ)
    → through_pools n (quality_values q) j k +ℤ pos q.qual_base *ℤ direct_mix n (quality_flows q) j k ≡ pos q.qual_base *ℤ mixed_inflow n q j k
mixed-bring n q j k =
    let m = pos q.qual_base in
    let retained = λ (o : ℕ). pos (n.retained (n.out_pool o) k) in
    let brought = λ (o : ℕ). retained o *ℤ q.mixed o k in
    omega (
      arith,
      additive,
      int_sum_at-same n.out_product j (λ o. retained o *ℤ (m *ℤ q.mixed o k)) (λ o. m *ℤ brought o) n.outs (λ o lo is. mul_left_comm_ℤ (retained o) m (q.mixed o k)),
      int_sum_at-mul n.out_product j m brought n.outs,
      mul-add m (int_sum_at n.out_product j brought n.outs) (direct_mix n (quality_flows q) j k),
    )

pub mixing_row-value : (n : Net) (q : QualityPoint) (l k : ℕ) → k < n.qualities
    → value_over n (quality_values q) (q.base * q.qual_base) (mixing_row n l k)
    ≡ pos q.qual_base *ℤ mix n (quality_flows q) l k -ℤ pos q.qual_base *ℤ int_sum_at n.out_pool l (λ o. q.mixed o k) n.outs
mixing_row-value n q l k lk =
    omega (
      arith,
      additive,
      mixing_row-sum n q.qual_base (quality_flows q) (quality_values q) (q.base * q.qual_base) l k lk,
      int_sum_at-mul n.out_pool l (pos q.qual_base) (λ o. q.mixed o k) n.outs,
    )

pub mixed_most_row-value : (n : Net) (q : QualityPoint) (u : Limit) → u.quality < n.qualities
    → value_over n (quality_values q) (q.base * q.qual_base) (mixed_most_row n u)
    ≡ pos q.qual_base *ℤ limit_room n (quality_flows q) u.product u.limit -ℤ pos q.qual_base *ℤ mixed_inflow n q u.product u.quality
mixed_most_row-value n q u lk =
    omega (
      arith,
      additive,
      mixed_most_row-sum n q.qual_base (quality_flows q) (quality_values q) (q.base * q.qual_base) u lk,
      mixed-bring n q u.product u.quality,
    )

pub mixed_least_row-value : (n : Net) (q : QualityPoint) (u : Limit) → u.quality < n.qualities
    → value_over n (quality_values q) (q.base * q.qual_base) (mixed_least_row n u)
    ≡ pos q.qual_base *ℤ mixed_inflow n q u.product u.quality -ℤ pos q.qual_base *ℤ limit_room n (quality_flows q) u.product u.limit
mixed_least_row-value n q u lk =
    omega (
      arith,
      additive,
      mixed_least_row-sum n q.qual_base (quality_flows q) (quality_values q) (q.base * q.qual_base) u lk,
      mixed-bring n q u.product u.quality,
    )

pub p_rows-met : (n : Net) (q : QualityPoint) → IsPointOfP n q → HoldsOfEach (MeetsRow n (quality_values q) (q.base * q.qual_base)) (exact_p_families n)
p_rows-met n q h = (
  λ i lt.
      let l = i / n.qualities in
      let k = i % n.qualities in
      let lk = grid-column n.pools n.qualities i lt in
      omega (arith, additive, mixing_row-value n q l k lk, ap (λ z. pos q.qual_base *ℤ z) (h.mixing l k (grid-row n.pools n.qualities i lt) lk)),
  (
    λ i lt.
        let u = get_or (most_limits n) i no_limit in
        let s = most_limit-set n i lt in
        room-met q.qual_base (mixed_inflow n q u.product u.quality) (limit_room n (quality_flows q) u.product u.limit)
        (value_over n (quality_values q) (q.base * q.qual_base) (mixed_most_row n u))
        (h.at_most u.product u.quality u.limit s.product s.quality s.set) (mixed_most_row-value n q u s.quality),
    (
      λ i lt.
          let u = get_or (least_limits n) i no_limit in
          let s = least_limit-set n i lt in
          room-met q.qual_base (limit_room n (quality_flows q) u.product u.limit) (mixed_inflow n q u.product u.quality)
          (value_over n (quality_values q) (q.base * q.qual_base) (mixed_least_row n u))
          (h.at_least u.product u.quality u.limit s.product s.quality s.set) (mixed_least_row-value n q u s.quality),
      tt,
    ),
  ),
)

-- The rows of Q and of Pq but their envelopes are met by the points of these programs.
use Rattle.std.proofs.Common.{◌≡◌, ℕ, ◌*◌, ◌<◌, get_or, ℤ, pos, ◌+ℤ◌, ◌-ℤ◌, ◌*ℤ◌, ◌≤ℤ◌, arith, ap, ◌∙◌}
use Rattle.std.proofs.Math.Nat.{mul-le-mul_left}
use Rattle.integers.specs.Sums.{int_sum_at, sum_at}
use Rattle.integers.proofs.Ring.{additive, linear, mul-add, mul_left_comm_ℤ}
use Rattle.integers.proofs.Order.{le-mul}
use Rattle.integers.proofs.AtKey.{int_sum_at-same, int_sum_at-mul, sum_at-mul, pos-sum_at}
use Rattle.pool_model.specs.Network.{Net}
use Rattle.pool_model.specs.Plan.{limit_room, direct_mix}
use Rattle.pool_model.specs.Limits.{Limit, most_limits, least_limits, no_limit}
use Rattle.pool_model.proofs.Limits.{most_limit-set, least_limit-set}
use Rattle.row_model.specs.Boxes.{grain}
use Rattle.row_model.specs.Variables.{path_count, path_feed, path_out}
use Rattle.row_model.specs.Catalogue.{HoldsOfEach, path_quality, pq_families, proportions_row, feed_row, path_most_row, path_least_row, out_row, share_row}
use Rattle.row_model.specs.Lift.{value_over, MeetsRow}
use Rattle.row_model.proofs.FormRows.{along_paths, proportions_row-sum, feed_row-sum, path_most_row-sum, path_least_row-sum, out_row-sum, share_row-sum}
use Rattle.program_model.specs.Points.{ProportionPoint, proportion_flows}
use Rattle.program_model.specs.Programs.{IsPointOfQ, IsPointOfPq, path_inflow}
use Rattle.program_model.specs.Rows.{exact_q_families, proportion_values}

-- a sum over paths, times the second base
along : (n : Net) (q : ProportionPoint) (key : ℕ → ℕ) (k : ℕ) → int_sum_at key k (proportion_values q).w (path_count n) ≡ pos (q.prop_base * sum_at key k q.path (path_count n))
along n q key k =
    int_sum_at-mul key k (pos q.prop_base) (λ a. pos (q.path a)) (path_count n)
    ∙ ap (λ z. pos q.prop_base *ℤ z) (pos-sum_at key k q.path (path_count n))

pub proportions_row-value : (n : Net) (q : ProportionPoint) (l : ℕ)
    → value_over n (proportion_values q) (q.base * q.prop_base) (proportions_row n l) ≡ pos (grain * q.base * sum_at n.feed_pool l q.proportion n.feeds) -ℤ pos (grain * q.base * q.prop_base)
proportions_row-value n q l =
    omega (
      arith,
      additive,
      proportions_row-sum n q.prop_base (proportion_flows q) (proportion_values q) (q.base * q.prop_base) l,
      pos-sum_at n.feed_pool l (λ e. grain * q.base * q.proportion e) n.feeds,
      ap pos (sum_at-mul n.feed_pool l (grain * q.base) q.proportion n.feeds),
      ap pos (grouped grain q.base q.prop_base),
    )
  where
    grouped : (g b r : ℕ) → g * (b * r) ≡ g * b * r
    grouped g b r = omega arith

pub feed_row-value : (n : Net) (q : ProportionPoint) (e : ℕ) → e < n.feeds
    → value_over n (proportion_values q) (q.base * q.prop_base) (feed_row n e) ≡ pos (q.prop_base * q.feed e) -ℤ pos (q.prop_base * sum_at (path_feed n) e q.path (path_count n))
feed_row-value n q e lt =
    omega (arith, additive, feed_row-sum n q.prop_base (proportion_flows q) (proportion_values q) (q.base * q.prop_base) e lt, along n q (path_feed n) e)

-- ---- limits

-- the quality that is brought to a product, times the second base
paths-bring : (n : Net) (q : ProportionPoint) (j k : ℕ)
    → along_paths n (proportion_values q) j k +ℤ pos q.prop_base *ℤ direct_mix n (proportion_flows q) j k ≡ pos q.prop_base *ℤ path_inflow n q j k
paths-bring n q j k =
    let m = pos q.prop_base in
    let key = λ (a : ℕ). n.out_product (path_out n a) in
    let quality = λ (a : ℕ). path_quality n a k in
    let brought = λ (a : ℕ). quality a *ℤ pos (q.path a) in
    omega (
      arith,
      additive,
      int_sum_at-same key j (λ a. quality a *ℤ (m *ℤ pos (q.path a))) (λ a. m *ℤ brought a) (path_count n) (λ a la is. mul_left_comm_ℤ (quality a) m (pos (q.path a))),
      int_sum_at-mul key j m brought (path_count n),
      mul-add m (int_sum_at key j brought (path_count n)) (direct_mix n (proportion_flows q) j k),
    )

pub path_most_row-value : (n : Net) (q : ProportionPoint) (u : Limit)
    → value_over n (proportion_values q) (q.base * q.prop_base) (path_most_row n u)
    ≡ pos q.prop_base *ℤ limit_room n (proportion_flows q) u.product u.limit -ℤ pos q.prop_base *ℤ path_inflow n q u.product u.quality
path_most_row-value n q u =
    omega (
      arith,
      additive,
      path_most_row-sum n q.prop_base (proportion_flows q) (proportion_values q) (q.base * q.prop_base) u,
      paths-bring n q u.product u.quality,
    )

pub path_least_row-value : (n : Net) (q : ProportionPoint) (u : Limit)
    → value_over n (proportion_values q) (q.base * q.prop_base) (path_least_row n u)
    ≡ pos q.prop_base *ℤ path_inflow n q u.product u.quality -ℤ pos q.prop_base *ℤ limit_room n (proportion_flows q) u.product u.limit
path_least_row-value n q u =
    omega (
      arith,
      additive,
      path_least_row-sum n q.prop_base (proportion_flows q) (proportion_values q) (q.base * q.prop_base) u,
      paths-bring n q u.product u.quality,
    )

nonneg : (m : ℕ) → pos 0 ≤ℤ pos m
nonneg m = omega (arith, linear)

-- the room between two numbers, times a factor
pub room-met : (m : ℕ) (low high value : ℤ) → low ≤ℤ high → value ≡ pos m *ℤ high -ℤ pos m *ℤ low → pos 0 ≤ℤ value
room-met m low high value h e = omega (arith, additive, e, le-mul (pos m) low high (nonneg m) h)

pub q_rows-met : (n : Net) (q : ProportionPoint) → IsPointOfQ n q → HoldsOfEach (MeetsRow n (proportion_values q) (q.base * q.prop_base)) (exact_q_families n)
q_rows-met n q h = (
  λ l lt. omega (arith, additive, proportions_row-value n q l, ap (λ z. pos (grain * q.base * z)) (h.proportions l lt)),
  (
    λ e lt. omega (arith, additive, feed_row-value n q e lt, ap (λ z. pos (q.prop_base * z)) (h.feeds e lt)),
    (
      λ i lt.
          let u = get_or (most_limits n) i no_limit in
          let s = most_limit-set n i lt in
          room-met q.prop_base (path_inflow n q u.product u.quality) (limit_room n (proportion_flows q) u.product u.limit)
          (value_over n (proportion_values q) (q.base * q.prop_base) (path_most_row n u))
          (h.at_most u.product u.quality u.limit s.product s.quality s.set) (path_most_row-value n q u),
      (
        λ i lt.
            let u = get_or (least_limits n) i no_limit in
            let s = least_limit-set n i lt in
            room-met q.prop_base (limit_room n (proportion_flows q) u.product u.limit) (path_inflow n q u.product u.quality)
            (value_over n (proportion_values q) (q.base * q.prop_base) (path_least_row n u))
            (h.at_least u.product u.quality u.limit s.product s.quality s.set) (path_least_row-value n q u),
        tt,
      ),
    ),
  ),
)

-- ---- the further rows of Pq
pub out_row-value : (n : Net) (q : ProportionPoint) (o : ℕ) → o < n.outs
    → value_over n (proportion_values q) (q.base * q.prop_base) (out_row n o) ≡ pos (q.prop_base * sum_at (path_out n) o q.path (path_count n)) -ℤ pos (q.prop_base * q.out o)
out_row-value n q o lt =
    omega (arith, additive, out_row-sum n q.prop_base (proportion_flows q) (proportion_values q) (q.base * q.prop_base) o lt, along n q (path_out n) o)

pub share_row-value : (n : Net) (q : ProportionPoint) (e : ℕ) → e < n.feeds
    → value_over n (proportion_values q) (q.base * q.prop_base) (share_row n e)
    ≡ pos (grain * (n.pool_max (n.feed_pool e) * q.proportion e * q.base)) -ℤ pos (grain * (q.prop_base * sum_at (path_feed n) e q.path (path_count n)))
share_row-value n q e lt =
    omega (arith, linear, share_row-sum n q.prop_base (proportion_flows q) (proportion_values q) (q.base * q.prop_base) e lt, along n q (path_feed n) e)

pub pq_rows-met : (n : Net) (q : ProportionPoint) → IsPointOfPq n q → HoldsOfEach (MeetsRow n (proportion_values q) (q.base * q.prop_base)) (pq_families n)
pq_rows-met n q h = (
  λ o lt. omega (arith, additive, out_row-value n q o lt, ap (λ z. pos (q.prop_base * z)) (h.outs o lt)),
  (
    λ e lt. omega (arith, linear, share_row-value n q e lt, mul-le-mul_left grain (h.shares e lt)),
    tt,
  ),
)

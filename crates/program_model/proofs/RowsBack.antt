-- Numbers that meet the rows and the products of an exact program are a point of it.
use Rattle.std.proofs.Common.{◌≡◌, ℕ, ◌+◌, ◌*◌, ◌%◌, ◌<◌, ◌≤◌, ◌++◌, get_or, length, Some, ℤ, pos, ◌-ℤ◌, ◌*ℤ◌, ◌≤ℤ◌, ◌<ℤ◌, arith, subst}
use Rattle.std.proofs.lemmas.List.Elements.{All-from_get_or, All-contains}
use Rattle.std.proofs.lemmas.Nat.{div-mul-add, mod-mul-add}
use Rattle.integers.specs.Sums.{int_sum_at, sum_at}
use Rattle.integers.proofs.Ring.{additive, linear}
use Rattle.integers.proofs.Order.{le-cancel, same-cancel, same_pos}
use Rattle.integers.proofs.Grids.{grid-below}
use Rattle.pool_model.specs.Network.{Net}
use Rattle.pool_model.specs.Plan.{Plan, Carries, KeepsMaxima, outflow, pool_inflow, source_outflow, product_inflow, limit_room, mix}
use Rattle.pool_model.specs.Limits.{Limit, most_limits, least_limits, no_limit}
use Rattle.row_model.specs.Boxes.{grain}
use Rattle.row_model.specs.Variables.{PerVariable, path_count, path_feed, path_out}
use Rattle.row_model.specs.Catalogue.{HoldsOfEach, network_families, pq_families, source_row, balance_row, pool_row, maximum_row, minimum_row, mixing_row}
use Rattle.row_model.specs.Catalogue.{mixed_most_row, mixed_least_row, proportions_row, feed_row, path_most_row, path_least_row, out_row, share_row}
use Rattle.row_model.specs.Lift.{with_flows, value_over, MeetsRow}
use Rattle.row_model.proofs.Families.{each-front, each-behind}
use Rattle.program_model.specs.Points.{ProportionPoint, QualityPoint, proportion_flows, quality_flows}
use Rattle.program_model.specs.Programs.{IsPointOfP, IsPointOfQ, IsPointOfPq, mixed_inflow, path_inflow}
use Rattle.program_model.specs.Rows.{exact_p_families, exact_q_families, proportion_values, quality_values, SolvesP, SolvesQ, SolvesPq}
use Rattle.program_model.proofs.LimitLists.{limits-every}
use Rattle.row_model.proofs.NetworkRows.{source_row-value, balance_row-value, pool_row-value, maximum_row-value, minimum_row-value}
use Rattle.program_model.proofs.PathRows.{proportions_row-value, feed_row-value, path_most_row-value, path_least_row-value, out_row-value, share_row-value}
use Rattle.program_model.proofs.MixedRows.{mixing_row-value, mixed_most_row-value, mixed_least_row-value}

-- ---- back from a row's value

positive-ℤ : (m : ℕ) → 0 < m → pos 0 <ℤ pos m
positive-ℤ m h = omega (arith, linear)

-- what is left of a room is not negative
used_le_room : (m used room : ℕ) (value : ℤ) → 0 < m → value ≡ pos m *ℤ (pos room -ℤ pos used) → pos 0 ≤ℤ value → used ≤ room
used_le_room m used room value hm e h =
    let left : pos 0 ≤ℤ (pos room -ℤ pos used) = le-cancel (pos m) (pos 0) (pos room -ℤ pos used) (positive-ℤ m hm) (omega (arith, linear, e, h)) in
    omega (arith, linear, left)

low_le_high : (m : ℕ) (low high value : ℤ) → 0 < m → value ≡ pos m *ℤ high -ℤ pos m *ℤ low → pos 0 ≤ℤ value → low ≤ℤ high
low_le_high m low high value hm e h = le-cancel (pos m) low high (positive-ℤ m hm) (omega (arith, additive, e, h))

-- a difference of multiples that is 0
same_multiples : (m : ℕ) (a b value : ℤ) → 0 < m → value ≡ pos m *ℤ a -ℤ pos m *ℤ b → value ≡ pos 0 → a ≡ b
same_multiples m a b value hm e z = same-cancel (pos m) a b (positive-ℤ m hm) (omega (arith, additive, e, z))

same_naturals : (m a b : ℕ) (value : ℤ) → 0 < m → value ≡ pos (m * a) -ℤ pos (m * b) → value ≡ pos 0 → a ≡ b
same_naturals m a b value hm e z = same_pos a b (same_multiples m (pos a) (pos b) value hm e z)

-- ---- the network
carries-back : (n : Net) (second : ℕ) (p : Plan) (others : PerVariable) → 0 < second → HoldsOfEach (MeetsRow n (with_flows second p others) (p.base * second)) (network_families n) → KeepsMaxima n p → Carries n p
carries-back n second p others hm h keeps =
    let v = with_flows second p others in
    let base = p.base * second in
    record {
      sources = λ i lt. used_le_room second (source_outflow n p i) (p.base * n.source_max i) (value_over n v base (source_row n i)) hm (source_row-value n second p others i) (h.0 i lt);
      balanced = λ l lt. same_pos (pool_inflow n p l) (outflow n p l)
          (same_multiples second (pos (pool_inflow n p l)) (pos (outflow n p l)) (value_over n v base (balance_row n l)) hm (balance_row-value n second p others l) (h.1.0 l lt));
      pools = λ l lt. used_le_room second (outflow n p l) (p.base * n.pool_max l) (value_over n v base (pool_row n l)) hm (pool_row-value n second p others l) (h.1.1.0 l lt);
      at_least = λ j lt. used_le_room second (p.base * n.product_min j) (product_inflow n p j) (value_over n v base (minimum_row n j)) hm (minimum_row-value n second p others j) (h.1.1.1.1.0 j lt);
      at_most = λ j lt. used_le_room second (product_inflow n p j) (p.base * n.product_max j) (value_over n v base (maximum_row n j)) hm (maximum_row-value n second p others j) (h.1.1.1.0 j lt);
      arcs = keeps;
    }

-- ---- limits: what holds of each in the list holds of each that is set
of_most : (n : Net) (P : Limit → Type 0) → ((i : ℕ) → i < length (most_limits n) → P (get_or (most_limits n) i no_limit))
    → (j k : ℕ) (u : ℤ) → j < n.products → k < n.qualities → n.most j k ≡ Some u → P record { product = j; quality = k; limit = u }
of_most n P each j k u lj lk set = All-contains P (most_limits n) record {
  product = j;
  quality = k;
  limit =
      u;
} (All-from_get_or P (most_limits n) no_limit each) (limits-every n.most n.products n.qualities j k u lj lk set)

of_least : (n : Net) (P : Limit → Type 0) → ((i : ℕ) → i < length (least_limits n) → P (get_or (least_limits n) i no_limit))
    → (j k : ℕ) (u : ℤ) → j < n.products → k < n.qualities → n.least j k ≡ Some u → P record { product = j; quality = k; limit = u }
of_least n P each j k u lj lk set = All-contains P (least_limits n) record {
  product = j;
  quality = k;
  limit =
      u;
} (All-from_get_or P (least_limits n) no_limit each) (limits-every n.least n.products n.qualities j k u lj lk set)

-- ---- P
pub solves-point_of_p : (n : Net) (q : QualityPoint) → SolvesP n q → IsPointOfP n q
solves-point_of_p n q s =
    let v = quality_values q in
    let base = q.base * q.qual_base in
    let h = each-behind (MeetsRow n v base) (network_families n) (exact_p_families n) s.rows in
    record {
      base = s.base;
      qual_base = s.qual_base;
      carries = carries-back n q.qual_base (quality_flows q) v s.qual_base (each-front (MeetsRow n v base) (network_families n) (exact_p_families n) s.rows) s.maxima;
      mixing = λ l k lt lk.
          let met = subst (λ (i : ℕ). MeetsRow n v base (mixing_row n i ((l * n.qualities + k) % n.qualities))) (div-mul-add l n.qualities k lk)
          (h.0 (l * n.qualities + k) (grid-below n.pools n.qualities l k lt lk)) in
          same_multiples q.qual_base (mix n (quality_flows q) l k) (int_sum_at n.out_pool l (λ o. q.mixed o k) n.outs)
          (value_over n v base (mixing_row n l k)) s.qual_base (mixing_row-value n q l k lk)
          (subst (λ (i : ℕ). MeetsRow n v base (mixing_row n l i)) (mod-mul-add l n.qualities k lk) met);
      at_most = λ j k u lj lk set.
          let w : Limit = record { product = j; quality = k; limit = u } in
          low_le_high q.qual_base (mixed_inflow n q j k) (limit_room n (quality_flows q) j u) (value_over n v base (mixed_most_row n w)) s.qual_base (mixed_most_row-value n q w lk)
          (of_most n (λ (x : Limit). MeetsRow n v base (mixed_most_row n x)) h.1.0 j k u lj lk set);
      at_least = λ j k u lj lk set.
          let w : Limit = record { product = j; quality = k; limit = u } in
          low_le_high q.qual_base (limit_room n (quality_flows q) j u) (mixed_inflow n q j k) (value_over n v base (mixed_least_row n w)) s.qual_base (mixed_least_row-value n q w lk)
          (of_least n (λ (x : Limit). MeetsRow n v base (mixed_least_row n x)) h.1.1.0 j k u lj lk set);
      products = s.products;
      low = s.low;
      high = s.high;
    }

-- ---- Q and Pq
point_of_q-back : (n : Net) (q : ProportionPoint) → 0 < q.base → 0 < q.prop_base
    → HoldsOfEach (MeetsRow n (proportion_values q) (q.base * q.prop_base)) (network_families n)
    → HoldsOfEach (MeetsRow n (proportion_values q) (q.base * q.prop_base)) (exact_q_families n)
    → ((a : ℕ) → a < path_count n → q.path a * q.prop_base ≡ q.proportion (path_feed n a) * q.out (path_out n a))
    → KeepsMaxima n (proportion_flows q)
    → IsPointOfQ n q
point_of_q-back n q hb hp network h products keeps =
    let v = proportion_values q in
    let base = q.base * q.prop_base in
    let parts : 0 < grain * q.base = omega (arith, hb) in
    record {
      base = hb;
      prop_base = hp;
      carries = carries-back n q.prop_base (proportion_flows q) v hp network keeps;
      proportions = λ l lt. same_naturals (grain * q.base) (sum_at n.feed_pool l q.proportion n.feeds) q.prop_base
          (value_over n v base (proportions_row n l)) parts (proportions_row-value n q l) (h.0 l lt);
      feeds = λ e lt. same_naturals q.prop_base (q.feed e) (sum_at (path_feed n) e q.path (path_count n)) (value_over n v base (feed_row n e)) hp (feed_row-value n q e lt) (h.1.0 e lt);
      at_most = λ j k u lj lk set.
          let w : Limit = record { product = j; quality = k; limit = u } in
          low_le_high q.prop_base (path_inflow n q j k) (limit_room n (proportion_flows q) j u) (value_over n v base (path_most_row n w)) hp (path_most_row-value n q w)
          (of_most n (λ (x : Limit). MeetsRow n v base (path_most_row n x)) h.1.1.0 j k u lj lk set);
      at_least = λ j k u lj lk set.
          let w : Limit = record { product = j; quality = k; limit = u } in
          low_le_high q.prop_base (limit_room n (proportion_flows q) j u) (path_inflow n q j k) (value_over n v base (path_least_row n w)) hp (path_least_row-value n q w)
          (of_least n (λ (x : Limit). MeetsRow n v base (path_least_row n x)) h.1.1.1.0 j k u lj lk set);
      products = products;
    }

pub solves-point_of_q : (n : Net) (q : ProportionPoint) → SolvesQ n q → IsPointOfQ n q
solves-point_of_q n q s =
    let v = proportion_values q in
    let base = q.base * q.prop_base in
    point_of_q-back n q s.base s.prop_base (each-front (MeetsRow n v base) (network_families n) (exact_q_families n) s.rows)
    (each-behind (MeetsRow n v base) (network_families n) (exact_q_families n) s.rows) s.products s.maxima

pub solves-point_of_pq : (n : Net) (q : ProportionPoint) → SolvesPq n q → IsPointOfPq n q
solves-point_of_pq n q s =
    let v = proportion_values q in
    let base = q.base * q.prop_base in
    let network = each-front (MeetsRow n v base) (network_families n) (exact_q_families n ++ pq_families n) s.rows in
    let rest = each-behind (MeetsRow n v base) (network_families n) (exact_q_families n ++ pq_families n) s.rows in
    let further = each-behind (MeetsRow n v base) (exact_q_families n) (pq_families n) rest in
    record {
      of_q = point_of_q-back n q s.base s.prop_base network (each-front (MeetsRow n v base) (exact_q_families n) (pq_families n) rest) s.products s.maxima;
      outs = λ o lt. same_naturals q.prop_base (sum_at (path_out n) o q.path (path_count n)) (q.out o) (value_over n v base (out_row n o)) s.prop_base (out_row-value n q o lt) (further.0 o lt);
      shares = λ e lt.
          natural_le (q.prop_base * sum_at (path_feed n) e q.path (path_count n)) (n.pool_max (n.feed_pool e) * q.proportion e * q.base)
          (value_over n v base (share_row n e)) (share_row-value n q e lt) (further.1.0 e lt);
    }
  where
    natural_le : (a b : ℕ) (value : ℤ) → value ≡ pos (grain * b) -ℤ pos (grain * a) → pos 0 ≤ℤ value → a ≤ b
    natural_le a b value e h = omega (arith, linear, e, h)

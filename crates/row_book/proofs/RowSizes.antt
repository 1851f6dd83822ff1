-- Every coefficient of every row is at most 2 * 10^14 in size.
use Rattle.std.proofs.Common.{◌≡◌, ℕ, ◌+◌, ◌*◌, ◌/◌, ◌%◌, ◌^◌, ◌<◌, ◌≤◌, Bool, true, false}
use Rattle.std.proofs.Common.{◌==◌, if◌then◌else◌, ◌++◌, get_or, ℤ, pos, neg_ℤ, ◌-ℤ◌, unsigned_abs, arith}
use Rattle.std.proofs.lemmas.Int.{ints}
use Rattle.pool_model.specs.Network.{Net, IsLimited}
use Rattle.pool_model.specs.Starting.{straight, way_quality}
use Rattle.row_model.specs.Boxes.{Box, coords, IsProper, prop_number, qual_number, flow_number}
use Rattle.row_model.specs.Variables.{PerVariable, path_count, path_feed, path_out, variables, by_number}
use Rattle.row_model.specs.Envelopes.{Ends, Side, side}
use Rattle.pool_model.specs.Limits.{Limit, no_limit, most_limits, least_limits}
use Rattle.row_model.specs.Catalogue.{Row, when, rows, row_at, catalogue, network_families, p_families, q_families, pq_families, source_row, balance_row, pool_row, maximum_row, HoldsOfEach}
use Rattle.row_model.specs.Catalogue.{minimum_row, limit_parts, path_quality, mixing_row, mixed_most_row, mixed_least_row, quality_ends, quality_envelope_row, proportions_row}
use Rattle.row_model.specs.Catalogue.{feed_row, path_most_row, path_least_row, proportion_ends, proportion_envelope_row, out_row, share_row}
use Rattle.integers.proofs.Grids.{grid-below, grid-row, grid-column}
use Rattle.row_model.proofs.Numbering.{HoldsByKind, by_number-each}
use Rattle.row_model.proofs.PathSums.{path_feed-below, path_out-below}
use Rattle.row_model.proofs.Families.{each_row, each-append}
use Rattle.formulations.proofs.InParts.{IsFewLimit, limit-few, retained-few, limit_parts-few, direct_quality-few, path_quality-few}
use Rattle.row_book.proofs.NearEnds.{AreNear, quality-few, ends-near}

-- at most 2 * 10^14 in size
abbrev pub IsSmall : ℤ → Type 0
IsSmall z = unsigned_abs z ≤ 2 * 10 ^ 14

nothing : IsSmall (pos 0)
nothing = omega arith

one : IsSmall (pos 1)
one = omega arith

less_one : IsSmall (neg_ℤ (pos 1))
less_one = omega arith

small_if : (test : Bool) (c : ℤ) → IsSmall c → IsSmall (if test then c else pos 0)
small_if true c h = h
small_if false c h = nothing

small_when : (i k : ℕ) (c : ℤ) → IsSmall c → IsSmall (when i k c)
small_when i k c h = small_if (i == k) c h

widen : (z : ℤ) → unsigned_abs z ≤ 10 ^ 14 → IsSmall z
widen z h = omega arith

turned : (z : ℤ) → unsigned_abs z ≤ 10 ^ 14 → IsSmall (neg_ℤ z)
turned z h = omega (arith, ints)

apart : (a b : ℤ) → unsigned_abs a ≤ 10 ^ 14 → unsigned_abs b ≤ 10 ^ 14 → IsSmall (a -ℤ b)
apart a b h k = omega (arith, ints)

-- ---- sides of envelopes

pub record IsSmallSide (s : Side) : Type 0 where
  pub w : IsSmall s.of_w
  pub a : IsSmall s.of_a
  pub b : IsSmall s.of_b

side_if : (test : Bool) (s t : Side) → IsSmallSide s → IsSmallSide t → IsSmallSide (if test then s else t)
side_if true s t h k = h
side_if false s t h k = k

side-small : (number : ℕ) (scale : ℤ) (e : Ends) → unsigned_abs scale ≤ 10 ^ 12 → AreNear e.a_low e.a_high → AreNear e.b_low e.b_high → IsSmallSide (side number scale e)
side-small number scale e h a b =
    side_if (number == 1) _ _ record { w = near scale h; a = less e.b_low b.low; b = less e.a_low a.low }
    (side_if (number == 2) _ _ record { w = near scale h; a = less e.b_high b.high; b = less e.a_high a.high }
    (side_if (number == 3) _ _ record { w = less scale h; a = near e.b_low b.low; b = near e.a_high a.high }
    record { w = less scale h; a = near e.b_high b.high; b = near e.a_low a.low }))
  where
    near : (z : ℤ) → unsigned_abs z ≤ 10 ^ 12 → IsSmall z
    near z h = omega arith

    less : (z : ℤ) → unsigned_abs z ≤ 10 ^ 12 → IsSmall (neg_ℤ z)
    less z h = turned z (omega arith)

-- ---- rows, kind by kind

abbrev pub AreSmall : Net → PerVariable → Type 0
AreSmall n a = HoldsByKind n (λ x y. IsSmall x) a a

by_kind : (n : Net) (a : PerVariable) → ((e : ℕ) → e < n.feeds → IsSmall (a.x e)) → ((o : ℕ) → o < n.outs → IsSmall (a.y o)) → ((e : ℕ) → e < n.directs → IsSmall (a.z e))
    → ((q : ℕ) → q < path_count n → IsSmall (a.w q)) → ((e : ℕ) → e < n.feeds → IsSmall (a.proportion e))
    → ((l k : ℕ) → l < n.pools → k < n.qualities → IsSmall (a.quality l k)) → ((o k : ℕ) → o < n.outs → k < n.qualities → IsSmall (a.mixed o k)) → AreSmall n a
by_kind n a fx fy fz fw fp fq fm = record { x = fx; y = fy; z = fz; w = fw; proportion = fp; quality = fq; mixed = fm }

-- what holds of a row: its coefficients are small
abbrev pub IsSmallRow : Net → Row → Type 0
IsSmallRow n r = AreSmall n r.coefs

network-small : (n : Net) → HoldsOfEach (IsSmallRow n) (network_families n)
network-small n = (
  λ i lt. by_kind n (source_row n i).coefs (λ e h. small_when (n.feed_source e) i (neg_ℤ (pos 1)) less_one) (λ o h. nothing)
      (λ e h. small_when (n.direct_source e) i (neg_ℤ (pos 1)) less_one) (λ q h. nothing) (λ e h. nothing) (λ l k a b. nothing) (λ o k a b. nothing),
  (
    λ l lt. by_kind n (balance_row n l).coefs (λ e h. small_when (n.feed_pool e) l (pos 1) one)
        (λ o h. small_when (n.out_pool o) l (neg_ℤ (pos 1)) less_one) (λ e h. nothing) (λ q h. nothing) (λ e h. nothing) (λ p k a b. nothing) (λ o k a b. nothing),
    (
      λ l lt. by_kind n (pool_row n l).coefs (λ e h. nothing) (λ o h. small_when (n.out_pool o) l (neg_ℤ (pos 1)) less_one) (λ e h. nothing)
          (λ q h. nothing) (λ e h. nothing) (λ p k a b. nothing) (λ o k a b. nothing),
      (
        λ j lt. by_kind n (maximum_row n j).coefs (λ e h. nothing) (λ o h. small_when (n.out_product o) j (neg_ℤ (pos 1)) less_one)
            (λ e h. small_when (n.direct_product e) j (neg_ℤ (pos 1)) less_one) (λ q h. nothing) (λ e h. nothing) (λ p k a b. nothing) (λ o k a b. nothing),
        (
          λ j lt. by_kind n (minimum_row n j).coefs (λ e h. nothing) (λ o h. small_when (n.out_product o) j (pos 1) one)
              (λ e h. small_when (n.direct_product e) j (pos 1) one) (λ q h. nothing) (λ e h. nothing) (λ p k a b. nothing) (λ o k a b. nothing),
          tt,
        ),
      ),
    ),
  ),
)

kept-small : (n : Net) (o k : ℕ) → IsLimited n → o < n.outs → k < n.qualities → unsigned_abs (pos (n.retained (n.out_pool o) k)) ≤ 10 ^ 14
kept-small n o k limited lt lk = omega (arith, retained-few n limited (n.out_pool o) k (limited.out_pools o lt) lk)

mixed_most-small : (n : Net) (u : Limit) → IsLimited n → IsFewLimit n u → IsSmallRow n (mixed_most_row n u)
mixed_most-small n u limited few =
    let limit = limit_parts n u in
    let small = limit_parts-few n limited u few.limit in
    by_kind n (mixed_most_row n u).coefs (λ e h. nothing) (λ o h. small_when (n.out_product o) u.product limit (widen limit small))
    (λ e h. small_when (n.direct_product e) u.product (limit -ℤ way_quality n (straight e) u.quality)
    (apart limit (way_quality n (straight e) u.quality) small (direct_quality-few n limited e u.quality h few.quality)))
    (λ q h. nothing) (λ e h. nothing) (λ l k a b. nothing)
    (λ o k a b. let kept = pos (n.retained (n.out_pool o) u.quality) in
    small_when k u.quality (when (n.out_product o) u.product (neg_ℤ kept)) (small_when (n.out_product o) u.product (neg_ℤ kept) (turned kept (kept-small n o u.quality limited a few.quality))))

mixed_least-small : (n : Net) (u : Limit) → IsLimited n → IsFewLimit n u → IsSmallRow n (mixed_least_row n u)
mixed_least-small n u limited few =
    let limit = limit_parts n u in
    let small = limit_parts-few n limited u few.limit in
    by_kind n (mixed_least_row n u).coefs (λ e h. nothing) (λ o h. small_when (n.out_product o) u.product (neg_ℤ limit) (turned limit small))
    (λ e h. small_when (n.direct_product e) u.product (way_quality n (straight e) u.quality -ℤ limit)
    (apart (way_quality n (straight e) u.quality) limit (direct_quality-few n limited e u.quality h few.quality) small))
    (λ q h. nothing) (λ e h. nothing) (λ l k a b. nothing)
    (λ o k a b. let kept = pos (n.retained (n.out_pool o) u.quality) in
    small_when k u.quality (when (n.out_product o) u.product kept) (small_when (n.out_product o) u.product kept (widen kept (kept-small n o u.quality limited a few.quality))))

quality_envelope-small : (n : Net) (b : Box) (o k number : ℕ) → IsLimited n → IsProper n b → o < n.outs → k < n.qualities → IsSmallRow n (quality_envelope_row n b o k number)
quality_envelope-small n b o k number limited proper ho hk =
    let e = quality_ends n b o k in
    let s = side number (pos 1) e in
    let place : qual_number n (n.out_pool o) k < coords n = omega (arith, grid-below n.pools n.qualities (n.out_pool o) k (limited.out_pools o ho) hk) in
    let small = side-small number (pos 1) e (omega arith) (ends-near n b limited proper (qual_number n (n.out_pool o) k) place) (ends-near n b limited proper (flow_number n o) (omega arith)) in
    by_kind n (quality_envelope_row n b o k number).coefs (λ f h. nothing) (λ f h. small_when f o s.of_b small.b) (λ f h. nothing) (λ q h. nothing) (λ f h. nothing)
    (λ l h a c. small_when h k (when l (n.out_pool o) s.of_a) (small_when l (n.out_pool o) s.of_a small.a)) (λ f h a c. small_when h k (when f o s.of_w) (small_when f o s.of_w small.w))

p-small : (n : Net) (b : Box) → IsLimited n → IsProper n b → HoldsOfEach (IsSmallRow n) (p_families n b)
p-small n b limited proper = (
  λ i lt. by_kind n (mixing_row n (i / n.qualities) (i % n.qualities)).coefs
      (λ e h. small_when (n.feed_pool e) (i / n.qualities) (n.source_quality (n.feed_source e) (i % n.qualities))
      (from_few (n.source_quality (n.feed_source e) (i % n.qualities)) (quality-few n e (i % n.qualities) limited h (grid-column n.pools n.qualities i lt))))
      (λ o h. nothing) (λ e h. nothing) (λ q h. nothing) (λ e h. nothing) (λ l k a c. nothing)
      (λ o k a c. small_when k (i % n.qualities) (when (n.out_pool o) (i / n.qualities) (neg_ℤ (pos 1))) (small_when (n.out_pool o) (i / n.qualities) (neg_ℤ (pos 1)) less_one)),
  (
    λ i lt. mixed_most-small n (get_or (most_limits n) i no_limit) limited (limit-few n n.most limited.most_limits i lt),
    (
      λ i lt. mixed_least-small n (get_or (least_limits n) i no_limit) limited (limit-few n n.least limited.least_limits i lt),
      (
        λ i lt. quality_envelope-small n b (i / (n.qualities * 4)) (i % (n.qualities * 4) / 4) (i % 4 + 1) limited proper
            (grid-row n.outs (n.qualities * 4) i lt) (quarter (i % (n.qualities * 4)) n.qualities (grid-column n.outs (n.qualities * 4) i lt)),
        tt,
      ),
    ),
  ),
)
  where
    from_few : (z : ℤ) → unsigned_abs z ≤ 10 ^ 12 → IsSmall z
    from_few z h = omega arith

    quarter : (i m : ℕ) → i < m * 4 → i / 4 < m
    quarter i m h = grid-row m 4 i h

path_most-small : (n : Net) (u : Limit) → IsLimited n → IsFewLimit n u → IsSmallRow n (path_most_row n u)
path_most-small n u limited few =
    let limit = limit_parts n u in
    let small = limit_parts-few n limited u few.limit in
    by_kind n (path_most_row n u).coefs (λ e h. nothing) (λ o h. small_when (n.out_product o) u.product limit (widen limit small))
    (λ e h. small_when (n.direct_product e) u.product (limit -ℤ way_quality n (straight e) u.quality)
    (apart limit (way_quality n (straight e) u.quality) small (direct_quality-few n limited e u.quality h few.quality)))
    (λ q h. small_when (n.out_product (path_out n q)) u.product (neg_ℤ (path_quality n q u.quality))
    (turned (path_quality n q u.quality) (path_quality-few n limited q u.quality h few.quality)))
    (λ e h. nothing) (λ l k a b. nothing) (λ o k a b. nothing)

path_least-small : (n : Net) (u : Limit) → IsLimited n → IsFewLimit n u → IsSmallRow n (path_least_row n u)
path_least-small n u limited few =
    let limit = limit_parts n u in
    let small = limit_parts-few n limited u few.limit in
    by_kind n (path_least_row n u).coefs (λ e h. nothing) (λ o h. small_when (n.out_product o) u.product (neg_ℤ limit) (turned limit small))
    (λ e h. small_when (n.direct_product e) u.product (way_quality n (straight e) u.quality -ℤ limit)
    (apart (way_quality n (straight e) u.quality) limit (direct_quality-few n limited e u.quality h few.quality) small))
    (λ q h. small_when (n.out_product (path_out n q)) u.product (path_quality n q u.quality)
    (widen (path_quality n q u.quality) (path_quality-few n limited q u.quality h few.quality)))
    (λ e h. nothing) (λ l k a b. nothing) (λ o k a b. nothing)

proportion_envelope-small : (n : Net) (b : Box) (p number : ℕ) → IsLimited n → IsProper n b → p < path_count n → IsSmallRow n (proportion_envelope_row n b p number)
proportion_envelope-small n b p number limited proper lt =
    let e = proportion_ends n b p in
    let s = side number (pos 1048576) e in
    let feed = path_feed-below n p lt in
    let out = path_out-below n p lt in
    let small = side-small number (pos 1048576) e (omega arith) (ends-near n b limited proper (prop_number n (path_feed n p)) (omega arith))
    (ends-near n b limited proper (flow_number n (path_out n p)) (omega arith)) in
    by_kind n (proportion_envelope_row n b p number).coefs (λ f h. nothing) (λ o h. small_when o (path_out n p) s.of_b small.b) (λ f h. nothing) (λ q h. small_when q p s.of_w small.w)
    (λ f h. small_when f (path_feed n p) s.of_a small.a) (λ l k a c. nothing) (λ o k a c. nothing)

q-small : (n : Net) (b : Box) → IsLimited n → IsProper n b → HoldsOfEach (IsSmallRow n) (q_families n b)
q-small n b limited proper = (
  λ l lt. by_kind n (proportions_row n l).coefs (λ e h. nothing) (λ o h. nothing) (λ e h. nothing) (λ q h. nothing)
      (λ e h. small_when (n.feed_pool e) l (pos 1) one) (λ p k a c. nothing) (λ o k a c. nothing),
  (
    λ e lt. by_kind n (feed_row n e).coefs (λ f h. small_when f e (pos 1) one) (λ o h. nothing) (λ f h. nothing)
        (λ q h. small_when (path_feed n q) e (neg_ℤ (pos 1)) less_one) (λ f h. nothing) (λ p k a c. nothing) (λ o k a c. nothing),
    (
      λ i lt. path_most-small n (get_or (most_limits n) i no_limit) limited (limit-few n n.most limited.most_limits i lt),
      (
        λ i lt. path_least-small n (get_or (least_limits n) i no_limit) limited (limit-few n n.least limited.least_limits i lt),
        (
          λ i lt. proportion_envelope-small n b (i / 4) (i % 4 + 1) limited proper (grid-row (path_count n) 4 i lt),
          tt,
        ),
      ),
    ),
  ),
)

further-small : (n : Net) → IsLimited n → HoldsOfEach (IsSmallRow n) (pq_families n)
further-small n limited = (
  λ o lt. by_kind n (out_row n o).coefs (λ e h. nothing) (λ f h. small_when f o (neg_ℤ (pos 1)) less_one) (λ e h. nothing)
      (λ q h. small_when (path_out n q) o (pos 1) one) (λ e h. nothing) (λ p k a c. nothing) (λ f k a c. nothing),
  (
    λ e lt. by_kind n (share_row n e).coefs (λ f h. nothing) (λ o h. nothing) (λ f h. nothing) (λ q h. small_when (path_feed n q) e (neg_ℤ (pos 1048576)) (omega arith))
        (λ f h. small_when f e (pos (n.pool_max (n.feed_pool e))) (widen (pos (n.pool_max (n.feed_pool e))) (limited.pool_maxima (n.feed_pool e) (limited.feed_pools e lt)))) (λ p k a c. nothing) (λ o k a c. nothing),
    tt,
  ),
)

-- ---- every row

pub coef-small : (n : Net) (b : Box) (id : ℕ) → IsLimited n → IsProper n b → id < rows n → (v : ℕ) → v < variables n → unsigned_abs (by_number n (row_at n b id).coefs v) < 2 ^ 48
coef-small n b id limited proper lt v hv =
    let each = each-append (IsSmallRow n) (network_families n) (p_families n b ++ (q_families n b ++ pq_families n)) (network-small n)
    (each-append (IsSmallRow n) (p_families n b) (q_families n b ++ pq_families n) (p-small n b limited proper)
    (each-append (IsSmallRow n) (q_families n b) (pq_families n) (q-small n b limited proper) (further-small n limited))) in
    let row = each_row (IsSmallRow n) (catalogue n b) each id lt in
    let small = by_number-each n (λ x y. IsSmall x) (row_at n b id).coefs (row_at n b id).coefs row v hv in
    omega (arith, small)

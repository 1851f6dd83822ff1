-- How large the coefficients of a row are, kind by kind of variable, and its constant; and how large the ends of each kind are.
use Rattle.std.proofs.Common.{◌≡◌, ℕ, ◌+◌, ◌*◌, ◌/◌, ◌%◌, ◌^◌, ◌<◌, ◌≤◌, min, max, Bool, true, false, ◌==◌, if◌then◌else◌, ◌++◌, length, List, [], ◌∷◌, get_or, Option, Some, ℤ, pos, neg_ℤ, ◌-ℤ◌, ◌*ℤ◌, unsigned_abs, arith}
use Rattle.std.specs.Int.{int_min, int_max}
use Rattle.std.proofs.Math.Nat.{mul-le-mul}
use Rattle.std.proofs.lemmas.Int.{ints, clamps}
use Rattle.std.proofs.lemmas.List.Elements.{All-get_or}
use Rattle.integers.proofs.Grids.{grid-below, grid-row, grid-column}
use Rattle.integers.proofs.Order.{abs-mul-le}
use Rattle.pool_model.specs.Limits.{Limit, limits, no_limit, most_limits, least_limits}
use Rattle.pool_model.proofs.Limits.{IsSet, limits-set}
use Rattle.pool_model.proofs.Capped.{capped-le}
use Rattle.pool_model.specs.Network.{Net, IsLimited, IsWithin, capped}
use Rattle.pool_model.specs.Starting.{straight, way_quality}
use Rattle.row_model.specs.Boxes.{Box, coords, IsProper, prop_number, qual_number, flow_number}
use Rattle.row_model.specs.Catalogue.{Family, Row, when, rows, row_at, catalogue, network_families, p_families, q_families, pq_families, quality_ends, proportion_ends, limit_parts, path_quality, mixing_row, mixed_most_row, mixed_least_row, quality_envelope_row, proportions_row, feed_row, path_most_row, path_least_row, proportion_envelope_row, HoldsOfEach}
use Rattle.row_model.specs.Envelopes.{Ends, Side, side}
use Rattle.row_model.specs.Variables.{PerVariable, path_count, path_feed, path_out, variables, by_number, lows, highs}
use Rattle.row_model.proofs.Numbering.{HoldsByKind, by_number-each}
use Rattle.row_model.proofs.PathSums.{path_feed-below, path_out-below}
use Rattle.row_model.proofs.Families.{each_row, each-append}
use Rattle.row_book.proofs.NearEnds.{AreNear, ends-near}

-- the greatest size of a coefficient of each kind of variable
abbrev pub caps : PerVariable
caps = record {
  x = λ e. pos (10 ^ 11);
  y = λ o. pos (10 ^ 14);
  z = λ e. pos (2 * 10 ^ 14);
  w = λ q. pos (10 ^ 14);
  proportion = λ e. pos (10 ^ 14);
  quality = λ l k. pos (10 ^ 12);
  mixed = λ o k. pos 1000;
}

-- the same in rows that set no limit on a product's quality
abbrev pub low_caps : PerVariable
low_caps = record {
  x = λ e. pos (10 ^ 11);
  y = λ o. pos (10 ^ 12);
  z = λ e. pos (10 ^ 12);
  w = λ q. pos (10 ^ 11);
  proportion = λ e. pos (10 ^ 14);
  quality = λ l k. pos (10 ^ 12);
  mixed = λ o k. pos 1;
}

abbrev pub IsNoLarger : ℤ → ℤ → Type 0
IsNoLarger z most = unsigned_abs z ≤ unsigned_abs most

-- a row's coefficients are no larger than these, and its constant is at most 10^24
pub record IsCapped (n : Net) (most : PerVariable) (r : Row) : Type 0 where
  pub coefs : HoldsByKind n IsNoLarger r.coefs most
  pub constant : unsigned_abs r.constant ≤ 10 ^ 24

-- a row with low coefficients is one with coefficients that are no larger than any row's
widened : (n : Net) (r : Row) → IsCapped n low_caps r → IsCapped n caps r
widened n r h = record {
  coefs = record {
    x = λ e lt. h.coefs.x e lt;
    y = λ o lt. let le = h.coefs.y o lt in omega (arith, le);
    z = λ e lt. let le = h.coefs.z e lt in omega (arith, le);
    w = λ q lt. let le = h.coefs.w q lt in omega (arith, le);
    proportion = λ e lt. h.coefs.proportion e lt;
    quality = λ l k lt lk. h.coefs.quality l k lt lk;
    mixed = λ o k lt lk. let le = h.coefs.mixed o k lt lk in omega (arith, le);
  };
  constant = h.constant;
}

-- ---- sizes

cap_if : (test : Bool) (c : ℤ) (k : ℕ) → unsigned_abs c ≤ k → unsigned_abs (if test then c else pos 0) ≤ k
cap_if true c k h = h
cap_if false c k h = omega arith

cap_when : (i j : ℕ) (c : ℤ) (k : ℕ) → unsigned_abs c ≤ k → unsigned_abs (when i j c) ≤ k
cap_when i j c k h = cap_if (i == j) c k h

pub size-neg : (z : ℤ) (k : ℕ) → unsigned_abs z ≤ k → unsigned_abs (neg_ℤ z) ≤ k
size-neg z k h = omega (arith, ints)

size-within : (size : ℕ) (z : ℤ) → IsWithin size z → unsigned_abs z ≤ size
size-within size z (low, high) = omega (arith, ints)

size-less : (a b : ℤ) → unsigned_abs a ≤ 10 ^ 14 → unsigned_abs b ≤ 10 ^ 14 → unsigned_abs (a -ℤ b) ≤ 2 * 10 ^ 14
size-less a b h k = omega (arith, ints)

size-parts : (parts : ℕ) (z : ℤ) → parts ≤ 1000 → unsigned_abs z ≤ 10 ^ 11 → unsigned_abs (pos parts *ℤ z) ≤ 10 ^ 14
size-parts parts z h k = omega (arith, abs-mul-le (pos parts) z 1000 (10 ^ 11) h k)

wider : (z : ℤ) (a b : ℕ) → a ≤ b → unsigned_abs z ≤ a → unsigned_abs z ≤ b
wider z a b le h = omega arith

no-x : (n : Net) (e : ℕ) → e < n.feeds → IsNoLarger (pos 0) (pos (10 ^ 11))
no-x n e h = omega arith

no-y : (n : Net) (o : ℕ) → o < n.outs → IsNoLarger (pos 0) (pos (10 ^ 12))
no-y n o h = omega arith

no-z : (n : Net) (e : ℕ) → e < n.directs → IsNoLarger (pos 0) (pos (10 ^ 12))
no-z n e h = omega arith

no-w : (n : Net) (q : ℕ) → q < path_count n → IsNoLarger (pos 0) (pos (10 ^ 11))
no-w n q h = omega arith

no-proportion : (n : Net) (e : ℕ) → e < n.feeds → IsNoLarger (pos 0) (pos (10 ^ 14))
no-proportion n e h = omega arith

no-quality : (n : Net) (l k : ℕ) → l < n.pools → k < n.qualities → IsNoLarger (pos 0) (pos (10 ^ 12))
no-quality n l k h j = omega arith

no-mixed : (n : Net) (o k : ℕ) → o < n.outs → k < n.qualities → IsNoLarger (pos 0) (pos 1)
no-mixed n o k h j = omega arith

-- ---- sides of envelopes

record IsCappedSide (k : ℕ) (s : Side) : Type 0 where
  w : unsigned_abs s.of_w ≤ k
  a : unsigned_abs s.of_a ≤ 10 ^ 12
  b : unsigned_abs s.of_b ≤ 10 ^ 12
  constant : unsigned_abs s.constant ≤ 10 ^ 24

side_if : (k : ℕ) (test : Bool) (s t : Side) → IsCappedSide k s → IsCappedSide k t → IsCappedSide k (if test then s else t)
side_if k true s t h g = h
side_if k false s t h g = g

side-capped : (number k : ℕ) (scale : ℤ) (e : Ends) → unsigned_abs scale ≤ k → AreNear e.a_low e.a_high → AreNear e.b_low e.b_high → IsCappedSide k (side number scale e)
side-capped number k scale e h a b =
    side_if k (number == 1) _ _ record { w = h; a = size-neg e.b_low (10 ^ 12) b.low; b = size-neg e.a_low (10 ^ 12) a.low; constant = square e.a_low e.b_low a.low b.low }
    (side_if k (number == 2) _ _ record { w = h; a = size-neg e.b_high (10 ^ 12) b.high; b = size-neg e.a_high (10 ^ 12) a.high; constant = square e.a_high e.b_high a.high b.high }
    (side_if k (number == 3) _ _ record { w = size-neg scale k h; a = b.low; b = a.high; constant = size-neg (e.a_high *ℤ e.b_low) (10 ^ 24) (square e.a_high e.b_low a.high b.low) }
    record { w = size-neg scale k h; a = b.high; b = a.low; constant = size-neg (e.a_low *ℤ e.b_high) (10 ^ 24) (square e.a_low e.b_high a.low b.high) }))
  where
    square : (x y : ℤ) → unsigned_abs x ≤ 10 ^ 12 → unsigned_abs y ≤ 10 ^ 12 → unsigned_abs (x *ℤ y) ≤ 10 ^ 24
    square x y h k = abs-mul-le x y (10 ^ 12) (10 ^ 12) h k

-- ---- limits

pub record IsFewLimit (n : Net) (u : Limit) : Type 0 where
  pub product : u.product < n.products
  pub quality : u.quality < n.qualities
  pub limit : unsigned_abs (limit_parts n u) ≤ 10 ^ 14

limit-few : (n : Net) (limit : ℕ → ℕ → Option ℤ) → IsLimited n → ((j k : ℕ) (u : ℤ) → j < n.products → k < n.qualities → limit j k ≡ Some u → IsWithin (10 ^ 11) u)
    → (i : ℕ) → i < length (limits limit n.products n.qualities) → IsFewLimit n (get_or (limits limit n.products n.qualities) i no_limit)
limit-few n limit limited each i lt =
    let u = get_or (limits limit n.products n.qualities) i no_limit in
    let is = All-get_or (IsSet limit n.products n.qualities) (limits limit n.products n.qualities) i no_limit lt (limits-set limit n.products n.qualities) in
    record { product = is.product; quality = is.quality; limit = size-parts n.scale u.limit limited.scale.1 (size-within (10 ^ 11) u.limit (each u.product u.quality u.limit is.product is.quality is.set)) }

-- ---- rows, family by family

-- what pools retain, and what ways bring, in parts of the scale
pub retained-few : (n : Net) (o k : ℕ) → IsLimited n → o < n.outs → k < n.qualities → n.retained (n.out_pool o) k ≤ 1000
retained-few n o k limited lt hk = omega (arith, limited.shares_retained (n.out_pool o) k (limited.out_pools o lt) hk, limited.scale.1)

pub path_quality-few : (n : Net) (q k : ℕ) → IsLimited n → q < path_count n → k < n.qualities → unsigned_abs (path_quality n q k) ≤ 10 ^ 14
path_quality-few n q k limited lt hk =
    let e = path_feed n q in
    size-parts (n.retained (n.out_pool (path_out n q)) k) (n.source_quality (n.feed_source e) k) (retained-few n (path_out n q) k limited (path_out-below n q lt) hk)
    (size-within (10 ^ 11) (n.source_quality (n.feed_source e) k) (limited.source_qualities (n.feed_source e) k (limited.feed_sources e (path_feed-below n q lt)) hk))

direct-few : (n : Net) (e k : ℕ) → IsLimited n → e < n.directs → k < n.qualities → unsigned_abs (way_quality n (straight e) k) ≤ 10 ^ 14
direct-few n e k limited lt hk =
    size-parts n.scale (n.source_quality (n.direct_source e) k) limited.scale.1
    (size-within (10 ^ 11) (n.source_quality (n.direct_source e) k) (limited.source_qualities (n.direct_source e) k (limited.direct_sources e lt) hk))

-- the room of a direct below a limit, and what it has above one
pub room-few : (n : Net) (u : Limit) (e : ℕ) → IsLimited n → IsFewLimit n u → e < n.directs → unsigned_abs (limit_parts n u -ℤ way_quality n (straight e) u.quality) ≤ 2 * 10 ^ 14
room-few n u e limited few lt = size-less (limit_parts n u) (way_quality n (straight e) u.quality) few.limit (direct-few n e u.quality limited lt few.quality)

pub excess-few : (n : Net) (u : Limit) (e : ℕ) → IsLimited n → IsFewLimit n u → e < n.directs → unsigned_abs (way_quality n (straight e) u.quality -ℤ limit_parts n u) ≤ 2 * 10 ^ 14
excess-few n u e limited few lt = size-less (way_quality n (straight e) u.quality) (limit_parts n u) (direct-few n e u.quality limited lt few.quality) few.limit

each-weaker : (P Q : Row → Type 0) → ((r : Row) → P r → Q r) → (fs : List Family) → HoldsOfEach P fs → HoldsOfEach Q fs
each-weaker P Q f [] h = tt
each-weaker P Q f (g ∷ fs) h = (λ i lt. f (g.row i) (h.0 i lt), each-weaker P Q f fs h.1)

module _ (n : Net) (b : Box) (limited : IsLimited n) (proper : IsProper n b) where
  feed-few : (e k : ℕ) → e < n.feeds → k < n.qualities → unsigned_abs (n.source_quality (n.feed_source e) k) ≤ 10 ^ 11
  feed-few e k lt hk = size-within (10 ^ 11) (n.source_quality (n.feed_source e) k) (limited.source_qualities (n.feed_source e) k (limited.feed_sources e lt) hk)

  network-capped : HoldsOfEach (IsCapped n low_caps) (network_families n)
  network-capped = (
    λ i lt. record {
      coefs = record {
        y = no-y n;
        w = no-w n;
        proportion = no-proportion n;
        quality = no-quality n;
        mixed = no-mixed n;
        x = λ e h. cap_when (n.feed_source e) i (neg_ℤ (pos 1)) (10 ^ 11) (omega arith);
        z = λ e h. cap_when (n.direct_source e) i (neg_ℤ (pos 1)) (10 ^ 12) (omega arith);
      };
      constant = omega (arith, limited.source_maxima i lt);
    },
    (
      λ l lt. record {
        coefs = record {
          z = no-z n;
          w = no-w n;
          proportion = no-proportion n;
          quality = no-quality n;
          mixed = no-mixed n;
          x = λ e h. cap_when (n.feed_pool e) l (pos 1) (10 ^ 11) (omega arith);
          y = λ o h. cap_when (n.out_pool o) l (neg_ℤ (pos 1)) (10 ^ 12) (omega arith);
        };
        constant = omega arith;
      },
      (
        λ l lt. record {
          coefs = record { x = no-x n; z = no-z n; w = no-w n; proportion = no-proportion n; quality = no-quality n; mixed = no-mixed n; y = λ o h. cap_when (n.out_pool o) l (neg_ℤ (pos 1)) (10 ^ 12) (omega arith) };
          constant = omega (arith, limited.pool_maxima l lt);
        },
        (
          λ j lt. record {
            coefs = record {
              x = no-x n;
              w = no-w n;
              proportion = no-proportion n;
              quality = no-quality n;
              mixed = no-mixed n;
              y = λ o h. cap_when (n.out_product o) j (neg_ℤ (pos 1)) (10 ^ 12) (omega arith);
              z = λ e h. cap_when (n.direct_product e) j (neg_ℤ (pos 1)) (10 ^ 12) (omega arith);
            };
            constant = omega (arith, limited.product_maxima j lt);
          },
          (
            λ j lt. record {
              coefs = record {
                x = no-x n;
                w = no-w n;
                proportion = no-proportion n;
                quality = no-quality n;
                mixed = no-mixed n;
                y = λ o h. cap_when (n.out_product o) j (pos 1) (10 ^ 12) (omega arith);
                z = λ e h. cap_when (n.direct_product e) j (pos 1) (10 ^ 12) (omega arith);
              };
              constant = size-neg (pos (n.product_min j)) (10 ^ 24) (omega (arith, limited.product_maxima j lt, limited.product_minima j lt));
            },
            tt,
          ),
        ),
      ),
    ),
  )

  quarter : (i m : ℕ) → i < m * 4 → i / 4 < m
  quarter i m h = grid-row m 4 i h

  quality-side : (o k number : ℕ) → o < n.outs → k < n.qualities → IsCappedSide 1 (side number (pos 1) (quality_ends n b o k))
  quality-side o k number ho hk =
      let place : qual_number n (n.out_pool o) k < coords n = omega (arith, grid-below n.pools n.qualities (n.out_pool o) k (limited.out_pools o ho) hk) in
      side-capped number 1 (pos 1) (quality_ends n b o k) (omega arith) (ends-near n b limited proper (qual_number n (n.out_pool o) k) place) (ends-near n b limited proper (flow_number n o) (omega arith))

  proportion-side : (q number : ℕ) → q < path_count n → IsCappedSide 1048576 (side number (pos 1048576) (proportion_ends n b q))
  proportion-side q number lt =
      let feed = path_feed-below n q lt in
      let out = path_out-below n q lt in
      side-capped number 1048576 (pos 1048576) (proportion_ends n b q) (omega arith) (ends-near n b limited proper (prop_number n (path_feed n q)) (omega arith))
      (ends-near n b limited proper (flow_number n (path_out n q)) (omega arith))

  most-few : (i : ℕ) → i < length (most_limits n) → IsFewLimit n (get_or (most_limits n) i no_limit)
  most-few i lt = limit-few n n.most limited limited.most_limits i lt

  least-few : (i : ℕ) → i < length (least_limits n) → IsFewLimit n (get_or (least_limits n) i no_limit)
  least-few i lt = limit-few n n.least limited limited.least_limits i lt

  -- ---- rows of limits: what pools retain, in parts of the scale

  mixed_when : (k o : ℕ) (u : Limit) (kept : ℤ) → unsigned_abs kept ≤ 1000 → unsigned_abs (when k u.quality (when (n.out_product o) u.product kept)) ≤ 1000
  mixed_when k o u kept h = cap_when k u.quality (when (n.out_product o) u.product kept) 1000 (cap_when (n.out_product o) u.product kept 1000 h)

  mixed_most-capped : (u : Limit) → IsFewLimit n u → IsCapped n caps (mixed_most_row n u)
  mixed_most-capped u few = record {
    coefs = record {
      x = no-x n;
      w = λ q h. omega arith;
      proportion = no-proportion n;
      quality = no-quality n;
      y = λ o h. cap_when (n.out_product o) u.product (limit_parts n u) (10 ^ 14) few.limit;
      z = λ e h. cap_when (n.direct_product e) u.product (limit_parts n u -ℤ way_quality n (straight e) u.quality) (2 * 10 ^ 14) (room-few n u e limited few h);
      mixed = λ o k h j. mixed_when k o u (neg_ℤ (pos (n.retained (n.out_pool o) u.quality))) (size-neg (pos (n.retained (n.out_pool o) u.quality)) 1000 (retained-few n o u.quality limited h few.quality));
    };
    constant = omega arith;
  }

  mixed_least-capped : (u : Limit) → IsFewLimit n u → IsCapped n caps (mixed_least_row n u)
  mixed_least-capped u few = record {
    coefs = record {
      x = no-x n;
      w = λ q h. omega arith;
      proportion = no-proportion n;
      quality = no-quality n;
      y = λ o h. cap_when (n.out_product o) u.product (neg_ℤ (limit_parts n u)) (10 ^ 14) (size-neg (limit_parts n u) (10 ^ 14) few.limit);
      z = λ e h. cap_when (n.direct_product e) u.product (way_quality n (straight e) u.quality -ℤ limit_parts n u) (2 * 10 ^ 14) (excess-few n u e limited few h);
      mixed = λ o k h j. mixed_when k o u (pos (n.retained (n.out_pool o) u.quality)) (retained-few n o u.quality limited h few.quality);
    };
    constant = omega arith;
  }

  path_most-capped : (u : Limit) → IsFewLimit n u → IsCapped n caps (path_most_row n u)
  path_most-capped u few = record {
    coefs = record {
      x = no-x n;
      proportion = no-proportion n;
      quality = no-quality n;
      mixed = λ o k h j. omega arith;
      y = λ o h. cap_when (n.out_product o) u.product (limit_parts n u) (10 ^ 14) few.limit;
      z = λ e h. cap_when (n.direct_product e) u.product (limit_parts n u -ℤ way_quality n (straight e) u.quality) (2 * 10 ^ 14) (room-few n u e limited few h);
      w = λ q h. cap_when (n.out_product (path_out n q)) u.product (neg_ℤ (path_quality n q u.quality)) (10 ^ 14)
          (size-neg (path_quality n q u.quality) (10 ^ 14) (path_quality-few n q u.quality limited h few.quality));
    };
    constant = omega arith;
  }

  path_least-capped : (u : Limit) → IsFewLimit n u → IsCapped n caps (path_least_row n u)
  path_least-capped u few = record {
    coefs = record {
      x = no-x n;
      proportion = no-proportion n;
      quality = no-quality n;
      mixed = λ o k h j. omega arith;
      y = λ o h. cap_when (n.out_product o) u.product (neg_ℤ (limit_parts n u)) (10 ^ 14) (size-neg (limit_parts n u) (10 ^ 14) few.limit);
      z = λ e h. cap_when (n.direct_product e) u.product (way_quality n (straight e) u.quality -ℤ limit_parts n u) (2 * 10 ^ 14) (excess-few n u e limited few h);
      w = λ q h. cap_when (n.out_product (path_out n q)) u.product (path_quality n q u.quality) (10 ^ 14) (path_quality-few n q u.quality limited h few.quality);
    };
    constant = omega arith;
  }

  -- ---- the other rows of P and Q

  mixing-capped : (i : ℕ) → i < n.pools * n.qualities → IsCapped n low_caps (mixing_row n (i / n.qualities) (i % n.qualities))
  mixing-capped i lt = record {
    coefs = record {
      y = no-y n;
      z = no-z n;
      w = no-w n;
      proportion = no-proportion n;
      quality = no-quality n;
      x = λ e h. cap_when (n.feed_pool e) (i / n.qualities) (n.source_quality (n.feed_source e) (i % n.qualities)) (10 ^ 11) (feed-few e (i % n.qualities) h (grid-column n.pools n.qualities i lt));
      mixed = λ o k h j. cap_when k (i % n.qualities) (when (n.out_pool o) (i / n.qualities) (neg_ℤ (pos 1))) 1 (cap_when (n.out_pool o) (i / n.qualities) (neg_ℤ (pos 1)) 1 (omega arith));
    };
    constant = omega arith;
  }

  quality_envelope-capped : (i : ℕ) → i < n.outs * (n.qualities * 4)
      → IsCapped n low_caps (quality_envelope_row n b (i / (n.qualities * 4)) (i % (n.qualities * 4) / 4) (i % 4 + 1))
  quality_envelope-capped i lt =
      let o = i / (n.qualities * 4) in
      let k = i % (n.qualities * 4) / 4 in
      let number = i % 4 + 1 in
      let s = side number (pos 1) (quality_ends n b o k) in
      let c = quality-side o k number (grid-row n.outs (n.qualities * 4) i lt) (quarter (i % (n.qualities * 4)) n.qualities (grid-column n.outs (n.qualities * 4) i lt)) in
      record {
        coefs = record {
          x = no-x n;
          z = no-z n;
          w = no-w n;
          proportion = no-proportion n;
          y = λ f h. cap_when f o s.of_b (10 ^ 12) c.b;
          quality = λ l h lh hh. cap_when h k (when l (n.out_pool o) s.of_a) (10 ^ 12) (cap_when l (n.out_pool o) s.of_a (10 ^ 12) c.a);
          mixed = λ f h lf hh. cap_when h k (when f o s.of_w) 1 (cap_when f o s.of_w 1 c.w);
        };
        constant = c.constant;
      }

  proportions-capped : (l : ℕ) → l < n.pools → IsCapped n low_caps (proportions_row n l)
  proportions-capped l lt = record {
    coefs = record { x = no-x n; y = no-y n; z = no-z n; w = no-w n; quality = no-quality n; mixed = no-mixed n; proportion = λ e h. cap_when (n.feed_pool e) l (pos 1) (10 ^ 14) (omega arith) };
    constant = omega arith;
  }

  feed-capped : (e : ℕ) → e < n.feeds → IsCapped n low_caps (feed_row n e)
  feed-capped e lt = record {
    coefs = record {
      y = no-y n;
      z = no-z n;
      proportion = no-proportion n;
      quality = no-quality n;
      mixed = no-mixed n;
      x = λ f h. cap_when f e (pos 1) (10 ^ 11) (omega arith);
      w = λ q h. cap_when (path_feed n q) e (neg_ℤ (pos 1)) (10 ^ 11) (omega arith);
    };
    constant = omega arith;
  }

  proportion_envelope-capped : (i : ℕ) → i < path_count n * 4 → IsCapped n low_caps (proportion_envelope_row n b (i / 4) (i % 4 + 1))
  proportion_envelope-capped i lt =
      let q = i / 4 in
      let number = i % 4 + 1 in
      let s = side number (pos 1048576) (proportion_ends n b q) in
      let c = proportion-side q number (grid-row (path_count n) 4 i lt) in
      record {
        coefs = record {
          x = no-x n;
          z = no-z n;
          quality = no-quality n;
          mixed = no-mixed n;
          y = λ o h. cap_when o (path_out n q) s.of_b (10 ^ 12) c.b;
          w = λ r h. cap_when r q s.of_w (10 ^ 11) (wider s.of_w 1048576 (10 ^ 11) (omega arith) c.w);
          proportion = λ e h. cap_when e (path_feed n q) s.of_a (10 ^ 14) (wider s.of_a (10 ^ 12) (10 ^ 14) (omega arith) c.a);
        };
        constant = c.constant;
      }

  further-capped : HoldsOfEach (IsCapped n low_caps) (pq_families n)
  further-capped = (
    λ o lt. record {
      coefs = record {
        x = no-x n;
        z = no-z n;
        proportion = no-proportion n;
        quality = no-quality n;
        mixed = no-mixed n;
        y = λ f h. cap_when f o (neg_ℤ (pos 1)) (10 ^ 12) (omega arith);
        w = λ q h. cap_when (path_out n q) o (pos 1) (10 ^ 11) (omega arith);
      };
      constant = omega arith;
    },
    (
      λ e lt. record {
        coefs = record {
          x = no-x n;
          y = no-y n;
          z = no-z n;
          quality = no-quality n;
          mixed = no-mixed n;
          w = λ q h. cap_when (path_feed n q) e (neg_ℤ (pos 1048576)) (10 ^ 11) (omega arith);
          proportion = λ f h. cap_when f e (pos (n.pool_max (n.feed_pool e))) (10 ^ 14) (limited.pool_maxima (n.feed_pool e) (limited.feed_pools e lt));
        };
        constant = omega arith;
      },
      tt,
    ),
  )

  -- what holds of rows with low coefficients and of rows of limits holds of every row
  pub each-row : (P : Row → Type 0) → ((r : Row) → IsCapped n low_caps r → P r) → ((u : Limit) → IsFewLimit n u → P (mixed_most_row n u)) → ((u : Limit) → IsFewLimit n u → P (mixed_least_row n u))
      → ((u : Limit) → IsFewLimit n u → P (path_most_row n u)) → ((u : Limit) → IsFewLimit n u → P (path_least_row n u)) → (id : ℕ) → id < rows n → P (row_at n b id)
  each-row P low mixed_most mixed_least path_most path_least id lt =
      let of_p : HoldsOfEach P (p_families n b) = (
        λ i h. low (mixing_row n (i / n.qualities) (i % n.qualities)) (mixing-capped i h),
        (
          λ i h. mixed_most (get_or (most_limits n) i no_limit) (most-few i h),
          (
            λ i h. mixed_least (get_or (least_limits n) i no_limit) (least-few i h),
            (λ i h. low (quality_envelope_row n b (i / (n.qualities * 4)) (i % (n.qualities * 4) / 4) (i % 4 + 1)) (quality_envelope-capped i h), tt),
          ),
        ),
      ) in
      let of_q : HoldsOfEach P (q_families n b) = (
        λ l h. low (proportions_row n l) (proportions-capped l h),
        (
          λ e h. low (feed_row n e) (feed-capped e h),
          (
            λ i h. path_most (get_or (most_limits n) i no_limit) (most-few i h),
            (
              λ i h. path_least (get_or (least_limits n) i no_limit) (least-few i h),
              (λ i h. low (proportion_envelope_row n b (i / 4) (i % 4 + 1)) (proportion_envelope-capped i h), tt),
            ),
          ),
        ),
      ) in
      each_row P (catalogue n b)
      (each-append P (network_families n) (p_families n b ++ (q_families n b ++ pq_families n)) (each-weaker (IsCapped n low_caps) P low (network_families n) network-capped)
      (each-append P (p_families n b) (q_families n b ++ pq_families n) of_p
      (each-append P (q_families n b) (pq_families n) of_q (each-weaker (IsCapped n low_caps) P low (pq_families n) further-capped)))) id lt

  pub row-capped : (id : ℕ) → id < rows n → IsCapped n caps (row_at n b id)
  row-capped = each-row (IsCapped n caps) (widened n) mixed_most-capped mixed_least-capped path_most-capped path_least-capped

-- ---- ends

-- the greatest size of an end of each kind of variable
abbrev pub end_caps : PerVariable
end_caps = record {
  x = λ e. pos (10 ^ 14);
  y = λ o. pos (10 ^ 12);
  z = λ e. pos (10 ^ 14);
  w = λ q. pos (10 ^ 14);
  proportion = λ e. pos (10 ^ 12);
  quality = λ l k. pos (10 ^ 12);
  mixed = λ o k. pos (10 ^ 24);
}

four : (a b c d : ℤ) (k : ℕ) → unsigned_abs a ≤ k → unsigned_abs b ≤ k → unsigned_abs c ≤ k → unsigned_abs d ≤ k → unsigned_abs (int_min (int_min a b) (int_min c d)) ≤ k
four a b c d k ha hb hc hd = omega (arith, ints, clamps)

four-high : (a b c d : ℤ) (k : ℕ) → unsigned_abs a ≤ k → unsigned_abs b ≤ k → unsigned_abs c ≤ k → unsigned_abs d ≤ k → unsigned_abs (int_max (int_max a b) (int_max c d)) ≤ k
four-high a b c d k ha hb hc hd = omega (arith, ints, clamps)

within-capped : (o : Option ℕ) (a k : ℕ) → a ≤ k → capped o a ≤ k
within-capped o a k h = omega (arith, capped-le o a, h)

lesser : (o : Option ℕ) (a b k : ℕ) → a ≤ k → capped o (min a b) ≤ k
lesser o a b k h = omega (arith, capped-le o (min a b), h)

lesser_signed : (a : ℕ) (z : ℤ) → a ≤ 10 ^ 14 → unsigned_abs z ≤ 10 ^ 12 → unsigned_abs (int_min (pos a) z) ≤ 10 ^ 14
lesser_signed a z h k = omega (arith, ints, clamps)

square-end : (x y : ℤ) → unsigned_abs x ≤ 10 ^ 12 → unsigned_abs y ≤ 10 ^ 12 → unsigned_abs (x *ℤ y) ≤ 10 ^ 24
square-end x y h k = abs-mul-le x y (10 ^ 12) (10 ^ 12) h k

module _ (n : Net) (b : Box) (limited : IsLimited n) (proper : IsProper n b) where
  prop-near : (e : ℕ) → e < n.feeds → AreNear (b.low (prop_number n e)) (b.high (prop_number n e))
  prop-near e lt = ends-near n b limited proper (prop_number n e) (omega arith)

  qual-near : (l k : ℕ) → l < n.pools → k < n.qualities → AreNear (b.low (qual_number n l k)) (b.high (qual_number n l k))
  qual-near l k lt hk = ends-near n b limited proper (qual_number n l k) (omega (arith, grid-below n.pools n.qualities l k lt hk))

  flow-near : (o : ℕ) → o < n.outs → AreNear (b.low (flow_number n o)) (b.high (flow_number n o))
  flow-near o lt = ends-near n b limited proper (flow_number n o) (omega arith)

  lows-capped : HoldsByKind n IsNoLarger (lows n b) end_caps
  lows-capped = record {
    x = λ e h. omega arith;
    y = λ o h. (flow-near o h).low;
    z = λ e h. omega arith;
    w = λ q h. omega arith;
    proportion = λ e h. (prop-near e h).low;
    quality = λ l k h j. (qual-near l k h j).low;
    mixed = λ o k h j.
        let q = qual-near (n.out_pool o) k (limited.out_pools o h) j in
        let f = flow-near o h in
        let ql = b.low (qual_number n (n.out_pool o) k) in
        let qh = b.high (qual_number n (n.out_pool o) k) in
        let fl = b.low (flow_number n o) in
        let fh = b.high (flow_number n o) in
        four (ql *ℤ fl) (ql *ℤ fh) (qh *ℤ fl) (qh *ℤ fh) (10 ^ 24) (square-end ql fl q.low f.low) (square-end ql fh q.low f.high) (square-end qh fl q.high f.low) (square-end qh fh q.high f.high);
  }

  highs-capped : HoldsByKind n IsNoLarger (highs n b) end_caps
  highs-capped = record {
    x = λ e h. lesser (n.feed_max e) (n.source_max (n.feed_source e)) (n.pool_max (n.feed_pool e)) (10 ^ 14) (limited.source_maxima (n.feed_source e) (limited.feed_sources e h));
    y = λ o h. (flow-near o h).high;
    z = λ e h. lesser (n.direct_max e) (n.source_max (n.direct_source e)) (n.product_max (n.direct_product e)) (10 ^ 14) (limited.source_maxima (n.direct_source e) (limited.direct_sources e h));
    w = λ q h. lesser_signed (capped (n.feed_max (path_feed n q)) (n.source_max (n.feed_source (path_feed n q)))) (b.high (flow_number n (path_out n q)))
        (within-capped (n.feed_max (path_feed n q)) (n.source_max (n.feed_source (path_feed n q))) (10 ^ 14)
        (limited.source_maxima (n.feed_source (path_feed n q)) (limited.feed_sources (path_feed n q) (path_feed-below n q h)))) (flow-near (path_out n q) (path_out-below n q h)).high;
    proportion = λ e h. (prop-near e h).high;
    quality = λ l k h j. (qual-near l k h j).high;
    mixed = λ o k h j.
        let q = qual-near (n.out_pool o) k (limited.out_pools o h) j in
        let f = flow-near o h in
        let ql = b.low (qual_number n (n.out_pool o) k) in
        let qh = b.high (qual_number n (n.out_pool o) k) in
        let fl = b.low (flow_number n o) in
        let fh = b.high (flow_number n o) in
        four-high (ql *ℤ fl) (ql *ℤ fh) (qh *ℤ fl) (qh *ℤ fh) (10 ^ 24) (square-end ql fl q.low f.low) (square-end ql fh q.low f.high) (square-end qh fl q.high f.low) (square-end qh fh q.high f.high);
  }

  -- what a coefficient and an end come to, at the most
  pub term-capped : (id v : ℕ) → id < rows n → v < variables n
      → unsigned_abs (by_number n (row_at n b id).coefs v) * max (unsigned_abs (by_number n (lows n b) v)) (unsigned_abs (by_number n (highs n b) v)) ≤ 2 * 10 ^ 28
  term-capped id v lt hv =
      let c = by_number-each n IsNoLarger (row_at n b id).coefs caps (row-capped n b limited proper id lt).coefs v hv in
      let l = by_number-each n IsNoLarger (lows n b) end_caps lows-capped v hv in
      let h = by_number-each n IsNoLarger (highs n b) end_caps highs-capped v hv in
      let both = by_number-each n (λ x y. unsigned_abs x * unsigned_abs y ≤ 2 * 10 ^ 28) caps end_caps products v hv in
      bounded (unsigned_abs (by_number n (row_at n b id).coefs v)) (unsigned_abs (by_number n (lows n b) v)) (unsigned_abs (by_number n (highs n b) v))
      (unsigned_abs (by_number n caps v)) (unsigned_abs (by_number n end_caps v)) c l h both
    where
      products : HoldsByKind n (λ x y. unsigned_abs x * unsigned_abs y ≤ 2 * 10 ^ 28) caps end_caps
      products = record {
        x = λ e h. omega arith;
        y = λ o h. omega arith;
        z = λ e h. omega arith;
        w = λ q h. omega arith;
        proportion = λ e h. omega arith;
        quality = λ l k h j. omega arith;
        mixed = λ o k h j. omega arith;
      }

      bounded : (c l h cap end : ℕ) → c ≤ cap → l ≤ end → h ≤ end → cap * end ≤ 2 * 10 ^ 28 → c * max l h ≤ 2 * 10 ^ 28
      bounded c l h cap end hc hl hh both = let greater : max l h ≤ end = omega arith in omega (arith, mul-le-mul hc greater, both)

  pub end-capped : (v : ℕ) → v < variables n → (unsigned_abs (by_number n (lows n b) v) ≤ 10 ^ 24) × (unsigned_abs (by_number n (highs n b) v) ≤ 10 ^ 24)
  end-capped v hv =
      let l = by_number-each n IsNoLarger (lows n b) end_caps lows-capped v hv in
      let h = by_number-each n IsNoLarger (highs n b) end_caps highs-capped v hv in
      let most = by_number-each n (λ x y. unsigned_abs x ≤ 10 ^ 24) end_caps end_caps small v hv in
      (omega (arith, l, most), omega (arith, h, most))
    where
      small : HoldsByKind n (λ x y. unsigned_abs x ≤ 10 ^ 24) end_caps end_caps
      small = record {
        x = λ e h. omega arith;
        y = λ o h. omega arith;
        z = λ e h. omega arith;
        w = λ q h. omega arith;
        proportion = λ e h. omega arith;
        quality = λ l k h j. omega arith;
        mixed = λ o k h j. omega arith;
      }

-- The catalogue: every row of the programs P (Haverly 1978), Q (Ben-Tal et al. 1994) and PQ (Tawarmalani and Sahinidis
-- 2002), numbered by family.
use Rattle.std.specs.Prelude.{ℕ, ◌+◌, ◌-◌, ◌*◌, ◌/◌, ◌%◌, ◌<◌, nat_lt, List, [], ◌∷◌, ◌++◌, length, get_or, ◌==◌, if◌then◌else◌, ℤ, pos, neg_ℤ, ◌-ℤ◌, ◌*ℤ◌}
use Rattle.pool_model.specs.Network.{Net}
use Rattle.pool_model.specs.Limits.{Limit, most_limits, least_limits, no_limit}
use Rattle.pool_model.specs.Starting.{through, straight, way_quality}
use Rattle.row_model.specs.Boxes.{Box, root, grain, prop_number, qual_number, flow_number}
use Rattle.row_model.specs.Variables.{PerVariable, none, path_count, path_feed, path_out}
use Rattle.row_model.specs.Envelopes.{Ends, side}

-- ---- rows

-- a row is at least 0, or equal to 0
pub data Kind : Type 0 where
  at_least : Kind
  equal : Kind

-- coefficients times variables, and a constant
pub record Row : Type 0 where
  pub kind : Kind
  pub coefs : PerVariable
  pub constant : ℤ

-- rows of one form, by number
pub record Family : Type 0 where
  pub count : ℕ
  pub row : ℕ → Row

-- a coefficient where two numbers are one
abbrev pub when : ℕ → ℕ → ℤ → ℤ
when i k c = if i == k then c else pos 0

-- ---- rows of the network

-- a source sends no more than its maximum
abbrev pub source_row : Net → ℕ → Row
source_row n i = record {
  kind = at_least;
  coefs = record none { x = λ e. when (n.feed_source e) i (neg_ℤ (pos 1)); z = λ e. when (n.direct_source e) i (neg_ℤ (pos 1)) };
  constant = pos (n.source_max i);
}

-- what flows into a pool flows out of it
abbrev pub balance_row : Net → ℕ → Row
balance_row n l = record {
  kind = equal;
  coefs = record none { x = λ e. when (n.feed_pool e) l (pos 1); y = λ o. when (n.out_pool o) l (neg_ℤ (pos 1)) };
  constant = pos 0;
}

-- no more flows through a pool than its maximum
abbrev pub pool_row : Net → ℕ → Row
pool_row n l = record {
  kind = at_least;
  coefs = record none { y = λ o. when (n.out_pool o) l (neg_ℤ (pos 1)) };
  constant = pos (n.pool_max l);
}

-- a product takes no more than its maximum
abbrev pub maximum_row : Net → ℕ → Row
maximum_row n j = record {
  kind = at_least;
  coefs = record none { y = λ o. when (n.out_product o) j (neg_ℤ (pos 1)); z = λ e. when (n.direct_product e) j (neg_ℤ (pos 1)) };
  constant = pos (n.product_max j);
}

-- a product takes no less than its minimum
abbrev pub minimum_row : Net → ℕ → Row
minimum_row n j = record {
  kind = at_least;
  coefs = record none { y = λ o. when (n.out_product o) j (pos 1); z = λ e. when (n.direct_product e) j (pos 1) };
  constant = neg_ℤ (pos (n.product_min j));
}

-- ---- rows of P

-- the quality that flows into a pool flows out of it
abbrev pub mixing_row : Net → ℕ → ℕ → Row
mixing_row n l k = record {
  kind = equal;
  coefs = record none {
    x = λ e. when (n.feed_pool e) l (n.source_quality (n.feed_source e) k);
    mixed = λ o h. when h k (when (n.out_pool o) l (neg_ℤ (pos 1)));
  };
  constant = pos 0;
}

-- a limit in parts of the scale
abbrev pub limit_parts : Net → Limit → ℤ
limit_parts n u = pos n.scale *ℤ u.limit

-- what a path of a number brings of a quality, in parts of the scale
abbrev pub path_quality : Net → ℕ → ℕ → ℤ
path_quality n p k = way_quality n (through (path_feed n p) (path_out n p)) k

-- a product's mean of a quality is at most its limit, by mixed variables: pools retain a part of them
abbrev pub mixed_most_row : Net → Limit → Row
mixed_most_row n u = record {
  kind = at_least;
  coefs = record none {
    y = λ o. when (n.out_product o) u.product (limit_parts n u);
    z = λ e. when (n.direct_product e) u.product (limit_parts n u -ℤ way_quality n (straight e) u.quality);
    mixed = λ o h. when h u.quality (when (n.out_product o) u.product (neg_ℤ (pos (n.retained (n.out_pool o) u.quality))));
  };
  constant = pos 0;
}

-- a product's mean of a quality is at least its limit, by mixed variables
abbrev pub mixed_least_row : Net → Limit → Row
mixed_least_row n u = record {
  kind = at_least;
  coefs = record none {
    y = λ o. when (n.out_product o) u.product (neg_ℤ (limit_parts n u));
    z = λ e. when (n.direct_product e) u.product (way_quality n (straight e) u.quality -ℤ limit_parts n u);
    mixed = λ o h. when h u.quality (when (n.out_product o) u.product (pos (n.retained (n.out_pool o) u.quality)));
  };
  constant = pos 0;
}

-- the ends of a pool's quality and of an out's flow
abbrev pub quality_ends : Net → Box → ℕ → ℕ → Ends
quality_ends n b o k = record {
  a_low = b.low (qual_number n (n.out_pool o) k);
  a_high = b.high (qual_number n (n.out_pool o) k);
  b_low = b.low (flow_number n o);
  b_high = b.high (flow_number n o);
}

-- a side of the envelope of an out's mixed variable: its pool's quality times its flow
abbrev pub quality_envelope_row : Net → Box → ℕ → ℕ → ℕ → Row
quality_envelope_row n b o k number =
    let s = side number (pos 1) (quality_ends n b o k) in
    record {
      kind = at_least;
      coefs = record none {
        y = λ f. when f o s.of_b;
        quality = λ l h. when h k (when l (n.out_pool o) s.of_a);
        mixed = λ f h. when h k (when f o s.of_w);
      };
      constant = s.constant;
    }

-- ---- rows of Q

-- the proportions of a pool's feeds sum to 1
abbrev pub proportions_row : Net → ℕ → Row
proportions_row n l = record {
  kind = equal;
  coefs = record none { proportion = λ e. when (n.feed_pool e) l (pos 1) };
  constant = neg_ℤ (pos grain);
}

-- what a feed brings goes along its paths
abbrev pub feed_row : Net → ℕ → Row
feed_row n e = record {
  kind = equal;
  coefs = record none { x = λ f. when f e (pos 1); w = λ p. when (path_feed n p) e (neg_ℤ (pos 1)) };
  constant = pos 0;
}

-- a product's mean of a quality is at most its limit, by flows along paths
abbrev pub path_most_row : Net → Limit → Row
path_most_row n u = record {
  kind = at_least;
  coefs = record none {
    y = λ o. when (n.out_product o) u.product (limit_parts n u);
    z = λ e. when (n.direct_product e) u.product (limit_parts n u -ℤ way_quality n (straight e) u.quality);
    w = λ p. when (n.out_product (path_out n p)) u.product (neg_ℤ (path_quality n p u.quality));
  };
  constant = pos 0;
}

-- a product's mean of a quality is at least its limit, by flows along paths
abbrev pub path_least_row : Net → Limit → Row
path_least_row n u = record {
  kind = at_least;
  coefs = record none {
    y = λ o. when (n.out_product o) u.product (neg_ℤ (limit_parts n u));
    z = λ e. when (n.direct_product e) u.product (way_quality n (straight e) u.quality -ℤ limit_parts n u);
    w = λ p. when (n.out_product (path_out n p)) u.product (path_quality n p u.quality);
  };
  constant = pos 0;
}

-- the ends of a feed's proportion and of an out's flow
abbrev pub proportion_ends : Net → Box → ℕ → Ends
proportion_ends n b p = record {
  a_low = b.low (prop_number n (path_feed n p));
  a_high = b.high (prop_number n (path_feed n p));
  b_low = b.low (flow_number n (path_out n p));
  b_high = b.high (flow_number n (path_out n p));
}

-- a side of the envelope of the flow along a path: its feed's proportion times its out's flow
abbrev pub proportion_envelope_row : Net → Box → ℕ → ℕ → Row
proportion_envelope_row n b p number =
    let s = side number (pos grain) (proportion_ends n b p) in
    record {
      kind = at_least;
      coefs = record none {
        y = λ o. when o (path_out n p) s.of_b;
        w = λ q. when q p s.of_w;
        proportion = λ e. when e (path_feed n p) s.of_a;
      };
      constant = s.constant;
    }

-- ---- rows of PQ

-- what flows along an out comes along its paths
abbrev pub out_row : Net → ℕ → Row
out_row n o = record {
  kind = equal;
  coefs = record none { y = λ f. when f o (neg_ℤ (pos 1)); w = λ p. when (path_out n p) o (pos 1) };
  constant = pos 0;
}

-- a feed brings no more than its proportion of its pool's maximum
abbrev pub share_row : Net → ℕ → Row
share_row n e = record {
  kind = at_least;
  coefs = record none {
    w = λ p. when (path_feed n p) e (neg_ℤ (pos grain));
    proportion = λ f. when f e (pos (n.pool_max (n.feed_pool e)));
  };
  constant = pos 0;
}

-- ---- the families in order; within a family the first index changes slowest

abbrev pub network_families : Net → List Family
network_families n =
    record { count = n.sources; row = source_row n }
    ∷ record { count = n.pools; row = balance_row n }
    ∷ record { count = n.pools; row = pool_row n }
    ∷ record { count = n.products; row = maximum_row n }
    ∷ record { count = n.products; row = minimum_row n }
    ∷ []

abbrev pub p_families : Net → Box → List Family
p_families n b =
    record { count = n.pools * n.qualities; row = λ i. mixing_row n (i / n.qualities) (i % n.qualities) }
    ∷ record { count = length (most_limits n); row = λ i. mixed_most_row n (get_or (most_limits n) i no_limit) }
    ∷ record { count = length (least_limits n); row = λ i. mixed_least_row n (get_or (least_limits n) i no_limit) }
    ∷ record { count = n.outs * (n.qualities * 4); row = λ i. quality_envelope_row n b (i / (n.qualities * 4)) (i % (n.qualities * 4) / 4) (i % 4 + 1) }
    ∷ []

abbrev pub q_families : Net → Box → List Family
q_families n b =
    record { count = n.pools; row = proportions_row n }
    ∷ record { count = n.feeds; row = feed_row n }
    ∷ record { count = length (most_limits n); row = λ i. path_most_row n (get_or (most_limits n) i no_limit) }
    ∷ record { count = length (least_limits n); row = λ i. path_least_row n (get_or (least_limits n) i no_limit) }
    ∷ record { count = path_count n * 4; row = λ i. proportion_envelope_row n b (i / 4) (i % 4 + 1) }
    ∷ []

abbrev pub pq_families : Net → List Family
pq_families n =
    record { count = n.outs; row = out_row n }
    ∷ record { count = n.feeds; row = share_row n }
    ∷ []

abbrev pub catalogue : Net → Box → List Family
catalogue n b = network_families n ++ (p_families n b ++ (q_families n b ++ pq_families n))

-- how many rows families have
abbrev pub row_count : List Family → ℕ
row_count [] = 0
row_count (f ∷ fs) = f.count + row_count fs

-- a row that says nothing
abbrev pub no_row : Row
no_row = record { kind = at_least; coefs = none; constant = pos 0 }

-- the row of a number, over all families
abbrev pub row_in : List Family → ℕ → Row
row_in [] i = no_row
row_in (f ∷ fs) i = if nat_lt i f.count then f.row i else row_in fs (i - f.count)

-- what holds of each row of each family
abbrev pub HoldsOfEach : (Row → Type 0) → List Family → Type 0
HoldsOfEach P [] = Unit {0}
HoldsOfEach P (f ∷ fs) = ((i : ℕ) → i < f.count → P (f.row i)) × HoldsOfEach P fs

-- how many rows the catalogue has: in every box as many
abbrev pub rows : Net → ℕ
rows n = row_count (catalogue n (root n))

abbrev pub row_at : Net → Box → ℕ → Row
row_at n b id = row_in (catalogue n b) id

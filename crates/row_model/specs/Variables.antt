-- The variables of the programs: flows, flows along paths, proportions, qualities, and qualities times flows.
use Rattle.std.specs.Prelude.{ℕ, ◌+◌, ◌*◌, ◌/◌, ◌%◌, min, length, ℤ, pos, ◌+ℤ◌, ◌-ℤ◌, ◌*ℤ◌}
use Rattle.std.specs.Int.{int_min, int_max}
use Rattle.integers.specs.Sums.{int_sum_below, piece}
use Rattle.pool_model.specs.Network.{Net, capped, feed_delivered, direct_delivered}
use Rattle.pool_model.specs.Paths.{paths_of, path_at}
use Rattle.row_model.specs.Boxes.{Box, prop_number, qual_number, flow_number}

-- ---- paths by number

abbrev pub path_count : Net → ℕ
path_count n = length (paths_of n)

abbrev pub path_feed : Net → ℕ → ℕ
path_feed n p = (path_at n p).feed

abbrev pub path_out : Net → ℕ → ℕ
path_out n p = (path_at n p).out

-- ---- a number for each variable

-- a number for each variable: coefficients, ends, costs, a point
pub record PerVariable : Type 0 where
  pub x : ℕ → ℤ
  pub y : ℕ → ℤ
  pub z : ℕ → ℤ
  pub w : ℕ → ℤ
  pub proportion : ℕ → ℤ
  pub quality : ℕ → ℕ → ℤ
  pub mixed : ℕ → ℕ → ℤ

-- 0 for each
abbrev pub none : PerVariable
none = record {
  x = λ e. pos 0;
  y = λ o. pos 0;
  z = λ e. pos 0;
  w = λ p. pos 0;
  proportion = λ e. pos 0;
  quality = λ l k. pos 0;
  mixed = λ o k. pos 0;
}

-- how many variables there are
abbrev pub variables : Net → ℕ
variables n = n.feeds + (n.outs + (n.directs + (path_count n + (n.feeds + (n.pools * n.qualities + n.outs * n.qualities)))))

-- The same by the variable's number: flows of feeds, outs and directs, flows along paths, proportions of feeds, qualities
-- of pools, and mixed ones of outs; the last two by their first index and then by quality.
abbrev pub by_number : Net → PerVariable → ℕ → ℤ
by_number n a = piece n.feeds a.x (piece n.outs a.y (piece n.directs a.z (piece (path_count n) a.w (piece n.feeds a.proportion
    (piece (n.pools * n.qualities) (λ i. a.quality (i / n.qualities) (i % n.qualities)) (λ i. a.mixed (i / n.qualities) (i % n.qualities)))))))

-- the sum over all variables of a times v
abbrev pub dot : Net → PerVariable → PerVariable → ℤ
dot n a v =
    int_sum_below (λ e. a.x e *ℤ v.x e) n.feeds
    +ℤ int_sum_below (λ o. a.y o *ℤ v.y o) n.outs
    +ℤ int_sum_below (λ e. a.z e *ℤ v.z e) n.directs
    +ℤ int_sum_below (λ p. a.w p *ℤ v.w p) (path_count n)
    +ℤ int_sum_below (λ e. a.proportion e *ℤ v.proportion e) n.feeds
    +ℤ int_sum_below (λ l. int_sum_below (λ k. a.quality l k *ℤ v.quality l k) n.qualities) n.pools
    +ℤ int_sum_below (λ o. int_sum_below (λ k. a.mixed o k *ℤ v.mixed o k) n.qualities) n.outs

-- ---- ends and costs

-- the least and the greatest of the products of two numbers between their ends
abbrev pub least_product : (a_low a_high b_low b_high : ℤ) → ℤ
least_product a_low a_high b_low b_high = int_min (int_min (a_low *ℤ b_low) (a_low *ℤ b_high)) (int_min (a_high *ℤ b_low) (a_high *ℤ b_high))

abbrev pub greatest_product : (a_low a_high b_low b_high : ℤ) → ℤ
greatest_product a_low a_high b_low b_high = int_max (int_max (a_low *ℤ b_low) (a_low *ℤ b_high)) (int_max (a_high *ℤ b_low) (a_high *ℤ b_high))

-- the least that each variable may be in a box
abbrev pub lows : Net → Box → PerVariable
lows n b = record {
  x = λ e. pos 0;
  y = λ o. b.low (flow_number n o);
  z = λ e. pos 0;
  w = λ p. pos 0;
  proportion = λ e. b.low (prop_number n e);
  quality = λ l k. b.low (qual_number n l k);
  mixed = λ o k. least_product (b.low (qual_number n (n.out_pool o) k)) (b.high (qual_number n (n.out_pool o) k)) (b.low (flow_number n o)) (b.high (flow_number n o));
}

-- the greatest that each variable may be in a box: flows keep within the maxima of arcs too
abbrev pub highs : Net → Box → PerVariable
highs n b = record {
  x = λ e. pos (capped (n.feed_max e) (min (n.source_max (n.feed_source e)) (n.pool_max (n.feed_pool e))));
  y = λ o. b.high (flow_number n o);
  z = λ e. pos (capped (n.direct_max e) (min (n.source_max (n.direct_source e)) (n.product_max (n.direct_product e))));
  w = λ p. int_min (pos (capped (n.feed_max (path_feed n p)) (n.source_max (n.feed_source (path_feed n p))))) (b.high (flow_number n (path_out n p)));
  proportion = λ e. b.high (prop_number n e);
  quality = λ l k. b.high (qual_number n l k);
  mixed = λ o k. greatest_product (b.low (qual_number n (n.out_pool o) k)) (b.high (qual_number n (n.out_pool o) k)) (b.low (flow_number n o)) (b.high (flow_number n o));
}

-- what a unit of each variable costs, in picos a millionth: at its source and along its arc, less what it brings
abbrev pub costs : Net → PerVariable
costs n = record none {
  x = λ e. feed_delivered n e;
  y = λ o. n.out_cost o -ℤ n.price (n.out_product o);
  z = λ e. direct_delivered n e -ℤ n.price (n.direct_product e);
}

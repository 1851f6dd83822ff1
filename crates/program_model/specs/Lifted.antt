-- The points of a plan: the point at which every row of the catalogue is read, over the denominators of the exact programs.
use Rattle.std.specs.Prelude.{◌≡◌, ℕ, ◌*◌, pos, ◌*ℤ◌}
use Rattle.integers.specs.Sums.{product_below, product_but}
use Rattle.pool_model.specs.Network.{Net}
use Rattle.pool_model.specs.Plan.{Plan, factor, mix}
use Rattle.row_model.specs.Boxes.{grain, share, place, qual}
use Rattle.row_model.specs.Variables.{path_feed, path_out}
use Rattle.row_model.specs.Lift.{lift, lift_base, others}
use Rattle.program_model.specs.Points.{ProportionPoint, QualityPoint}

-- the factors of all pools together
abbrev pub factors : Net → Plan → ℕ
factors n p = product_below (factor n p) n.pools

-- The flows of the plan; a feed's share of its pool's factor; along a path the feed's flow times the out's over what the pool
-- sends.
abbrev pub proportion_point : Net → Plan → ProportionPoint
proportion_point n p = record {
  base = lift_base n p;
  prop_base = factors n p;
  proportion = λ e. product_but (n.feed_pool e) (factor n p) n.pools * share n p e;
  feed = λ e. factors n p * p.feed e;
  out = λ o. factors n p * p.out o;
  direct = λ e. factors n p * p.direct e;
  path = λ a. product_but (n.out_pool (path_out n a)) (factor n p) n.pools * (p.feed (path_feed n a) * p.out (path_out n a));
}

-- The flows of the plan; the mean quality of each pool; for each out its pool's mean quality times its flow.
abbrev pub quality_point : Net → Plan → QualityPoint
quality_point n p = record {
  base = lift_base n p;
  qual_base = factors n p;
  quality = λ l k. others n p l *ℤ place n p (qual l k);
  feed = λ e. factors n p * p.feed e;
  out = λ o. factors n p * p.out o;
  direct = λ e. factors n p * p.direct e;
  mixed = λ o k. others n p (n.out_pool o) *ℤ (mix n p (n.out_pool o) k *ℤ pos (p.out o));
}

-- ---- they are the point of the catalogue's rows

-- the same flows, and the same proportions, which the catalogue counts in parts of the grain over the flows' denominator
pub record IsLiftByProportions (n : Net) (p : Plan) (q : ProportionPoint) : Type 0 where
  pub base : q.base ≡ lift_base n p
  pub feed : (e : ℕ) → pos (q.feed e) ≡ (lift n p).x e
  pub out : (o : ℕ) → pos (q.out o) ≡ (lift n p).y o
  pub direct : (e : ℕ) → pos (q.direct e) ≡ (lift n p).z e
  pub path : (a : ℕ) → pos (q.path a) ≡ (lift n p).w a
  pub proportion : (e : ℕ) → pos (grain * q.base * q.proportion e) ≡ (lift n p).proportion e *ℤ pos q.prop_base

-- the same flows and mixed variables, and the same qualities, which the catalogue counts over the flows' denominator
pub record IsLiftByQualities (n : Net) (p : Plan) (q : QualityPoint) : Type 0 where
  pub base : q.base ≡ lift_base n p
  pub feed : (e : ℕ) → pos (q.feed e) ≡ (lift n p).x e
  pub out : (o : ℕ) → pos (q.out o) ≡ (lift n p).y o
  pub direct : (e : ℕ) → pos (q.direct e) ≡ (lift n p).z e
  pub mixed : (o k : ℕ) → q.mixed o k ≡ (lift n p).mixed o k
  pub quality : (l k : ℕ) → pos q.base *ℤ q.quality l k ≡ (lift n p).quality l k *ℤ pos q.qual_base

-- The point of a plan, and whether it shows that a bound is the best.
use Rattle.std.specs.Prelude.{◌≡◌, ℕ, ◌*◌, ◌<◌, ◌==◌, if◌then◌else◌, ℤ, pos, ◌+ℤ◌, ◌*ℤ◌, ◌<ℤ◌}
use Rattle.integers.specs.Sums.{int_sum_at, product_below}
use Rattle.pool_model.specs.Network.{Net}
use Rattle.pool_model.specs.Plan.{Plan, Written, plan_of, cost_of, factor, weight, written_out, written_outflow}
use Rattle.pool_model.specs.Starting.{first_weight}
use Rattle.row_model.specs.Boxes.{Box, LiesIn, grain}
use Rattle.row_model.specs.Lift.{lift}
use Rattle.row_model.specs.Variables.{PerVariable, variables, by_number, path_feed, path_out}
use Rattle.relaxation_points.specs.Points.{Point}

-- the plan's point over the plan's own denominator: the factors of all pools are cancelled
pub record IsPlanPoint (n : Net) (p : Plan) (q : Point) : Type 0 where
  pub base : q.base ≡ p.base
  pub value : (v : ℕ) → v < variables n → q.value v *ℤ pos (product_below (factor n p) n.pools) ≡ by_number n (lift n p) v

-- The plan lies in the box and costs less than one pico above the bound: then no multipliers can show more.
pub record Decides (n : Net) (b : Box) (bound : ℤ) (p : Plan) : Type 0 where
  pub lies : LiesIn n p b
  pub near : cost_of n p <ℤ ((bound +ℤ pos 1) *ℤ pos p.base)

-- ---- as it is written

-- A feed's part of its pool, over the plan's base: its weight; a pool that sends nothing stands at its first feed.
abbrev pub share_of : Net → Written → ℕ → ℕ
share_of n w e = if written_outflow n w (n.feed_pool e) == 0 then w.base * first_weight n e else weight w e

-- a quality of a pool, over the plan's base
abbrev pub quality_by : Net → Written → ℕ → ℕ → ℤ
quality_by n w l k = int_sum_at n.feed_pool l (λ e. n.source_quality (n.feed_source e) k *ℤ pos (share_of n w e)) n.feeds

-- the point of a written plan over both of its bases
abbrev pub plan_values : Net → Written → PerVariable
plan_values n w = record {
  x = λ e. pos ((plan_of n w).feed e);
  y = λ o. pos ((plan_of n w).out o);
  z = λ e. pos ((plan_of n w).direct e);
  w = λ q. pos (weight w (path_feed n q)) *ℤ pos (written_out w (path_out n q));
  proportion = λ e. pos grain *ℤ pos (share_of n w e) *ℤ pos w.flow_base;
  quality = λ l k. quality_by n w l k *ℤ pos w.flow_base;
  mixed = λ o k. quality_by n w (n.out_pool o) k *ℤ pos (written_out w o);
}

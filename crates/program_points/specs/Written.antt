-- The points of a written plan: over both of its bases, with its weights as proportions.
use Rattle.std.specs.Prelude.{◌≡◌, ℕ, ◌*◌, ◌/◌, ◌%◌, ℤ, pos, ◌*ℤ◌}
use Rattle.integers.specs.Numbers.{tabulate}
use Rattle.pool_model.specs.Network.{Net}
use Rattle.pool_model.specs.Plan.{Written, weight, written_out, plan_of}
use Rattle.row_model.specs.Variables.{path_count, path_feed, path_out}
use Rattle.program_model.specs.Points.{ProportionPoint, QualityPoint}
use Rattle.plan_core.specs.Weighed.{weighed}
use Rattle.program_points.specs.declared.points.PropPoint.{PropPoint}
use Rattle.program_points.specs.declared.points.QualPoint.{QualPoint}

-- along a path flows its feed's weight of what its out carries
abbrev pub written_path_flow : Net → Written → ℕ → ℕ
written_path_flow n w a = weight w (path_feed n a) * written_out w (path_out n a)

-- a pool's quality by its number, and a mixed variable by its own: a pool's quality times its out's flow
abbrev pub quality_of : Net → Written → ℕ → ℤ
quality_of n w i = weighed n w (i / n.qualities) (i % n.qualities)

abbrev pub mixed_of : Net → Written → ℕ → ℤ
mixed_of n w i = weighed n w (n.out_pool (i / n.qualities)) (i % n.qualities) *ℤ pos (written_out w (i / n.qualities))

abbrev pub written_proportions : Net → Written → ProportionPoint
written_proportions n w = record {
  base = w.flow_base * w.base;
  prop_base = w.base;
  proportion = weight w;
  feed = (plan_of n w).feed;
  out = (plan_of n w).out;
  direct = (plan_of n w).direct;
  path = written_path_flow n w;
}

abbrev pub written_qualities : Net → Written → QualityPoint
written_qualities n w = record {
  base = w.flow_base * w.base;
  qual_base = w.base;
  quality = weighed n w;
  feed = (plan_of n w).feed;
  out = (plan_of n w).out;
  direct = (plan_of n w).direct;
  mixed = λ o k. weighed n w (n.out_pool o) k *ℤ pos (written_out w o);
}

-- the lists of a point are those of the plan
pub record ArePropsOf (n : Net) (w : Written) (q : PropPoint) : Type 0 where
  pub base : q.base ≡ w.flow_base * w.base
  pub prop_base : q.prop_base ≡ w.base
  pub props : q.props.items ≡ w.weights
  pub x : q.x.items ≡ tabulate (plan_of n w).feed n.feeds
  pub y : q.y.items ≡ tabulate (plan_of n w).out n.outs
  pub z : q.z.items ≡ tabulate (plan_of n w).direct n.directs
  pub along : q.w.items ≡ tabulate (written_path_flow n w) (path_count n)

pub record AreQualsOf (n : Net) (w : Written) (q : QualPoint) : Type 0 where
  pub base : q.base ≡ w.flow_base * w.base
  pub qual_base : q.qual_base ≡ w.base
  pub quals : q.quals.items ≡ tabulate (quality_of n w) (n.pools * n.qualities)
  pub x : q.x.items ≡ tabulate (plan_of n w).feed n.feeds
  pub y : q.y.items ≡ tabulate (plan_of n w).out n.outs
  pub z : q.z.items ≡ tabulate (plan_of n w).direct n.directs
  pub mix : q.mix.items ≡ tabulate (mixed_of n w) (n.outs * n.qualities)

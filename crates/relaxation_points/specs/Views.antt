-- The point that a point in memory stands for. What stands behind its list has no meaning.
use Rattle.std.specs.Prelude.{◌≡◌, ◌<◌, get_or, length, pos}
use Rattle.pool_model.specs.Network.{Net}
use Rattle.row_model.specs.Variables.{variables}
use Rattle.relaxation_points.specs.Points.{Point}
use Rattle.relaxation_points.specs.declared.point.RelaxPoint.{RelaxPoint}

abbrev pub shown_point : RelaxPoint → Point
shown_point q = record { base = q.base; value = λ v. get_or q.values.items v (pos 0) }

-- it has a base above 0 and a value for each variable
pub record HasShape (n : Net) (q : RelaxPoint) : Type 0 where
  pub base : 0 < q.base
  pub values : length q.values.items ≡ variables n

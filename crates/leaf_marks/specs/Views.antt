-- Points and proofs in memory, with their shape.
use Rattle.pool_model.specs.Network.{Net}
use Rattle.relaxation_points.specs.Points.{Point}
use Rattle.relaxation_points.specs.Views.{HasShape, shown_point}
use Rattle.relaxation_points.specs.declared.point.RelaxPoint.{RelaxPoint}

-- a point in memory has its shape and stands for such a point
pub record IsHeld (n : Net) (Is : Point → Type 0) (q : RelaxPoint) : Type 0 where
  pub shape : HasShape n q
  pub point : Is (shown_point q)

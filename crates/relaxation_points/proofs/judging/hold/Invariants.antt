use Rattle.std.proofs.Common.{ℕ, ◌<◌}
use Rattle.pool_model.specs.Network.{net_of}
use Rattle.box_space.specs.Views.{shown_box}
use Rattle.relaxation_points.specs.Points.{IsRowOf}
use Rattle.relaxation_points.specs.Lines.{HoldsLightly}
use Rattle.relaxation_points.specs.Views.{shown_point}
use Rattle.relaxation_points.proofs.judging.hold.Given as goal

abbrev pub invariant-loop-id : goal.invariant-loop-id
invariant-loop-id l = (k : ℕ) → k < l.id → IsRowOf (net_of l.net) l.form k → HoldsLightly (net_of l.net) (shown_box l.v) (shown_point l.point) k

use Rattle.std.proofs.Common.{FitsSigned, rules}
use Rattle.std.proofs.lemmas.Int.{to_z-of_z}
use mir.Syntax.{w128}
use Rattle.pool_model.specs.Network.{net_of}
use Rattle.box_space.specs.Views.{shown_box}
use Rattle.relaxation_points.proofs.Judged.{witness-by}
use Rattle.relaxation_points.proofs.judging.is_witness.Goals as goal

pub returns-then-is_near : goal.returns-then-is_near
returns-then-is_near c =
    let bound : FitsSigned w128 c.args.bound = search rules in
    witness-by (net_of c.args.net.now) c.args.form (shown_box c.args.v.now) c.args.bound c.args.point.now c.hold.result
    (c.has_shape.ensures.0 c.if-not-has_shape.false) (c.lie_between.ensures.0 c.if-not-lie_between.false) ((simp to_z-of_z at c.is_near.ensures).0 c.if-is_near.true) c.hold.ensures

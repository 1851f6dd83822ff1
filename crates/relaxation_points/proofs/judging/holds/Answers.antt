use Rattle.std.proofs.Common.{length, FitsSigned, rules}
use Rattle.std.proofs.lemmas.Int.{to_z-of_z}
use mir.Syntax.{w128}
use Rattle.pool_model.specs.Network.{net_of}
use Rattle.box_space.specs.Views.{shown_box, shown_kind}
use Rattle.relaxation_points.specs.Views.{shown_point}
use Rattle.relaxation_points.proofs.Judged.{known-in, lightly-by, never-lightly}
use Rattle.relaxation_points.proofs.judging.holds.Goals as goal

pub row_sum-requires : goal.row_sum-requires
row_sum-requires c = record {
  known = known-in (net_of c.args.net.now) (shown_box c.args.v.now) c.args.id c.row_at-kind.new.row (length c.args.point.now.values.items) c.row_at-kind.ensures.written c.requires.shape.values;
}

pub returns-in-Ok : goal.returns-in-Ok
returns-in-Ok c =
    let value : FitsSigned w128 c.in-Ok.value = search rules in
    lightly-by (net_of c.args.net.now) (shown_box c.args.v.now) (shown_point c.args.point.now) c.args.id c.row_at-kind.new.row (shown_kind c.row_at-kind.result) c.in-Ok.value c.is_met.result
    c.row_at-kind.ensures.written c.row_at-kind.ensures.kind c.in-Ok.ensures.value c.in-Ok.ensures.narrow (simp to_z-of_z at c.is_met.ensures)

pub returns-in-Err : goal.returns-in-Err
returns-in-Err c =
    never-lightly (net_of c.args.net.now) (shown_box c.args.v.now) (shown_point c.args.point.now) c.args.id c.row_at-kind.new.row c.row_at-kind.ensures.written c.in-Err.ensures.wide

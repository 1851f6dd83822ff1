use Rattle.std.proofs.Common.{length}
use Rattle.pool_model.specs.Network.{net_of}
use Rattle.box_space.specs.Views.{shown_box}
use Rattle.relaxation_points.specs.Views.{shown_point}
use Rattle.relaxation_points.proofs.Judged.{known-in, light-row, heavy-row}
use Rattle.relaxation_points.proofs.judging.is_row_light.Goals as goal

pub row_sum-requires : goal.row_sum-requires
row_sum-requires c = record {
  known = known-in (net_of c.args.net.now) (shown_box c.args.v.now) c.args.id c.row_at.new.row (length c.args.point.now.values.items) c.row_at.ensures.written c.requires.shape.values;
}

pub returns-in-Ok : goal.returns-in-Ok
returns-in-Ok c =
    light-row (net_of c.args.net.now) (shown_box c.args.v.now) (shown_point c.args.point.now) c.args.id c.row_at.new.row c.row_at.ensures.written c.in-Ok.ensures.narrow

pub returns-in-Err : goal.returns-in-Err
returns-in-Err c =
    heavy-row (net_of c.args.net.now) (shown_box c.args.v.now) (shown_point c.args.point.now) c.args.id c.row_at.new.row c.row_at.ensures.written c.in-Err.ensures.wide

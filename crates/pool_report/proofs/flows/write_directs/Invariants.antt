use Rattle.std.proofs.Common.{◌≡◌}
use Rattle.edge_io.specs.Counts.{Grows}
use Rattle.edge_io.specs.Writing.{behind}
use Rattle.pool_model.specs.Network.{net_of}
use Rattle.pool_model.specs.Plan.{plan_of}
use Rattle.plan_core.specs.Views.{shown_plan}
use Rattle.text_pieces.specs.Pieces.{each_below}
use Rattle.pool_report.specs.Lines.{direct_line}
use Rattle.pool_report.proofs.flows.write_directs.Given as goal

abbrev pub invariant-loop-arc : goal.invariant-loop-arc
invariant-loop-arc g l =
    (g.K.Sink.taken l.out ≡ behind (g.K.Sink.taken l.fn.out) (each_below (direct_line l.net (plan_of (net_of l.net) (shown_plan l.plan))) l.arc))
    × Grows (g.K.Sink.faults l.fn.out) (g.K.Sink.faults l.out)

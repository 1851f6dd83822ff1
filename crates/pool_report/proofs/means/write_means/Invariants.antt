use Rattle.std.proofs.Common.{◌≡◌}
use Rattle.edge_io.specs.Counts.{Grows}
use Rattle.edge_io.specs.Writing.{behind}
use Rattle.pool_model.specs.Network.{net_of}
use Rattle.pool_model.specs.Plan.{plan_of}
use Rattle.plan_core.specs.Views.{shown_plan}
use Rattle.text_pieces.specs.Pieces.{each_below}
use Rattle.pool_report.specs.Lines.{mean_lines}
use Rattle.pool_report.proofs.means.write_means.Given as goal

abbrev pub invariant-loop-product : goal.invariant-loop-product
invariant-loop-product g l =
    (g.K.Sink.taken l.out ≡ behind (g.K.Sink.taken l.fn.out) (each_below (mean_lines l.net (plan_of (net_of l.net) (shown_plan l.plan))) l.product))
    × Grows (g.K.Sink.faults l.fn.out) (g.K.Sink.faults l.out)

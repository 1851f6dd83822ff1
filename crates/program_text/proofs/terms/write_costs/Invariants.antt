use Rattle.std.proofs.Common.{◌≡◌}
use Rattle.edge_io.specs.Counts.{Grows}
use Rattle.edge_io.specs.Writing.{behind}
use Rattle.pool_model.specs.Network.{net_of}
use Rattle.text_pieces.specs.Pieces.{each_below}
use Rattle.row_model.specs.Variables.{by_number, costs}
use Rattle.program_text.specs.Lines.{term_text}
use Rattle.program_text.proofs.terms.write_costs.Given as goal

abbrev pub invariant-loop-var : goal.invariant-loop-var
invariant-loop-var g l =
    (g.K.Sink.taken l.out ≡ behind (g.K.Sink.taken l.fn.out) (each_below (λ v. term_text (net_of l.net) v (by_number (net_of l.net) (costs (net_of l.net)) v)) l.var))
    × Grows (g.K.Sink.faults l.fn.out) (g.K.Sink.faults l.out)

use Rattle.std.proofs.Common.{◌≡◌, take}
use Rattle.std.specs.List.{flat_map}
use Rattle.edge_io.specs.Counts.{Grows}
use Rattle.edge_io.specs.Writing.{behind}
use Rattle.pool_model.specs.Network.{net_of}
use Rattle.program_text.specs.Lines.{written_term}
use Rattle.program_text.proofs.terms.write_terms.Given as goal

abbrev pub invariant-loop-term : goal.invariant-loop-term
invariant-loop-term g l =
    (g.K.Sink.taken l.out ≡ behind (g.K.Sink.taken l.fn.out) (flat_map (λ t. written_term (net_of l.net) t.var t.coef) (take l.term-index l.terms)))
    × Grows (g.K.Sink.faults l.fn.out) (g.K.Sink.faults l.out)

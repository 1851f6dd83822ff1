use Rattle.std.proofs.lemmas.Result.{err_from_is_err_and}
use Rattle.pool_model.specs.Network.{net_of}
use Rattle.linear_program.specs.declared.terms.Term.{Term}
use Rattle.edge_io.proofs.Writes.{front-list}
use Rattle.program_text.specs.Lines.{written_term}
use Rattle.program_text.proofs.terms.write_terms.Goals as goal

pub returns-in_err-write_term-clause-wrote : goal.returns-in_err-write_term-clause-wrote
returns-in_err-write_term-clause-wrote g c =
    let n = net_of c.args.net.now in
    let p = err_from_is_err_and c.from_residual.result c.from_residual.ensures.1 in
    rw p.1 (front-list (λ (t : Term). written_term n t.var t.coef) c.args.terms.now c.loop-term.term-index _ (g.K.Sink.taken c.args.out.now) (g.K.Sink.taken c.loop-term.out)
    (g.K.Sink.taken c.write_term.new.out) c.loop-term-test.true c.loop-term.invariant.0 c.in_err-write_term.ensures.wrote)

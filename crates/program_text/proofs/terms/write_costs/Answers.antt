use Rattle.std.proofs.Common.{ℕ, arith}
use Rattle.std.proofs.lemmas.Result.{err_from_is_err_and}
use Rattle.pool_model.specs.Network.{net_of}
use Rattle.row_model.specs.Variables.{by_number, costs, variables}
use Rattle.program_text.specs.Lines.{term_text}
use Rattle.text_pieces.proofs.Each.{front-each}
use Rattle.program_text.proofs.terms.write_costs.Goals as goal

pub returns-in_err-write_cost-clause-wrote : goal.returns-in_err-write_cost-clause-wrote
returns-in_err-write_cost-clause-wrote g c =
    let n = net_of c.args.net.now in
    let p = err_from_is_err_and c.from_residual.result c.from_residual.ensures.1 in
    rw p.1 (front-each (λ (v : ℕ). term_text n v (by_number n (costs n) v)) c.loop-var.var (variables n) (g.K.Sink.taken c.args.out.now) (g.K.Sink.taken c.loop-var.out)
    (g.K.Sink.taken c.write_cost.new.out) (omega (arith, c.vars-var-end.ensures.count)) c.loop-var.invariant.0 c.in_err-write_cost.ensures.wrote)

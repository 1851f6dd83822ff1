use Rattle.std.proofs.Common.{[], ◌∷◌, ◌++◌}
use Rattle.std.specs.Prelude.{codes}
use Rattle.std.proofs.lemmas.Result.{err_from_is_err_and}
use Rattle.edge_io.proofs.Writes.{front-first, front-second, wrote-three}
use Rattle.pool_model.specs.Network.{net_of}
use Rattle.row_model.specs.Variables.{by_number, costs}
use Rattle.program_text.specs.Lines.{terms_text}
use Rattle.program_text.proofs.lines.write_cost_line.Goals as goal

pub returns-in_err-write_whole-clause-wrote : goal.returns-in_err-write_whole-clause-wrote
returns-in_err-write_whole-clause-wrote g c =
    let n = net_of c.args.net.now in
    let p = err_from_is_err_and c.from_residual.result c.from_residual.ensures.1 in
    rw p.1 (front-first (g.K.Sink.taken c.args.out.now) (codes "min") (terms_text n (by_number n (costs n)) ++ (10 ∷ [])) (g.K.Sink.taken c.write_whole.new.out) c.in_err-write_whole.ensures.wrote)

pub returns-in_err-write_costs-clause-wrote : goal.returns-in_err-write_costs-clause-wrote
returns-in_err-write_costs-clause-wrote g c =
    let n = net_of c.args.net.now in
    let p = err_from_is_err_and c.from_residual-in_err-write_costs.result c.from_residual-in_err-write_costs.ensures.1 in
    rw p.1 (front-second (g.K.Sink.taken c.args.out.now) (codes "min") (g.K.Sink.taken c.write_whole.new.out) (terms_text n (by_number n (costs n))) (10 ∷ [])
    (g.K.Sink.taken c.write_costs.new.out) c.in_ok-write_whole.ensures.wrote c.in_err-write_costs.ensures.wrote)

pub returns-clause-wrote : goal.returns-clause-wrote
returns-clause-wrote g c =
    let n = net_of c.args.net.now in
    wrote-three c.write_whole-2.result (g.K.Sink.taken c.args.out.now) (codes "min") (g.K.Sink.taken c.write_whole.new.out) (terms_text n (by_number n (costs n)))
    (g.K.Sink.taken c.write_costs.new.out) (10 ∷ []) (g.K.Sink.taken c.write_whole-2.new.out)
    c.in_ok-write_whole.ensures.wrote c.in_ok-write_costs.ensures.wrote c.write_whole-2.ensures.wrote

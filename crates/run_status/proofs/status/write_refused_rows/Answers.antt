use Rattle.std.proofs.Common.{◌≡◌, ◌++◌, codes, pos, ◌∙◌, FitsSigned, rules}
use Rattle.std.proofs.lemmas.Int.{to_z-of_z}
use mir.Syntax.{w128}
use mir.Val.{to_z, of_z}
use Rattle.std.specs.Fmt.{signed_decimal}
use Rattle.std.proofs.lemmas.Result.{err_from_is_err_and}
use Rattle.edge_io.proofs.Writes.{front-first, wrote-behind}
use Rattle.network_parts.specs.FirstFault as faults
use Rattle.run_status.proofs.status.write_refused_rows.Goals as goal

pub returns-in_err-write_number-clause-wrote : goal.returns-in_err-write_number-clause-wrote
returns-in_err-write_number-clause-wrote g c =
    let p = err_from_is_err_and c.from_residual.result c.from_residual.ensures.1 in
    let fits : FitsSigned w128 c.from.result = search rules in
    let number : to_z w128 (of_z w128 c.from.result) ≡ pos c.args.cause = to_z-of_z w128 c.from.result fits ∙ c.from.ensures in
    rw p.1 (front-first (g.K.Sink.taken c.args.err.now) (signed_decimal (pos c.args.cause)) (codes " " ++ signed_decimal (pos (faults.number c.args.fault.now)))
    (g.K.Sink.taken c.write_number.new.out) (rw number at c.in_err-write_number.ensures.wrote))

pub returns-clause-wrote : goal.returns-clause-wrote
returns-clause-wrote g c =
    let fits : FitsSigned w128 c.from.result = search rules in
    let number : to_z w128 (of_z w128 c.from.result) ≡ pos c.args.cause = to_z-of_z w128 c.from.result fits ∙ c.from.ensures in
    wrote-behind c.write_rows_fault.result (g.K.Sink.taken c.args.err.now) (signed_decimal (pos c.args.cause)) (g.K.Sink.taken c.write_number.new.out)
    (codes " " ++ signed_decimal (pos (faults.number c.args.fault.now))) (g.K.Sink.taken c.write_rows_fault.new.err)
    (rw number at c.in_ok-write_number.ensures.wrote) c.write_rows_fault.ensures.wrote

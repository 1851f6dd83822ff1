use Rattle.std.proofs.Common.{◌≡◌, ℤ, codes, pos, ap, subst, ◌∙◌, FitsSigned, rules}
use Rattle.std.proofs.lemmas.Int.{to_z-of_z}
use mir.Syntax.{w128}
use mir.Val.{to_z, of_z}
use Rattle.std.specs.Fmt.{signed_decimal}
use Rattle.std.proofs.lemmas.Result.{err_from_is_err_and}
use Rattle.edge_io.specs.Writing.{Wrote}
use Rattle.edge_io.proofs.Writes.{front-first, wrote-behind}
use Rattle.network_parts.specs.FirstFault as faults
use Rattle.run_status.proofs.status.write_rows_fault.Goals as goal

pub returns-in_err-write_whole-clause-wrote : goal.returns-in_err-write_whole-clause-wrote
returns-in_err-write_whole-clause-wrote g c =
    let p = err_from_is_err_and c.from_residual.result c.from_residual.ensures.1 in
    rw p.1 (front-first (g.K.Sink.taken c.args.err.now) (codes " ") (signed_decimal (pos (faults.number c.args.fault.now))) (g.K.Sink.taken c.write_whole.new.out) c.in_err-write_whole.ensures.wrote)

pub returns-clause-wrote : goal.returns-clause-wrote
returns-clause-wrote g c =
    let fits : FitsSigned w128 c.from.result = search rules in
    let number : to_z w128 (of_z w128 c.from.result) ≡ pos (faults.number c.args.fault.now) = to_z-of_z w128 c.from.result fits ∙ c.from.ensures ∙ ap pos c.number.ensures in
    let wrote = subst (λ (z : ℤ). Wrote c.write_number.result (g.K.Sink.taken c.write_whole.new.out) (signed_decimal z) (g.K.Sink.taken c.write_number.new.out)) number c.write_number.ensures.wrote in
    wrote-behind c.write_number.result (g.K.Sink.taken c.args.err.now) (codes " ") (g.K.Sink.taken c.write_whole.new.out)
    (signed_decimal (pos (faults.number c.args.fault.now))) (g.K.Sink.taken c.write_number.new.out) c.in_ok-write_whole.ensures.wrote wrote

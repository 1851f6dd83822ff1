use Rattle.std.proofs.Common.{FitsSigned, rules}
use Rattle.std.proofs.lemmas.Int.{to_z-of_z}
use Rattle.std.proofs.lemmas.Result.{err_from_is_err_and}
use mir.Syntax.{w128}
use Rattle.pool_model.specs.Network.{net_of}
use Rattle.box_space.specs.Views.{shown_proof, shown_box}
use Rattle.row_book.proofs.Answered.{answer-ok, answer-fault}
use Rattle.row_book.proofs.valuation.judged.Goals as goal

pub returns-in_err-check_rows-clause-fault : goal.returns-in_err-check_rows-clause-fault
returns-in_err-check_rows-clause-fault c =
    let exit = err_from_is_err_and c.from_residual.result c.from_residual.ensures.1 in
    rw (exit.1, exit.2) (c.in_err-check_rows.ensures.fault (shown_box c.args.v.now))

pub returns-clause-ok : goal.returns-clause-ok
returns-clause-ok c =
    let number : FitsSigned w128 c.in_ok-number.number = search rules in
    let said = c.in_ok-number.ensures in
    answer-ok (net_of c.args.net.now) (shown_box c.args.v.now) (shown_proof c.args.proof.now) c.in_ok-number.number said.in_order said.narrow said.number
    c.shown_by.result (simp to_z-of_z at c.shown_by.ensures.shown) (simp to_z-of_z at c.shown_by.ensures.above)

pub returns-clause-fault : goal.returns-clause-fault
returns-clause-fault c =
    let number : FitsSigned w128 c.in_ok-number.number = search rules in
    let said = c.in_ok-number.ensures in
    answer-fault (net_of c.args.net.now) (shown_box c.args.v.now) (shown_proof c.args.proof.now) c.in_ok-number.number said.in_order said.narrow said.number
    c.shown_by.result c.shown_by.ensures.fault (simp to_z-of_z at c.shown_by.ensures.nothing)

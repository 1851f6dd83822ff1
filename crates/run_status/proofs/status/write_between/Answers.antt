use Rattle.std.proofs.Common.{◌≡◌, ◌++◌, pos, ◌∙◌, FitsSigned, rules}
use Rattle.std.proofs.lemmas.Int.{to_z-of_z}
use mir.Syntax.{w128}
use mir.Val.{to_z, of_z}
use Rattle.std.specs.Fmt.{signed_decimal}
use Rattle.std.proofs.lemmas.Result.{err_from_is_err_and}
use Rattle.edge_io.proofs.Writes.{front-first, front-behind, wrote-behind}
use Rattle.run_status.proofs.status.write_between.Goals as goal

pub returns-in_err-write_whole-clause-wrote : goal.returns-in_err-write_whole-clause-wrote
returns-in_err-write_whole-clause-wrote g c =
    let p = err_from_is_err_and c.from_residual.result c.from_residual.ensures.1 in
    rw p.1 (front-first (g.K.Sink.taken c.args.err.now) c.args.before.now (signed_decimal (pos c.args.number) ++ c.args.behind.now)
    (g.K.Sink.taken c.write_whole.new.out) c.in_err-write_whole.ensures.wrote)

pub returns-in_err-write_number-clause-wrote : goal.returns-in_err-write_number-clause-wrote
returns-in_err-write_number-clause-wrote g c =
    let p = err_from_is_err_and c.from_residual-in_err-write_number.result c.from_residual-in_err-write_number.ensures.1 in
    let fits : FitsSigned w128 c.from.result = search rules in
    let number : to_z w128 (of_z w128 c.from.result) ≡ pos c.args.number = to_z-of_z w128 c.from.result fits ∙ c.from.ensures in
    rw p.1 (front-behind (g.K.Sink.taken c.args.err.now) c.args.before.now (g.K.Sink.taken c.write_whole.new.out)
    (signed_decimal (pos c.args.number) ++ c.args.behind.now) (g.K.Sink.taken c.write_number.new.out) c.in_ok-write_whole.ensures.wrote
    (front-first (g.K.Sink.taken c.write_whole.new.out) (signed_decimal (pos c.args.number)) c.args.behind.now (g.K.Sink.taken c.write_number.new.out)
    (rw number at c.in_err-write_number.ensures.wrote)))

pub returns-clause-wrote : goal.returns-clause-wrote
returns-clause-wrote g c =
    let fits : FitsSigned w128 c.from.result = search rules in
    let number : to_z w128 (of_z w128 c.from.result) ≡ pos c.args.number = to_z-of_z w128 c.from.result fits ∙ c.from.ensures in
    wrote-behind c.write_whole-2.result (g.K.Sink.taken c.args.err.now) c.args.before.now (g.K.Sink.taken c.write_whole.new.out)
    (signed_decimal (pos c.args.number) ++ c.args.behind.now) (g.K.Sink.taken c.write_whole-2.new.out) c.in_ok-write_whole.ensures.wrote
    (wrote-behind c.write_whole-2.result (g.K.Sink.taken c.write_whole.new.out) (signed_decimal (pos c.args.number))
    (g.K.Sink.taken c.write_number.new.out) c.args.behind.now (g.K.Sink.taken c.write_whole-2.new.out) (rw number at c.in_ok-write_number.ensures.wrote) c.write_whole-2.ensures.wrote)

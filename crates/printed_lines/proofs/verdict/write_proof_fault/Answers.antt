use Rattle.std.proofs.Common.{FitsSigned, rules, pos, codes}
use Rattle.std.specs.Int.{w128}
use Rattle.std.proofs.lemmas.Int.{to_z-of_z}
use Rattle.std.proofs.lemmas.Result.{err_from_is_err_and}
use Rattle.edge_io.proofs.Writes.{front-first, wrote-behind}
use Rattle.row_book.specs.Faults as proofs
use Rattle.printed_lines.specs.Verdicts.{labelled, numbered}
use Rattle.printed_lines.proofs.verdict.write_proof_fault.Goals as goal

pub returns-in_err-write_labelled-clause-wrote : goal.returns-in_err-write_labelled-clause-wrote
returns-in_err-write_labelled-clause-wrote g c =
    let fits : FitsSigned w128 (pos c.args.node) = search rules in
    let p = err_from_is_err_and c.from_residual.result c.from_residual.ensures.1 in
    rw p.1 (front-first (g.K.Sink.taken c.args.out.now) (labelled (codes "refused proof ") (pos c.args.node))
    (numbered (codes " ") (pos (proofs.number c.args.fault.now))) (g.K.Sink.taken c.write_labelled.new.out) (simp to_z-of_z at (rw c.from.ensures at c.in_err-write_labelled.ensures.wrote)))

pub returns-clause-wrote : goal.returns-clause-wrote
returns-clause-wrote g c =
    let fits : FitsSigned w128 (pos c.args.node) = search rules in
    wrote-behind c.write_placed.result (g.K.Sink.taken c.args.out.now) (labelled (codes "refused proof ") (pos c.args.node))
    (g.K.Sink.taken c.write_labelled.new.out) (numbered (codes " ") (pos (proofs.number c.args.fault.now)))
    (g.K.Sink.taken c.write_placed.new.out) (simp to_z-of_z at (rw c.from.ensures at c.in_ok-write_labelled.ensures.wrote))
    (rw c.number.ensures at (rw c.from-2.ensures at c.write_placed.ensures.wrote))

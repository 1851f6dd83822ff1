use Rattle.std.proofs.Common.{FitsSigned, rules, pos, codes, ◌++◌}
use Rattle.std.specs.Int.{w128}
use Rattle.std.proofs.lemmas.Int.{to_z-of_z}
use Rattle.std.proofs.lemmas.Result.{err_from_is_err_and}
use Rattle.edge_io.proofs.Writes.{front-first, front-second, front-third, wrote-four}
use Rattle.printed_lines.specs.Verdicts.{labelled, numbered}
use Rattle.printed_lines.proofs.verdict.write_gap.Goals as goal

pub returns-in_err-write_labelled-clause-wrote : goal.returns-in_err-write_labelled-clause-wrote
returns-in_err-write_labelled-clause-wrote g c =
    let fits_cost : FitsSigned w128 c.args.cost = search rules in
    let fits_base : FitsSigned w128 (pos c.args.base) = search rules in
    let fits_bound : FitsSigned w128 c.args.bound = search rules in
    let fits_gap : FitsSigned w128 c.args.gap = search rules in
    let p = err_from_is_err_and c.from_residual.result c.from_residual.ensures.1 in
    rw p.1 (front-first (g.K.Sink.taken c.args.out.now) (labelled (codes "accepted gap cost ") c.args.cost)
    ((labelled (codes " base ") (pos c.args.base)) ++ ((labelled (codes " bound ") c.args.bound) ++ (numbered (codes " gap ") c.args.gap)))
    (g.K.Sink.taken c.write_labelled.new.out) (simp to_z-of_z at c.in_err-write_labelled.ensures.wrote))

pub returns-in_err-write_labelled-2-clause-wrote : goal.returns-in_err-write_labelled-2-clause-wrote
returns-in_err-write_labelled-2-clause-wrote g c =
    let fits_cost : FitsSigned w128 c.args.cost = search rules in
    let fits_base : FitsSigned w128 (pos c.args.base) = search rules in
    let fits_bound : FitsSigned w128 c.args.bound = search rules in
    let fits_gap : FitsSigned w128 c.args.gap = search rules in
    let p = err_from_is_err_and c.from_residual-in_err-write_labelled-2.result c.from_residual-in_err-write_labelled-2.ensures.1 in
    rw p.1 (front-second (g.K.Sink.taken c.args.out.now) (labelled (codes "accepted gap cost ") c.args.cost) (g.K.Sink.taken c.write_labelled.new.out)
    (labelled (codes " base ") (pos c.args.base)) ((labelled (codes " bound ") c.args.bound) ++ (numbered (codes " gap ") c.args.gap))
    (g.K.Sink.taken c.write_labelled-2.new.out) (simp to_z-of_z at c.in_ok-write_labelled.ensures.wrote) (simp to_z-of_z at (rw c.from.ensures at c.in_err-write_labelled-2.ensures.wrote)))

pub returns-in_err-write_labelled-3-clause-wrote : goal.returns-in_err-write_labelled-3-clause-wrote
returns-in_err-write_labelled-3-clause-wrote g c =
    let fits_cost : FitsSigned w128 c.args.cost = search rules in
    let fits_base : FitsSigned w128 (pos c.args.base) = search rules in
    let fits_bound : FitsSigned w128 c.args.bound = search rules in
    let fits_gap : FitsSigned w128 c.args.gap = search rules in
    let p = err_from_is_err_and c.from_residual-in_err-write_labelled-3.result c.from_residual-in_err-write_labelled-3.ensures.1 in
    rw p.1 (front-third (g.K.Sink.taken c.args.out.now) (labelled (codes "accepted gap cost ") c.args.cost) (g.K.Sink.taken c.write_labelled.new.out)
    (labelled (codes " base ") (pos c.args.base)) (g.K.Sink.taken c.write_labelled-2.new.out) (labelled (codes " bound ") c.args.bound)
    (numbered (codes " gap ") c.args.gap) (g.K.Sink.taken c.write_labelled-3.new.out) (simp to_z-of_z at c.in_ok-write_labelled.ensures.wrote)
    (simp to_z-of_z at (rw c.from.ensures at c.in_ok-write_labelled-2.ensures.wrote)) (simp to_z-of_z at c.in_err-write_labelled-3.ensures.wrote))

pub returns-clause-wrote : goal.returns-clause-wrote
returns-clause-wrote g c =
    let fits_cost : FitsSigned w128 c.args.cost = search rules in
    let fits_base : FitsSigned w128 (pos c.args.base) = search rules in
    let fits_bound : FitsSigned w128 c.args.bound = search rules in
    let fits_gap : FitsSigned w128 c.args.gap = search rules in
    wrote-four c.write_numbered.result (g.K.Sink.taken c.args.out.now) (labelled (codes "accepted gap cost ") c.args.cost)
    (g.K.Sink.taken c.write_labelled.new.out) (labelled (codes " base ") (pos c.args.base)) (g.K.Sink.taken c.write_labelled-2.new.out)
    (labelled (codes " bound ") c.args.bound) (g.K.Sink.taken c.write_labelled-3.new.out) (numbered (codes " gap ") c.args.gap)
    (g.K.Sink.taken c.write_numbered.new.out) (simp to_z-of_z at c.in_ok-write_labelled.ensures.wrote)
    (simp to_z-of_z at (rw c.from.ensures at c.in_ok-write_labelled-2.ensures.wrote)) (simp to_z-of_z at c.in_ok-write_labelled-3.ensures.wrote) (simp to_z-of_z at c.write_numbered.ensures.wrote)

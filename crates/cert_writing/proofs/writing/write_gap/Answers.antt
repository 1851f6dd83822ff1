use Rattle.std.proofs.Common.{rules, [], ◌∷◌, ◌++◌}
use Rattle.std.proofs.lemmas.Int.{to_z-of_z}
use Rattle.std.proofs.lemmas.Result.{err_from_is_err_and}
use Rattle.edge_io.proofs.Writes.{front-first, front-second, wrote-three}
use Rattle.std.specs.Prelude.{decimal, codes, pos, FitsSigned}
use Rattle.std.specs.Int.{w128}
use Rattle.std.specs.Fmt.{signed_decimal}
use Rattle.cert_writing.specs.Text.{line}
use Rattle.cert_writing.proofs.writing.write_gap.Goals as goal

pub returns-in_err-write_line-clause-wrote : goal.returns-in_err-write_line-clause-wrote
returns-in_err-write_line-clause-wrote g c =
    let fits_cost : FitsSigned w128 c.args.cost = search rules in
    let fits_base : FitsSigned w128 (pos c.args.base) = search rules in
    let fits_bound : FitsSigned w128 c.args.bound = search rules in
    let fits_gap : FitsSigned w128 c.args.gap = search rules in
    let p = err_from_is_err_and c.from_residual.result c.from_residual.ensures.1 in
    rw p.1 (front-first (g.K.Sink.taken c.args.out.now) (line (codes "cost") (signed_decimal c.args.cost ∷ decimal c.args.base ∷ []))
    ((line (codes "bound") (signed_decimal c.args.bound ∷ [])) ++ ((line (codes "gap") (signed_decimal c.args.gap ∷ decimal c.args.base ∷ [])))) (g.K.Sink.taken c.write_line.new.out)
    (simp to_z-of_z at (rw c.from.ensures at c.in_err-write_line.ensures.wrote)))

pub returns-in_err-write_line-2-clause-wrote : goal.returns-in_err-write_line-2-clause-wrote
returns-in_err-write_line-2-clause-wrote g c =
    let fits_cost : FitsSigned w128 c.args.cost = search rules in
    let fits_base : FitsSigned w128 (pos c.args.base) = search rules in
    let fits_bound : FitsSigned w128 c.args.bound = search rules in
    let fits_gap : FitsSigned w128 c.args.gap = search rules in
    let p = err_from_is_err_and c.from_residual-in_err-write_line-2.result c.from_residual-in_err-write_line-2.ensures.1 in
    rw p.1 (front-second (g.K.Sink.taken c.args.out.now) (line (codes "cost") (signed_decimal c.args.cost ∷ decimal c.args.base ∷ []))
    (g.K.Sink.taken c.write_line.new.out) (line (codes "bound") (signed_decimal c.args.bound ∷ []))
    ((line (codes "gap") (signed_decimal c.args.gap ∷ decimal c.args.base ∷ []))) (g.K.Sink.taken c.write_line-2.new.out)
    (simp to_z-of_z at (rw c.from.ensures at c.in_ok-write_line.ensures.wrote)) (simp to_z-of_z at c.in_err-write_line-2.ensures.wrote))

pub returns-clause-wrote : goal.returns-clause-wrote
returns-clause-wrote g c =
    let fits_cost : FitsSigned w128 c.args.cost = search rules in
    let fits_base : FitsSigned w128 (pos c.args.base) = search rules in
    let fits_bound : FitsSigned w128 c.args.bound = search rules in
    let fits_gap : FitsSigned w128 c.args.gap = search rules in
    wrote-three c.write_line-3.result (g.K.Sink.taken c.args.out.now) (line (codes "cost") (signed_decimal c.args.cost ∷ decimal c.args.base ∷ []))
    (g.K.Sink.taken c.write_line.new.out) (line (codes "bound") (signed_decimal c.args.bound ∷ [])) (g.K.Sink.taken c.write_line-2.new.out)
    (line (codes "gap") (signed_decimal c.args.gap ∷ decimal c.args.base ∷ [])) (g.K.Sink.taken c.write_line-3.new.out)
    (simp to_z-of_z at (rw c.from.ensures at c.in_ok-write_line.ensures.wrote)) (simp to_z-of_z at c.in_ok-write_line-2.ensures.wrote)
    (simp to_z-of_z at (rw c.from-2.ensures at c.write_line-3.ensures.wrote))

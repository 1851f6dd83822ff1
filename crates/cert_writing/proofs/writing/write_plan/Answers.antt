use Rattle.std.proofs.Common.{[], ◌∷◌, ◌++◌}
use Rattle.std.proofs.lemmas.Result.{err_from_is_err_and}
use Rattle.edge_io.proofs.Writes.{front-first, front-second, front-third, wrote-four}
use Rattle.std.specs.Prelude.{map, decimal, codes}
use Rattle.cert_writing.specs.Text.{line}
use Rattle.cert_writing.proofs.writing.write_plan.Goals as goal

pub returns-in_err-write_line-clause-wrote : goal.returns-in_err-write_line-clause-wrote
returns-in_err-write_line-clause-wrote g c =
    let p = err_from_is_err_and c.from_residual.result c.from_residual.ensures.1 in
    rw p.1 (front-first (g.K.Sink.taken c.args.out.now) (line (codes "plan") (decimal c.args.plan.now.base ∷ decimal c.args.plan.now.flow_base ∷ []))
    ((line (codes "weights") (map decimal c.args.plan.now.weights.items)) ++
    ((line (codes "outflows") (map decimal c.args.plan.now.outflows.items)) ++ ((line (codes "direct") (map decimal c.args.plan.now.direct.items))))) (g.K.Sink.taken c.write_line.new.out)
    c.in_err-write_line.ensures.wrote)

pub returns-in_err-write_line-2-clause-wrote : goal.returns-in_err-write_line-2-clause-wrote
returns-in_err-write_line-2-clause-wrote g c =
    let p = err_from_is_err_and c.from_residual-in_err-write_line-2.result c.from_residual-in_err-write_line-2.ensures.1 in
    rw p.1 (front-second (g.K.Sink.taken c.args.out.now) (line (codes "plan") (decimal c.args.plan.now.base ∷ decimal c.args.plan.now.flow_base ∷ []))
    (g.K.Sink.taken c.write_line.new.out) (line (codes "weights") (map decimal c.args.plan.now.weights.items))
    ((line (codes "outflows") (map decimal c.args.plan.now.outflows.items)) ++ ((line (codes "direct") (map decimal c.args.plan.now.direct.items)))) (g.K.Sink.taken c.write_line-2.new.out)
    c.in_ok-write_line.ensures.wrote (rw c.as_slice.ensures.value at c.in_err-write_line-2.ensures.wrote))

pub returns-in_err-write_line-3-clause-wrote : goal.returns-in_err-write_line-3-clause-wrote
returns-in_err-write_line-3-clause-wrote g c =
    let p = err_from_is_err_and c.from_residual-in_err-write_line-3.result c.from_residual-in_err-write_line-3.ensures.1 in
    rw p.1 (front-third (g.K.Sink.taken c.args.out.now) (line (codes "plan") (decimal c.args.plan.now.base ∷ decimal c.args.plan.now.flow_base ∷ []))
    (g.K.Sink.taken c.write_line.new.out) (line (codes "weights") (map decimal c.args.plan.now.weights.items))
    (g.K.Sink.taken c.write_line-2.new.out) (line (codes "outflows") (map decimal c.args.plan.now.outflows.items))
    ((line (codes "direct") (map decimal c.args.plan.now.direct.items))) (g.K.Sink.taken c.write_line-3.new.out)
    c.in_ok-write_line.ensures.wrote (rw c.as_slice.ensures.value at c.in_ok-write_line-2.ensures.wrote) (rw c.as_slice-2.ensures.value at c.in_err-write_line-3.ensures.wrote))

pub returns-clause-wrote : goal.returns-clause-wrote
returns-clause-wrote g c =
    wrote-four c.write_line-4.result (g.K.Sink.taken c.args.out.now)
    (line (codes "plan") (decimal c.args.plan.now.base ∷ decimal c.args.plan.now.flow_base ∷ [])) (g.K.Sink.taken c.write_line.new.out)
    (line (codes "weights") (map decimal c.args.plan.now.weights.items)) (g.K.Sink.taken c.write_line-2.new.out)
    (line (codes "outflows") (map decimal c.args.plan.now.outflows.items)) (g.K.Sink.taken c.write_line-3.new.out)
    (line (codes "direct") (map decimal c.args.plan.now.direct.items)) (g.K.Sink.taken c.write_line-4.new.out)
    c.in_ok-write_line.ensures.wrote (rw c.as_slice.ensures.value at c.in_ok-write_line-2.ensures.wrote)
    (rw c.as_slice-2.ensures.value at c.in_ok-write_line-3.ensures.wrote) (rw c.as_slice-3.ensures.value at c.write_line-4.ensures.wrote)

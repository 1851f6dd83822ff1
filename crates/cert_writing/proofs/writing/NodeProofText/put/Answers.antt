use Rattle.std.proofs.Common.{[], ◌∷◌, ◌++◌, subst, List, ℕ}
use Rattle.std.specs.Prelude.{codes, decimal}
use Rattle.std.specs.List.{flat_map}
use Rattle.std.proofs.lemmas.Result.{err_from_is_err_and}
use Rattle.edge_io.specs.Writing.{Wrote, TookFront}
use Rattle.edge_io.proofs.Writes.{front-first, front-second, front-third, wrote-four}
use Rattle.cert_writing.specs.Text.{field}
use Rattle.cert_writing.proofs.Pieces.{proof_fields, node_text}
use Rattle.cert_writing.proofs.writing.NodeProofText.put.Goals as goal

pub returns-in_err-write_whole-clause-wrote : goal.returns-in_err-write_whole-clause-wrote
returns-in_err-write_whole-clause-wrote g c =
    let p = err_from_is_err_and c.from_residual.result c.from_residual.ensures.1 in
    let t = c.args.self.now in
    rw p.1 (subst (λ (w : List ℕ). TookFront (g.K.Sink.taken c.args.out.now) w (g.K.Sink.taken c.write_whole.new.out)) (node_text t)
    (front-first (g.K.Sink.taken c.args.out.now) (codes "proof") (flat_map field (decimal t.node ∷ []) ++ (proof_fields t.proof ++ 10 ∷ []))
    (g.K.Sink.taken c.write_whole.new.out) c.in_err-write_whole.ensures.wrote))

pub returns-in_err-write_fields-clause-wrote : goal.returns-in_err-write_fields-clause-wrote
returns-in_err-write_fields-clause-wrote g c =
    let p = err_from_is_err_and c.from_residual-in_err-write_fields.result c.from_residual-in_err-write_fields.ensures.1 in
    let t = c.args.self.now in
    rw p.1 (subst (λ (w : List ℕ). TookFront (g.K.Sink.taken c.args.out.now) w (g.K.Sink.taken c.write_fields.new.out)) (node_text t)
    (front-second (g.K.Sink.taken c.args.out.now) (codes "proof") (g.K.Sink.taken c.write_whole.new.out) (flat_map field (decimal t.node ∷ []))
    (proof_fields t.proof ++ 10 ∷ []) (g.K.Sink.taken c.write_fields.new.out) c.in_ok-write_whole.ensures.wrote c.in_err-write_fields.ensures.wrote))

pub returns-in_err-put-clause-wrote : goal.returns-in_err-put-clause-wrote
returns-in_err-put-clause-wrote g c =
    let p = err_from_is_err_and c.from_residual-in_err-put.result c.from_residual-in_err-put.ensures.1 in
    let t = c.args.self.now in
    rw p.1 (subst (λ (w : List ℕ). TookFront (g.K.Sink.taken c.args.out.now) w (g.K.Sink.taken c.put.new.out)) (node_text t)
    (front-third (g.K.Sink.taken c.args.out.now) (codes "proof") (g.K.Sink.taken c.write_whole.new.out) (flat_map field (decimal t.node ∷ []))
    (g.K.Sink.taken c.write_fields.new.out) (proof_fields t.proof) (10 ∷ []) (g.K.Sink.taken c.put.new.out)
    c.in_ok-write_whole.ensures.wrote c.in_ok-write_fields.ensures.wrote c.in_err-put.ensures.wrote))

pub returns-clause-wrote : goal.returns-clause-wrote
returns-clause-wrote g c =
    let t = c.args.self.now in
    subst (λ (w : List ℕ). Wrote c.write_whole-2.result (g.K.Sink.taken c.args.out.now) w (g.K.Sink.taken c.write_whole-2.new.out)) (node_text t)
    (wrote-four c.write_whole-2.result (g.K.Sink.taken c.args.out.now) (codes "proof") (g.K.Sink.taken c.write_whole.new.out)
    (flat_map field (decimal t.node ∷ [])) (g.K.Sink.taken c.write_fields.new.out) (proof_fields t.proof) (g.K.Sink.taken c.put.new.out)
    (10 ∷ []) (g.K.Sink.taken c.write_whole-2.new.out)
    c.in_ok-write_whole.ensures.wrote c.in_ok-write_fields.ensures.wrote c.in_ok-put.ensures.wrote c.write_whole-2.ensures.wrote)

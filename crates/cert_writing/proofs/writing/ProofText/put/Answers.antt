use Rattle.std.proofs.Common.{subst, List, ℕ}
use Rattle.std.specs.List.{flat_map}
use Rattle.std.proofs.lemmas.Result.{err_from_is_err_and}
use Rattle.edge_io.specs.Writing.{TookFront}
use Rattle.edge_io.proofs.Writes.{front-first, wrote-behind, wrote-same}
use Rattle.cert_writing.proofs.Pieces.{head_text, part_text, proof_fields, proof_text}
use Rattle.cert_writing.proofs.writing.ProofText.put.Goals as goal

pub returns-in_err-write_fields-clause-wrote : goal.returns-in_err-write_fields-clause-wrote
returns-in_err-write_fields-clause-wrote g c =
    let p = err_from_is_err_and c.from_residual.result c.from_residual.ensures.1 in
    let t = c.args.self.now in
    rw p.1 (subst (λ (w : List ℕ). TookFront (g.K.Sink.taken c.args.out.now) w (g.K.Sink.taken c.write_fields.new.out)) (proof_text t)
    (front-first (g.K.Sink.taken c.args.out.now) (head_text t) (flat_map part_text t.parts.items) (g.K.Sink.taken c.write_fields.new.out)
    (rw c.as_slice-parts.ensures.value at c.in_err-write_fields.ensures.wrote)))

pub returns-clause-wrote : goal.returns-clause-wrote
returns-clause-wrote g c =
    let t = c.args.self.now in
    wrote-same c.write_list.result (g.K.Sink.taken c.args.out.now) _ (proof_fields t) (g.K.Sink.taken c.write_list.new.out) (proof_text t)
    (wrote-behind c.write_list.result (g.K.Sink.taken c.args.out.now) (head_text t) (g.K.Sink.taken c.write_fields.new.out) (flat_map part_text t.parts.items)
    (g.K.Sink.taken c.write_list.new.out) (rw c.as_slice-parts.ensures.value at c.in_ok-write_fields.ensures.wrote) (rw c.as_slice-parts.ensures.value at c.write_list.ensures.wrote))

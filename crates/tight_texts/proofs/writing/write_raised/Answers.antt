use Rattle.std.proofs.Common.{subst, List, ℕ, sym}
use Rattle.std.specs.List.{flat_map}
use Rattle.std.proofs.lemmas.Result.{err_from_is_err_and}
use Rattle.std.proofs.lemmas.List.Concat.{flat_map-append}
use Rattle.edge_io.specs.Writing.{Wrote, TookFront}
use Rattle.edge_io.proofs.Writes.{front-first, wrote-behind}
use Rattle.box_space.specs.Views.{shown_proof}
use Rattle.cert_writing.specs.Text.{field}
use Rattle.tight_texts.specs.Texts.{point_fields, proof_fields}
use Rattle.tight_texts.specs.Views.{shown_values}
use Rattle.tight_texts.proofs.writing.write_raised.Goals as goal

pub returns-in_err-put-clause-wrote : goal.returns-in_err-put-clause-wrote
returns-in_err-put-clause-wrote g c =
    let p = err_from_is_err_and c.from_residual.result c.from_residual.ensures.1 in
    rw p.1 (subst (λ (w : List ℕ). TookFront (g.K.Sink.taken c.args.out.now) w (g.K.Sink.taken c.put.new.out)) (sym (flat_map-append field (proof_fields (shown_proof c.args.proof.now)) (point_fields (shown_values c.args.point.now)))) (front-first (g.K.Sink.taken c.args.out.now) (flat_map field (proof_fields (shown_proof c.args.proof.now))) (flat_map field (point_fields (shown_values c.args.point.now))) (g.K.Sink.taken c.put.new.out) (c.in_err-put.ensures.wrote)))

pub returns-clause-wrote : goal.returns-clause-wrote
returns-clause-wrote g c = subst (λ (w : List ℕ). Wrote c.write_point.result (g.K.Sink.taken c.args.out.now) w (g.K.Sink.taken c.write_point.new.out)) (sym (flat_map-append field (proof_fields (shown_proof c.args.proof.now)) (point_fields (shown_values c.args.point.now)))) (wrote-behind c.write_point.result (g.K.Sink.taken c.args.out.now) (flat_map field (proof_fields (shown_proof c.args.proof.now))) (g.K.Sink.taken c.put.new.out) (flat_map field (point_fields (shown_values c.args.point.now))) (g.K.Sink.taken c.write_point.new.out) (c.in_ok-put.ensures.wrote) (c.write_point.ensures.wrote))

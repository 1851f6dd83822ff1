use Rattle.std.proofs.Common.{subst, List, ℕ, map}
use Rattle.std.specs.Fmt.{signed_decimal}
use Rattle.std.specs.List.{flat_map}
use Rattle.std.proofs.lemmas.Result.{err_from_is_err_and}
use Rattle.edge_io.specs.Writing.{Wrote, TookFront}
use Rattle.edge_io.proofs.Writes.{front-first, wrote-behind}
use Rattle.cert_writing.specs.Text.{field}
use Rattle.tight_texts.proofs.Pieces.{base_text, point_text}
use Rattle.tight_texts.proofs.writing.write_point.Goals as goal

pub returns-in_err-write_fields-clause-wrote : goal.returns-in_err-write_fields-clause-wrote
returns-in_err-write_fields-clause-wrote g c =
    let p = err_from_is_err_and c.from_residual.result c.from_residual.ensures.1 in
    rw p.1 (subst (λ (w : List ℕ). TookFront (g.K.Sink.taken c.args.out.now) w (g.K.Sink.taken c.write_fields.new.out)) (point_text c.args.point.now) (front-first (g.K.Sink.taken c.args.out.now) (base_text c.args.point.now) (flat_map field (map signed_decimal c.args.point.now.values.items)) (g.K.Sink.taken c.write_fields.new.out) (rw c.as_slice-values.ensures.value at c.in_err-write_fields.ensures.wrote)))

pub returns-clause-wrote : goal.returns-clause-wrote
returns-clause-wrote g c = subst (λ (w : List ℕ). Wrote c.write_fields-2.result (g.K.Sink.taken c.args.out.now) w (g.K.Sink.taken c.write_fields-2.new.out)) (point_text c.args.point.now) (wrote-behind c.write_fields-2.result (g.K.Sink.taken c.args.out.now) (base_text c.args.point.now) (g.K.Sink.taken c.write_fields.new.out) (flat_map field (map signed_decimal c.args.point.now.values.items)) (g.K.Sink.taken c.write_fields-2.new.out) (rw c.as_slice-values.ensures.value at c.in_ok-write_fields.ensures.wrote) (rw c.as_slice-values.ensures.value at c.write_fields-2.ensures.wrote))

use Rattle.std.proofs.Common.{◌∷◌}
use Rattle.std.specs.Prelude.{codes}
use Rattle.std.specs.List.{flat_map}
use Rattle.std.proofs.lemmas.Result.{err_from_is_err_and}
use Rattle.edge_io.proofs.Writes.{front-first, wrote-behind}
use Rattle.box_space.specs.Views.{shown_proof}
use Rattle.cert_writing.specs.Text.{field}
use Rattle.tight_texts.specs.Texts.{proof_fields}
use Rattle.tight_texts.proofs.writing.write_heavy_proof.Goals as goal

pub returns-in_err-write_whole-clause-wrote : goal.returns-in_err-write_whole-clause-wrote
returns-in_err-write_whole-clause-wrote g c =
    let p = err_from_is_err_and c.from_residual.result c.from_residual.ensures.1 in
    rw p.1 (front-first (g.K.Sink.taken c.args.out.now) (32 ∷ codes "4") (flat_map field (proof_fields (shown_proof c.args.proof.now))) (g.K.Sink.taken c.write_whole.new.out) (c.in_err-write_whole.ensures.wrote))

pub returns-clause-wrote : goal.returns-clause-wrote
returns-clause-wrote g c = (wrote-behind c.put.result (g.K.Sink.taken c.args.out.now) (32 ∷ codes "4") (g.K.Sink.taken c.write_whole.new.out) (flat_map field (proof_fields (shown_proof c.args.proof.now))) (g.K.Sink.taken c.put.new.out) (c.in_ok-write_whole.ensures.wrote) (c.put.ensures.wrote))

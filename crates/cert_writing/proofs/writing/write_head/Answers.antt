use Rattle.std.proofs.Common.{[], ◌∷◌, ◌++◌}
use Rattle.std.proofs.lemmas.Result.{err_from_is_err_and}
use Rattle.edge_io.proofs.Writes.{front-first, front-second, wrote-three}
use Rattle.std.specs.Prelude.{map, decimal, codes}
use Rattle.cert_writing.specs.Views.{shown_claim}
use Rattle.cert_writing.specs.Text.{line, kind_of}
use Rattle.cert_writing.proofs.writing.write_head.Goals as goal

pub returns-in_err-write_whole-clause-wrote : goal.returns-in_err-write_whole-clause-wrote
returns-in_err-write_whole-clause-wrote g c =
    let p = err_from_is_err_and c.from_residual.result c.from_residual.ensures.1 in
    rw p.1 (front-first (g.K.Sink.taken c.args.out.now) (line (codes "poolcert") (codes "1" ∷ []))
    ((line (codes "kind") (kind_of (shown_claim c.args.cert.now.claim) ∷ [])) ++ ((line (codes "shape") (map decimal c.args.cert.now.shape)))) (g.K.Sink.taken c.write_whole.new.out)
    c.in_err-write_whole.ensures.wrote)

pub returns-in_err-write_kind-clause-wrote : goal.returns-in_err-write_kind-clause-wrote
returns-in_err-write_kind-clause-wrote g c =
    let p = err_from_is_err_and c.from_residual-in_err-write_kind.result c.from_residual-in_err-write_kind.ensures.1 in
    rw p.1 (front-second (g.K.Sink.taken c.args.out.now) (line (codes "poolcert") (codes "1" ∷ [])) (g.K.Sink.taken c.write_whole.new.out)
    (line (codes "kind") (kind_of (shown_claim c.args.cert.now.claim) ∷ [])) ((line (codes "shape") (map decimal c.args.cert.now.shape))) (g.K.Sink.taken c.write_kind.new.out)
    c.in_ok-write_whole.ensures.wrote c.in_err-write_kind.ensures.wrote)

pub returns-clause-wrote : goal.returns-clause-wrote
returns-clause-wrote g c =
    wrote-three c.write_line.result (g.K.Sink.taken c.args.out.now) (line (codes "poolcert") (codes "1" ∷ [])) (g.K.Sink.taken c.write_whole.new.out)
    (line (codes "kind") (kind_of (shown_claim c.args.cert.now.claim) ∷ [])) (g.K.Sink.taken c.write_kind.new.out)
    (line (codes "shape") (map decimal c.args.cert.now.shape)) (g.K.Sink.taken c.write_line.new.out)
    c.in_ok-write_whole.ensures.wrote c.in_ok-write_kind.ensures.wrote c.write_line.ensures.wrote

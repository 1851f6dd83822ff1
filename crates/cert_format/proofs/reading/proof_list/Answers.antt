use Rattle.std.proofs.Common.{map}
use Rattle.std.proofs.lemmas.Result.{err_from_is_err_and}
use Rattle.cert_writing.specs.Views.{shown_node_proof}
use Rattle.cert_text.specs.Reading.{each_at}
use Rattle.cert_text.proofs.Each.{each-push, each-end}
use Rattle.cert_format.specs.Reading.{proof_line_at}
use Rattle.cert_text.proofs.Outcomes.{each-halts}
use Rattle.cert_format.proofs.reading.proof_list.Goals as goal

pub returns-in_err-proof : goal.returns-in_err-proof
returns-in_err-proof g c =
    let p = err_from_is_err_and c.from_residual.result c.from_residual.ensures.1 in
    rw (p.1, p.2) (each-halts (λ _. proof_line_at) c.args.n c.loop.counter (map shown_node_proof c.loop.proofs.items)
    (g.S.Source.at c.loop.src) c.in_err-proof.field-0.0 (g.S.Source.broken c.proof_line.new.src) (each_at (λ _. proof_line_at) c.args.n (g.S.Source.at c.args.src.now)) c.loop-test.true
    c.in_err-proof.ensures c.loop.invariant)

pub loop-preserved : goal.loop-preserved
loop-preserved g c =
    each-push shown_node_proof (λ _. proof_line_at) c.args.n c.loop.counter c.loop.proofs.items c.push.new.self.items (g.S.Source.at c.loop.src)
    (g.S.Source.at c.proof_line.new.src) c.in_ok-proof.proof (each_at (λ _. proof_line_at) c.args.n (g.S.Source.at c.args.src.now)) c.in_ok-push.ensures.items c.loop-test.true
    c.in_ok-proof.ensures c.loop.invariant

pub returns : goal.returns
returns g c = each-end (λ _. proof_line_at) c.args.n c.loop.counter (map shown_node_proof c.loop.proofs.items) (g.S.Source.at c.loop.src)
    (each_at (λ _. proof_line_at) c.args.n (g.S.Source.at c.args.src.now)) c.loop-test.false c.loop.invariant

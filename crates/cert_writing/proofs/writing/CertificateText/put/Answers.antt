use Rattle.std.proofs.Common.{◌++◌}
use Rattle.std.proofs.lemmas.Result.{err_from_is_err_and}
use Rattle.edge_io.proofs.Writes.{front-first, front-second, wrote-three}
use Rattle.cert_writing.specs.Views.{shown_claim, shown_cert}
use Rattle.cert_writing.specs.Text.{head_lines, claimed_plan_lines, rest_lines}
use Rattle.cert_writing.proofs.writing.CertificateText.put.Goals as goal

pub returns-in_err-write_head-clause-wrote : goal.returns-in_err-write_head-clause-wrote
returns-in_err-write_head-clause-wrote g c =
    let p = err_from_is_err_and c.from_residual.result c.from_residual.ensures.1 in
    rw p.1 (front-first (g.K.Sink.taken c.args.out.now) (head_lines (shown_cert c.args.self.now))
    ((claimed_plan_lines (shown_claim c.args.self.now.claim)) ++ ((rest_lines (shown_cert c.args.self.now)))) (g.K.Sink.taken c.write_head.new.out)
    c.in_err-write_head.ensures.wrote)

pub returns-in_err-write_claimed_plan-clause-wrote : goal.returns-in_err-write_claimed_plan-clause-wrote
returns-in_err-write_claimed_plan-clause-wrote g c =
    let p = err_from_is_err_and c.from_residual-in_err-write_claimed_plan.result c.from_residual-in_err-write_claimed_plan.ensures.1 in
    rw p.1 (front-second (g.K.Sink.taken c.args.out.now) (head_lines (shown_cert c.args.self.now)) (g.K.Sink.taken c.write_head.new.out)
    (claimed_plan_lines (shown_claim c.args.self.now.claim)) ((rest_lines (shown_cert c.args.self.now))) (g.K.Sink.taken c.write_claimed_plan.new.out)
    c.in_ok-write_head.ensures.wrote c.in_err-write_claimed_plan.ensures.wrote)

pub returns-clause-wrote : goal.returns-clause-wrote
returns-clause-wrote g c =
    wrote-three c.write_rest.result (g.K.Sink.taken c.args.out.now) (head_lines (shown_cert c.args.self.now)) (g.K.Sink.taken c.write_head.new.out)
    (claimed_plan_lines (shown_claim c.args.self.now.claim)) (g.K.Sink.taken c.write_claimed_plan.new.out) (rest_lines (shown_cert c.args.self.now)) (g.K.Sink.taken c.write_rest.new.out)
    c.in_ok-write_head.ensures.wrote c.in_ok-write_claimed_plan.ensures.wrote c.write_rest.ensures.wrote

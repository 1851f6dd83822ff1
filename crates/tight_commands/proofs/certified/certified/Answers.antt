use Rattle.std.proofs.Common.{Result, IfErr, IfOk, sym, subst}
use Rattle.pool_model.specs.Network.{net_of}
use Rattle.cert_format.specs.Views.{shown_cert}
use Rattle.run_status.specs.Took.{Took}
use Rattle.tight_commands.specs.Certified.{Certifies, IsRefusalOf, RefusedTextOn, uncertified_status}
use Rattle.tight_commands.proofs.Certificates.{ok-certifies, want-refusal, want-took}
use Rattle.tight_commands.proofs.certified.certified.Goals as goal
use Rattle.tight_commands.proofs.certified.certified.Goals.{in-Ok, in-Err}

pub returns-clause-certified : goal.returns-clause-certified
returns-clause-certified g c = elim c.match-check.branch [
  | in-Ok w ↦ subst (λ r. IfOk r (λ cert. Certifies (net_of c.args.net.now) c.args.bytes.now (shown_cert cert))) (sym w.result-is)
      (ok-certifies (net_of c.args.net.now) c.args.bytes.now _ w.in-Ok.ensures.accepted w.accepted.result w.accepted.ensures.spelled)
  | in-Err w ↦ subst (λ r. IfOk r (λ cert. Certifies (net_of c.args.net.now) c.args.bytes.now (shown_cert cert))) (sym w.result-is) tt
]

pub returns-clause-refused : goal.returns-clause-refused
returns-clause-refused g c = elim c.match-check.branch [
  | in-Ok w ↦ subst (λ r. IfErr r (IsRefusalOf (net_of c.args.net.now) c.args.bytes.now)) (sym w.result-is)
      (want-refusal (net_of c.args.net.now) c.args.bytes.now w.accepted.result w.accepted.ensures.memory)
  | in-Err w ↦ subst (λ r. IfErr r (IsRefusalOf (net_of c.args.net.now) c.args.bytes.now)) (sym w.result-is)
      (w.told_refusal.ensures.refused (net_of c.args.net.now) c.args.bytes.now w.in-Err.ensures.refused)
]

pub returns-clause-took : goal.returns-clause-took
returns-clause-took g c =
    let A = RefusedTextOn (net_of c.args.net.now) c.args.bytes.now in
    let old = g.K.Sink.taken c.args.out.now in
    elim c.match-check.branch [
      | in-Ok w ↦ subst (λ r. IfErr r (λ why. Took A (uncertified_status why) old (g.K.Sink.taken c.match-check.out))) (sym w.result-is)
          (subst (λ o. IfErr w.accepted.result (λ why. Took A (uncertified_status why) old (g.K.Sink.taken o))) (sym w.out-is) (want-took A old w.accepted.result w.accepted.ensures.memory))
      | in-Err w ↦ subst (λ r. IfErr r (λ why. Took A (uncertified_status why) old (g.K.Sink.taken c.match-check.out))) (sym w.result-is)
          (subst (λ o. Took A (uncertified_status w.told_refusal.result) old (g.K.Sink.taken o)) (sym w.out-is)
          (w.told_refusal.ensures.took (net_of c.args.net.now) c.args.bytes.now w.in-Err.ensures.refused))
    ]

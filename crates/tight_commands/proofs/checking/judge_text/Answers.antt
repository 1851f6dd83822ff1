use Rattle.pool_model.specs.Network.{net_of}
use Rattle.cert_format.specs.Views.{shown_cert}
use Rattle.run_status.specs.declared.status.Status.TheVariants.{Accepted}
use Rattle.tight_commands.specs.Lines.{accepted_tight_line}
use Rattle.tight_commands.proofs.CheckDone.{accepts, told-judged}
use Rattle.tight_commands.proofs.checking.judge_text.Goals as goal

pub returns-in-Ok-write_accepted_tight-clause-took : goal.returns-in-Ok-write_accepted_tight-clause-took
returns-in-Ok-write_accepted_tight-clause-took g c =
    let line = accepts (net_of c.args.network.now) (shown_cert c.args.certificate.now) c.args.bytes.now c.in-Ok.verdict c.in-Ok.ensures.accepted c.in-Ok.ensures.plans c.in-Ok.ensures.best in
    (accepted_tight_line c.in-Ok.verdict, line, c.in-Ok-write_accepted_tight.ensures.wrote)

pub returns-in-Ok-write_accepted_tight-clause-ends : goal.returns-in-Ok-write_accepted_tight-clause-ends
returns-in-Ok-write_accepted_tight-clause-ends g c = let is = c.in-Ok.ensures.accepted in (is.text, is.spelled, is.holds)

pub returns-in-Err-write_accepted_tight-clause-took : goal.returns-in-Err-write_accepted_tight-clause-took
returns-in-Err-write_accepted_tight-clause-took g c =
    let line = accepts (net_of c.args.network.now) (shown_cert c.args.certificate.now) c.args.bytes.now c.in-Ok.verdict c.in-Ok.ensures.accepted c.in-Ok.ensures.plans c.in-Ok.ensures.best in
    (accepted_tight_line c.in-Ok.verdict, (Accepted, line), c.in-Err-write_accepted_tight.ensures.wrote)

pub returns-in-Err-clause-took : goal.returns-in-Err-clause-took
returns-in-Err-clause-took g c =
    c.tell_refusal.ensures.took (net_of c.args.network.now) (shown_cert c.args.certificate.now) c.args.bytes.now c.in-Err.ensures.refused

pub returns-in-Err-clause-ends : goal.returns-in-Err-clause-ends
returns-in-Err-clause-ends g c =
    told-judged (net_of c.args.network.now) (shown_cert c.args.certificate.now) c.args.bytes.now c.in-Err.refusal c.tell_refusal.result
    c.in-Err.ensures.taken c.tell_refusal.ensures.told

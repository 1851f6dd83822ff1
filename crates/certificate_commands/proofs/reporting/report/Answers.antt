use Rattle.std.proofs.Common.{inl, inr, refl, sym, ap, subst}
use Rattle.run_status.specs.declared.status.Status.{Status}
use Rattle.run_status.specs.declared.status.Status.TheVariants.{ReadFault, WriteFault}
use Rattle.certificate_commands.specs.CheckEnds.{CheckEnds, JudgesAs, check_status}
use Rattle.certificate_commands.specs.declared.judging.Telling.TheVariants.{Report}
use Rattle.certificate_commands.specs.ReportEnds.{as_check}
use Rattle.certificate_commands.proofs.Reported.{as_check-twice, same-status, took-report}
use Rattle.certificate_commands.proofs.reporting.report.Goals as goal

pub returns : goal.returns
returns g c =
    let files = (g.S.Shelf.told c.args.shelf.now).files in
    let status = check_status c.judge.result in
    record {
      took = took-report (JudgesAs Report files c.args.net.now c.args.cert.now) c.judge.result (g.K.Sink.taken c.args.out.now) (g.K.Sink.taken c.judge.new.out) c.judge.ensures.took;
      ends = subst (λ (s : Status). CheckEnds files c.args.net.now c.args.cert.now (g.S.Shelf.told c.args.shelf.now).taken (g.S.Shelf.told c.judge.new.shelf).taken s)
          (sym (as_check-twice status)) c.judge.ensures.ends;
      read_fault = λ e. c.judge.ensures.read_fault (same-status status ReadFault refl e);
      quiet = elim c.judge.ensures.quiet [ inl e ↦ inl (ap as_check e) | inr same ↦ inr same ];
      write_fault = λ e. c.judge.ensures.write_fault (same-status status WriteFault refl e);
    }

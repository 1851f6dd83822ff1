use Rattle.std.proofs.Common.{Option, ap, subst, sym}
use Rattle.run_status.specs.Reads.{Files, ReadsUnder}
use Rattle.run_status.specs.Took.{unread_status}
use Rattle.run_status.proofs.Quiet.{failed_told, quiet_behind}
use Rattle.certificate_commands.specs.CheckEnds.{CheckEnds, check_status}
use Rattle.certificate_commands.proofs.judging.judge.Goals as goal

pub returns-in-Ok-clause-ends : goal.returns-in-Ok-clause-ends
returns-in-Ok-clause-ends g c =
    let reads = subst (λ (f : Option Files). ReadsUnder f c.args.net.now c.in-Ok.network) (sym c.network_under.ensures.kept.same_files) c.in-Ok.ensures.reads in
    subst (λ (f : Option Files). CheckEnds f c.args.net.now c.args.cert.now (g.S.Shelf.told c.args.shelf.now).taken
    (g.S.Shelf.told c.judge_file.new.shelf).taken (check_status c.judge_file.result)) c.network_under.ensures.kept.same_files
    (c.judge_file.ensures.ends c.args.net.now (g.S.Shelf.told c.args.shelf.now).taken reads c.network_under.ensures.kept.taken_grows)

pub returns-in-Ok-clause-quiet : goal.returns-in-Ok-clause-quiet
returns-in-Ok-clause-quiet g c = quiet_behind c.in-Ok.ensures.quiet c.judge_file.ensures.quiet

pub returns-in-Err-clause-quiet : goal.returns-in-Err-clause-quiet
returns-in-Err-clause-quiet g c = failed_told (λ e. ap unread_status e) c.in-Err.ensures.quiet

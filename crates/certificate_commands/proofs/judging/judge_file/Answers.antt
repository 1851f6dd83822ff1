use Rattle.std.proofs.Common.{ap, ◌∙◌}
use Rattle.edge_io.proofs.Counting.{grows-then}
use Rattle.run_status.proofs.Quiet.{failed_told, quiet_behind}
use Rattle.certificate_commands.specs.CheckEnds.{check_status, unopened}
use Rattle.certificate_commands.proofs.Streamed.{took-file, ends-file}
use Rattle.certificate_commands.proofs.judging.judge_file.Goals as goal

pub returns-in-Ok-clause-took : goal.returns-in-Ok-clause-took
returns-in-Ok-clause-took g c = λ net reads.
    took-file (g.S.Shelf.told c.args.shelf.now).files net c.args.cert.now c.args.network.now (g.S.Shelf.told c.open_read.new.self).rest c.in-Ok.ensures.opened reads
    c.args.telling (check_status c.judge_opened.result) (g.K.Sink.taken c.args.out.now) (g.K.Sink.taken c.judge_opened.new.out) c.judge_opened.ensures.took

pub returns-in-Ok-clause-ends : goal.returns-in-Ok-clause-ends
returns-in-Ok-clause-ends g c = λ net before reads grows.
    let opened = (g.S.Shelf.told c.open_read.new.self).taken in
    ends-file (g.S.Shelf.told c.args.shelf.now).files net c.args.cert.now c.args.network.now (g.S.Shelf.told c.open_read.new.self).rest c.in-Ok.ensures.opened reads
    before opened (g.S.Shelf.told c.judge_opened.new.shelf).taken (check_status c.judge_opened.result)
    (grows-then before (g.S.Shelf.told c.args.shelf.now).taken opened grows c.open_read.ensures.kept.taken_grows) c.judge_opened.ensures.ends

pub returns-in-Ok-clause-quiet : goal.returns-in-Ok-clause-quiet
returns-in-Ok-clause-quiet g c = quiet_behind c.in-Ok.ensures.quiet c.judge_opened.ensures.quiet

pub returns-in-Err-clause-quiet : goal.returns-in-Err-clause-quiet
returns-in-Err-clause-quiet g c = failed_told (λ e. ap check_status (c.from.ensures ∙ ap unopened e)) c.in-Err.ensures.quiet

use Rattle.std.proofs.Common.{Option, ap, subst, sym}
use Rattle.run_status.specs.Reads.{Files, ReadsUnder}
use Rattle.run_status.specs.Took.{Took, unread_status}
use Rattle.run_status.proofs.Quiet.{failed_told, quiet_behind}
use Rattle.tight_commands.specs.TightEnds.{MarkEnds, MarkWants, TightsAs, tight_status}
use Rattle.tight_commands.proofs.marking.mark_under.Goals as goal

pub returns-in-Ok-clause-took : goal.returns-in-Ok-clause-took
returns-in-Ok-clause-took g c =
    let kept = c.network_under.ensures.kept in
    let reads = subst (λ (f : Option Files). ReadsUnder f c.args.net.now c.in-Ok.network) (sym kept.same_files) c.in-Ok.ensures.reads in
    subst (λ (f : Option Files). Took (TightsAs f c.args.net.now c.args.cert.now c.args.form c.args.pivots) (tight_status c.mark_file.result) (g.K.Sink.taken c.args.out.now)
    (g.K.Sink.taken c.mark_file.new.out)) kept.same_files (c.mark_file.ensures.took c.args.net.now reads)

pub returns-in-Ok-clause-ends : goal.returns-in-Ok-clause-ends
returns-in-Ok-clause-ends g c =
    let kept = c.network_under.ensures.kept in
    let reads = subst (λ (f : Option Files). ReadsUnder f c.args.net.now c.in-Ok.network) (sym kept.same_files) c.in-Ok.ensures.reads in
    subst (λ (f : Option Files). MarkEnds f c.args.net.now c.args.cert.now (g.S.Shelf.told c.args.shelf.now).taken
    (g.S.Shelf.told c.mark_file.new.shelf).taken (tight_status c.mark_file.result)) kept.same_files
    (c.mark_file.ensures.ends c.args.net.now (g.S.Shelf.told c.args.shelf.now).taken reads kept.taken_grows)

pub returns-in-Ok-clause-quiet : goal.returns-in-Ok-clause-quiet
returns-in-Ok-clause-quiet g c = quiet_behind c.in-Ok.ensures.quiet c.mark_file.ensures.quiet

pub returns-in-Ok-clause-memory : goal.returns-in-Ok-clause-memory
returns-in-Ok-clause-memory g c = λ e.
    let kept = c.network_under.ensures.kept in
    let reads = subst (λ (f : Option Files). ReadsUnder f c.args.net.now c.in-Ok.network) (sym kept.same_files) c.in-Ok.ensures.reads in
    subst (λ (f : Option Files). MarkWants f c.args.net.now c.args.cert.now c.mark_file.result) kept.same_files (c.mark_file.ensures.memory c.args.net.now reads e)

pub returns-in-Err-clause-quiet : goal.returns-in-Err-clause-quiet
returns-in-Err-clause-quiet g c = failed_told (λ e. ap unread_status e) c.in-Err.ensures.quiet

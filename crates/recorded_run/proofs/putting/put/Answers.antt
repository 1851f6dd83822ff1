use Rattle.std.proofs.Common.{subst}
use Rattle.std.specs.Prelude.{IsTrue}
use Rattle.std.proofs.lemmas.Result.{on_ok_weaker}
use Rattle.box_tree.specs.Views.{shown_entry}
use Rattle.recorded_run.proofs.Turning.{kept-before, kept-then}
use Rattle.recorded_run.proofs.putting.put.Goals as goal

pub append-requires-clause-left : goal.append-requires-clause-left
append-requires-clause-left g c = λ tells.
    let was = c.requires.left (subst IsTrue c.turn_where_due.ensures.same_disk.device.same_telling tells) in
    let now = c.in_ok-turn_where_due.ensures.acknowledged was.0 was.2 was.1 was.3 was.4 in
    (was.0, was.1, now.0, now.1, now.2)

pub returns-in_err-turn_where_due-clause-any_moment : goal.returns-in_err-turn_where_due-clause-any_moment
returns-in_err-turn_where_due-clause-any_moment g c = λ text file list d kept.
    kept-before text list (shown_entry c.args.entry.now) (g.D.Disk.told c.args.disk.now) (g.D.Disk.told c.turn_where_due.new.disk)
    (c.turn_where_due.ensures.any_moment text file list d kept)

pub returns-clause-acknowledged : goal.returns-clause-acknowledged
returns-clause-acknowledged g c =
    on_ok_weaker c.append.result
    (λ h text file list d kept.
    let now = c.in_ok-turn_where_due.ensures.acknowledged text file list d kept in
    h text now.0 list now.1 now.2) c.append.ensures.acknowledged

pub returns-clause-any_moment : goal.returns-clause-any_moment
returns-clause-any_moment g c = λ text file list d kept.
    let now = c.in_ok-turn_where_due.ensures.acknowledged text file list d kept in
    kept-then text list (shown_entry c.args.entry.now) (g.D.Disk.told c.args.disk.now) (g.D.Disk.told c.turn_where_due.new.disk) (g.D.Disk.told c.append.new.disk)
    (c.turn_where_due.ensures.any_moment text file list d kept) (c.append.ensures.any_moment text now.0 list now.1 now.2)

use Rattle.std.proofs.Common.{◌≡◌, rules}
use Rattle.journal_format.specs.declared.version.Version.TheVariants.{One}
use Rattle.recorded_run.proofs.Turning.{other_version, kept-still}
use Rattle.recorded_run.proofs.putting.turn_where_due.Goals as goal

pub returns-else-needs_turn-clause-turned : goal.returns-else-needs_turn-clause-turned
returns-else-needs_turn-clause-turned g c =
    let other : ¬ (c.args.journal.now.next.version ≡ One) = search rules in
    other_version c.args.journal.now.next.version other

pub returns-else-needs_turn-clause-any_moment : goal.returns-else-needs_turn-clause-any_moment
returns-else-needs_turn-clause-any_moment g c = λ text file list d kept.
    kept-still c.args.journal.now.next text file list (g.D.Disk.told c.args.disk.now) d kept

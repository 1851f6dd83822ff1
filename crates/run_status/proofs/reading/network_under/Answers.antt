use Rattle.std.proofs.Common.{Err, ap, ◌∙◌}
use Rattle.run_status.specs.Unreads.{unread_by}
use Rattle.run_status.proofs.Networks.{unread_shelf}
use Rattle.run_status.proofs.Quiet.{failed_told}
use Rattle.run_status.proofs.reading.network_under.Goals as goal

pub returns-in-Err-clause-unread : goal.returns-in-Err-clause-unread
returns-in-Err-clause-unread g c =
    unread_shelf c.args.name.now (g.S.Shelf.told c.args.shelf.now) (g.S.Shelf.told c.read_all.new.self) c.in-Err.fault c.from.result c.from.ensures
    (λ e. c.in-Err.ensures.failed (ap (λ f. Err f) e)) (λ e. c.in-Err.ensures.too_long (ap (λ f. Err f) e))

pub returns-in-Err-clause-quiet : goal.returns-in-Err-clause-quiet
returns-in-Err-clause-quiet g c = failed_told (λ e. ap (λ why. Err why) (c.from.ensures ∙ ap unread_by e)) c.in-Err.ensures.quiet

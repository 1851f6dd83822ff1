use Rattle.std.proofs.Common.{inl, inr, refl}
use Rattle.pool_edge.proofs.serving.answer.Goals as goal

pub run_held-requires : goal.run_held-requires
run_held-requires g c = record { held = c.in-Ok.ensures.held; shelf = c.requires.shelf; disk = c.requires.disk }

pub returns-in-Ok : goal.returns-in-Ok
returns-in-Ok g c = inl (c.in-Ok.ensures.held, c.run_held.ensures)

pub returns-in-Err : goal.returns-in-Err
returns-in-Err g c = inr (record { reason = c.in-Err.ensures.failed; same = refl; short = c.unheld.ensures })

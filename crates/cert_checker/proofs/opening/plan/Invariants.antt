use Rattle.std.proofs.Common.{◌≡◌}
use Rattle.pool_model.specs.Network.{net_of}
use Rattle.plan_core.specs.Views.{shown_plan}
use Rattle.proof_lines.specs.Runs.{moment}
use Rattle.cert_checker.proofs.Planning.{numbers_of, IsPlanFront}
use Rattle.cert_checker.proofs.opening.plan.Given as goal

-- so many numbers are read
abbrev pub invariant-loop : goal.invariant-loop
invariant-loop g l = (l.end ≡ numbers_of (net_of l.net))
    × IsPlanFront (net_of l.net) (moment l.fn.reader (g.S.Shelf.told l.fn.shelf)) (moment l.reader (g.S.Shelf.told l.shelf)) (shown_plan l.plan) l.counter

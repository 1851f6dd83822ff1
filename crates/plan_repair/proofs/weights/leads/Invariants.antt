use Rattle.std.proofs.Common.{◌≡◌, true, ◌&&◌, ◌==◌}
use Rattle.std.specs.Prelude.{not}
use Rattle.pool_model.specs.Network.{net_of}
use Rattle.pool_model.specs.Starting.{all_below}
use Rattle.plan_repair.specs.PlainPlan.{feed_flow, goes_before}
use Rattle.plan_repair.proofs.weights.leads.Given as goal

abbrev pub invariant-loop-other : goal.invariant-loop-other
invariant-loop-other l =
    all_below (λ d. not ((net_of l.net).feed_pool d == (net_of l.net).feed_pool l.feed && goes_before (feed_flow (net_of l.net) l.point) d l.feed)) l.other ≡ true

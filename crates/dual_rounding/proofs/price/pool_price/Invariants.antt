use Rattle.std.proofs.Common.{◌≡◌, ◌==◌, if◌then◌else◌, Some, None}
use Rattle.pool_model.specs.Network.{feed_delivered, net_of}
use Rattle.pool_model.specs.Starting.{least_below}
use Rattle.dual_rounding.proofs.price.pool_price.Given as goal

abbrev pub invariant-loop-feed : goal.invariant-loop-feed
invariant-loop-feed l =
    l.least ≡ least_below (λ e. if (net_of l.net).feed_pool e == l.pool then Some (feed_delivered (net_of l.net) e) else None) l.feed

use Rattle.std.proofs.Common.{◌≡◌}
use Rattle.integers.specs.Sums.{sum_at}
use Rattle.pool_model.specs.Network.{net_of}
use Rattle.start_ways.proofs.lists.is_first_feed.Given as goal

abbrev pub invariant-loop-earlier : goal.invariant-loop-earlier
invariant-loop-earlier l = sum_at (net_of l.net).feed_pool ((net_of l.net).feed_pool l.feed) (λ _. 1) l.earlier ≡ 0

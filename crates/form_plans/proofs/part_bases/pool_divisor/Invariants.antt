use Rattle.std.proofs.Common.{get_or}
use Rattle.form_plans.specs.Divisors.{IsDivisorOf}
use Rattle.form_plans.proofs.part_bases.pool_divisor.Given as goal

abbrev pub invariant-loop-feed : goal.invariant-loop-feed
invariant-loop-feed l = IsDivisorOf l.sent (λ i. get_or l.feeds (get_or l.feed-items i 0) 0) l.feed-index l.divisor

use Rattle.std.proofs.Common.{◌≡◌, ℕ, ◌<◌, ◌≤◌, ◌^◌, get_or, ◌*◌, length}
use Rattle.integers.specs.Sums.{sum_at}
use Rattle.pool_model.specs.Network.{net_of}
use Rattle.plan_repair.specs.PlainPlan.{feed_flow}
use Rattle.plan_repair.proofs.weights.flow_sums.Given as goal

abbrev pub invariant-loop-feed : goal.invariant-loop-feed
invariant-loop-feed l = record {
  long : length l.sums ≡ 16;
  exact : (i : ℕ) → i < (net_of l.net).pools → get_or l.sums i 0 ≡ sum_at (net_of l.net).feed_pool i (feed_flow (net_of l.net) l.point) l.feed;
  size : (i : ℕ) → get_or l.sums i 0 ≤ 2 ^ 95 * l.feed;
}

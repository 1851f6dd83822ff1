-- Tables by pool, of what flows in and of the weights that rounding leaves.
use Rattle.std.specs.Prelude.{ℕ, ◌≡◌, ◌<◌, List, get_or, ℤ}
use Rattle.integers.specs.Sums.{sum_at}
use Rattle.pool_model.specs.Network.{Net}
use Rattle.plan_repair.specs.PlainPlan.{feed_flow, rounded_weight}

abbrev pub AreFlowSums : Net → List ℤ → List ℕ → Type 0
AreFlowSums n point sums = (l : ℕ) → l < n.pools → get_or sums l 0 ≡ sum_at n.feed_pool l (feed_flow n point) n.feeds

abbrev pub AreRoundedSums : Net → List ℤ → List ℕ → Type 0
AreRoundedSums n point sums = (l : ℕ) → l < n.pools → get_or sums l 0 ≡ sum_at n.feed_pool l (rounded_weight n (feed_flow n point)) n.feeds

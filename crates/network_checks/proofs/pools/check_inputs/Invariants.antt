use Rattle.std.proofs.Common.{◌≡◌, ℕ, ◌<◌, All}
use Rattle.network_checks.proofs.pools.check_inputs.Given as goal

abbrev pub invariant-loop-pool : goal.invariant-loop-pool
invariant-loop-pool l = (m : ℕ) → m < l.pool → ¬ All (λ a. ¬ a.to ≡ m) l.feeds

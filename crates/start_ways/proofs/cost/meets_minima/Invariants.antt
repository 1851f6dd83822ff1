use Rattle.std.proofs.Common.{ℕ, ◌<◌, ◌≤◌, ◌==◌, if◌then◌else◌}
use Rattle.pool_model.specs.Network.{net_of}
use Rattle.start_ways.proofs.cost.meets_minima.Given as goal

abbrev pub invariant-loop-other : goal.invariant-loop-other
invariant-loop-other l = (j : ℕ) → j < l.other → (net_of l.net).product_min j ≤ (if l.product == j then l.flow else 0)

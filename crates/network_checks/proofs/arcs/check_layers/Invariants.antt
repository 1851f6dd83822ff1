use Rattle.std.proofs.Common.{ℕ, ◌<◌}
use Rattle.network_parts.specs.Nodes.{is_between_pools}
use Rattle.network_parts.specs.Ready.{IsMarked}
use Rattle.network_checks.proofs.arcs.check_layers.Given as goal

abbrev pub invariant-loop-n : goal.invariant-loop-n
invariant-loop-n l = (m : ℕ) → m < l.n → ¬ IsMarked is_between_pools l.ends m

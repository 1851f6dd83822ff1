use Rattle.std.proofs.Common.{ℕ, ◌<◌}
use Rattle.network_parts.specs.Nodes.{is_backward}
use Rattle.network_parts.specs.Ready.{IsMarked}
use Rattle.network_checks.proofs.arcs.check_forward.Given as goal

abbrev pub invariant-loop-n : goal.invariant-loop-n
invariant-loop-n l = (m : ℕ) → m < l.n → ¬ IsMarked is_backward l.ends m

use Rattle.std.proofs.Common.{ℕ, ◌<◌}
use Rattle.network_parts.specs.Ready.{IsRepeatedEnds}
use Rattle.network_checks.proofs.arcs.check_repeats.Given as goal

abbrev pub invariant-loop-n : goal.invariant-loop-n
invariant-loop-n l = (m : ℕ) → m < l.n → ¬ IsRepeatedEnds l.ends m

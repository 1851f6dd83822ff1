use Rattle.std.proofs.Common.{ℕ, ◌<◌}
use Rattle.pool_model.specs.Network.{net_of}
use Rattle.point_checks.specs.QualityTests.{KeepsLimits}
use Rattle.point_checks.specs.QualSlices.{seen}
use Rattle.point_checks.proofs.qual_limits.keep_limits.Given as goal

abbrev pub invariant-loop-product : goal.invariant-loop-product
invariant-loop-product l = (j : ℕ) → j < l.product → (k : ℕ) → k < (net_of l.net).qualities → KeepsLimits (net_of l.net) (seen (net_of l.net) l.point) j k

use Rattle.std.proofs.Common.{ℕ, ◌<◌}
use Rattle.pool_model.specs.Network.{net_of}
use Rattle.point_checks.specs.QualityTests.{KeepsQuality}
use Rattle.point_checks.specs.QualSlices.{seen}
use Rattle.point_checks.proofs.qual_checks.keep_qualities.Given as goal

abbrev pub invariant-loop-pool : goal.invariant-loop-pool
invariant-loop-pool l = (i : ℕ) → i < l.pool → (k : ℕ) → k < (net_of l.net).qualities → KeepsQuality (net_of l.net) (seen (net_of l.net) l.point) i k

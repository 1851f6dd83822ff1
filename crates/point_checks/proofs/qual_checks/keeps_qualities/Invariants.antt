use Rattle.std.proofs.Common.{ℕ, ◌<◌}
use Rattle.pool_model.specs.Network.{net_of}
use Rattle.point_checks.specs.QualityTests.{KeepsQuality}
use Rattle.point_checks.specs.QualSlices.{seen}
use Rattle.point_checks.proofs.qual_checks.keeps_qualities.Given as goal

abbrev pub invariant-loop-quality : goal.invariant-loop-quality
invariant-loop-quality l = (k : ℕ) → k < l.quality → KeepsQuality (net_of l.net) (seen (net_of l.net) l.point) l.pool k

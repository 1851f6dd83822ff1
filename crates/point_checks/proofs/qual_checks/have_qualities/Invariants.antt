use Rattle.std.proofs.Common.{ℕ, ◌<◌}
use Rattle.pool_model.specs.Network.{net_of}
use Rattle.point_checks.specs.QualityTests.{HasQuality}
use Rattle.point_checks.specs.QualSlices.{seen}
use Rattle.point_checks.proofs.qual_checks.have_qualities.Given as goal

abbrev pub invariant-loop-out : goal.invariant-loop-out
invariant-loop-out l = (i : ℕ) → i < l.out → (k : ℕ) → k < (net_of l.net).qualities → HasQuality (net_of l.net) (seen (net_of l.net) l.point) i k

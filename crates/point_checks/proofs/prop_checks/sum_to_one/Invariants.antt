use Rattle.std.proofs.Common.{ℕ, ◌<◌}
use Rattle.pool_model.specs.Network.{net_of}
use Rattle.point_checks.specs.ProportionTests.{SumsToOne}
use Rattle.point_checks.specs.PropSlices.{seen}
use Rattle.point_checks.proofs.prop_checks.sum_to_one.Given as goal

abbrev pub invariant-loop-pool : goal.invariant-loop-pool
invariant-loop-pool l = (k : ℕ) → k < l.pool → SumsToOne (net_of l.net) (seen l.point) k

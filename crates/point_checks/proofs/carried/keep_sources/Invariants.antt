use Rattle.std.proofs.Common.{ℕ, ◌<◌}
use Rattle.pool_model.specs.Network.{net_of}
use Rattle.point_checks.specs.Flows.{KeepsSource, flows_plan}
use Rattle.point_checks.proofs.carried.keep_sources.Given as goal

abbrev pub invariant-loop-source : goal.invariant-loop-source
invariant-loop-source l = (k : ℕ) → k < l.source → KeepsSource (net_of l.net) (flows_plan l.flows) k

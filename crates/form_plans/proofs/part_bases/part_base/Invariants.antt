use Rattle.std.proofs.Common.{◌≤◌}
use Rattle.pool_model.specs.Network.{net_of}
use Rattle.point_checks.specs.Flows.{flows_plan}
use Rattle.form_plans.proofs.Parts.{IsBaseBelow}
use Rattle.form_plans.proofs.part_bases.part_base.Given as goal

abbrev pub invariant-loop-pool : goal.invariant-loop-pool
invariant-loop-pool l = record { below : IsBaseBelow (net_of l.net) (flows_plan l.flows) l.pool l.least; small : l.least ≤ 1048576 }

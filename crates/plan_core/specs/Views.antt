-- A written plan, without where it lies in memory.
use Rattle.pool_model.specs.Plan.{Written}
use Rattle.plan_core.specs.declared.plan.WrittenPlan.{WrittenPlan}

abbrev pub shown_plan : WrittenPlan → Written
shown_plan w = record { base = w.base; flow_base = w.flow_base; weights = w.weights.items; outflows = w.outflows.items; direct = w.direct.items }

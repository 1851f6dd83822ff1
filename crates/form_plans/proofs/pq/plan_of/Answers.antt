use Rattle.pool_model.specs.Network.{net_of}
use Rattle.plan_core.specs.declared.plan.WrittenPlan.{WrittenPlan}
use Rattle.form_plans.specs.Taken.{HasPlanOfPq, HasPlanOfQ, IsFaultOfPq, IsFaultOfQ}
use Rattle.form_plans.proofs.Outcomes.{ok-more, err-more, plan-further, fault-further}
use Rattle.form_plans.proofs.pq.plan_of.Goals as goal

pub returns-clause-has_plan : goal.returns-clause-has_plan
returns-clause-has_plan c =
    let n = net_of c.args.net.now in
    let q = c.args.point.now in
    ok-more c.plan_of.result (λ (w : WrittenPlan). HasPlanOfQ n q) (λ (w : WrittenPlan). HasPlanOfPq n q) (λ w h. plan-further n q c.plan_of.ensures.limited h) c.plan_of.ensures.has_plan

pub returns-clause-fault : goal.returns-clause-fault
returns-clause-fault c =
    let n = net_of c.args.net.now in
    let q = c.args.point.now in
    err-more c.plan_of.result (IsFaultOfQ n q) (IsFaultOfPq n q) (λ f h. fault-further n q f c.plan_of.ensures.limited h) c.plan_of.ensures.fault

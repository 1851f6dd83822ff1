use Rattle.std.proofs.Common.{ℕ, ◌*◌, get_or, sym, ap, ◌∙◌}
use Rattle.pool_model.specs.Network.{net_of}
use Rattle.plan_core.specs.Views.{shown_plan}
use Rattle.plan_core.proofs.Blends.{outflow-plan_of}
use Rattle.plan_flows.proofs.nodes.pool_flow.Goals as goal

pub returns-clause-flow : goal.returns-clause-flow
returns-clause-flow c =
    ap (λ (z : ℕ). z * get_or c.pool_outflows.result c.args.pool 0) c.from.ensures
    ∙ ap (λ (z : ℕ). c.args.plan.now.base * z) (c.pool_outflows.ensures.flows c.args.pool c.requires.pool)
    ∙ sym (outflow-plan_of (net_of c.args.net.now) (shown_plan c.args.plan.now) c.args.pool)

use Rattle.std.proofs.Common.{ℕ, List, ◌*◌, map, refl, ap, ◌∙◌}
use Rattle.pool_model.specs.Network.{net_of}
use Rattle.plan_core.specs.Views.{shown_plan}
use Rattle.program_points.proofs.Lists.{times-table, quals-held, quals-flows, quals-cost}
use Rattle.program_points.proofs.p.point_of.Goals as goal

pub returns-clause-lists : goal.returns-clause-lists
returns-clause-lists c =
    let n = net_of c.args.net.now in
    let plan = c.args.plan.now in
    record {
      base = c.denominator.ensures;
      qual_base = refl;
      quals = c.in_ok-quals.ensures;
      x = c.in_ok-x.ensures.flows;
      y = c.in_ok-y.ensures ∙ ap (λ (xs : List ℕ). map (λ (f : ℕ). plan.base * f) xs) c.as_slice.ensures.value ∙ times-table plan.base plan.outflows.items n.outs c.requires.written.outflows;
      z = c.in_ok-z.ensures ∙ ap (λ (xs : List ℕ). map (λ (f : ℕ). plan.base * f) xs) c.as_slice-2.ensures.value ∙ times-table plan.base plan.direct.items n.directs c.requires.written.direct;
      mix = c.in_ok-mix.ensures;
    }

pub returns-clause-point : goal.returns-clause-point
returns-clause-point c = quals-held (net_of c.args.net.now) (shown_plan c.args.plan.now) _ c.feed_flows.ensures.limited c.requires.written c.requires.obeys (returns-clause-lists c)

pub returns-clause-flows : goal.returns-clause-flows
returns-clause-flows c = quals-flows (net_of c.args.net.now) (shown_plan c.args.plan.now) _ (returns-clause-lists c)

pub returns-clause-cost : goal.returns-clause-cost
returns-clause-cost c = quals-cost (net_of c.args.net.now) (shown_plan c.args.plan.now) _ (returns-clause-lists c)

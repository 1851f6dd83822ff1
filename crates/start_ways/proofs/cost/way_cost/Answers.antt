use Rattle.std.proofs.Common.{rules, FitsSigned, refl, ap, ◌∙◌, pos, ◌*ℤ◌}
use Rattle.std.proofs.lemmas.Int.{to_z-of_z}
use Rattle.std.specs.Int.{w128}
use Rattle.pool_model.specs.Network.{net_of}
use Rattle.start_ways.proofs.Ways.{read-obeys, read-minima, read-cost}
use Rattle.start_ways.proofs.cost.way_cost.Goals as goal

pub returns-then-meets_minima-clause-obeys : goal.returns-then-meets_minima-clause-obeys
returns-then-meets_minima-clause-obeys c =
    let e = c.ends-source in
    read-obeys (net_of c.args.net.now) c.args.way e.result.0 e.result.1 c.way_flow-flow.result c.meets_minima.ensures.limited c.requires e.ensures.source e.ensures.product c.way_flow-flow.ensures.flow
    (c.if-meets_minima.ensures.meets.0 refl)

pub returns-then-meets_minima-clause-cost : goal.returns-then-meets_minima-clause-cost
returns-then-meets_minima-clause-cost c =
    let e = c.ends-source in
    let earned : FitsSigned w128 c.earned.result = search rules in
    let margin : FitsSigned w128 c.margin.result = search rules in
    to_z-of_z w128 c.earned.result earned ∙ c.earned.ensures.value ∙ ap (λ z. z *ℤ pos c.way_flow-flow.result) (to_z-of_z w128 c.margin.result margin ∙ c.margin.ensures.value)
    ∙ read-cost (net_of c.args.net.now) c.args.way e.result.0 e.result.1 c.way_flow-flow.result c.meets_minima.ensures.limited c.requires
    e.ensures.source e.ensures.product c.way_flow-flow.ensures.flow

pub returns-else-meets_minima-clause-breaks : goal.returns-else-meets_minima-clause-breaks
returns-else-meets_minima-clause-breaks c obeys =
    let e = c.ends-source in
    cc (c.if-meets_minima.ensures.meets.1
    (read-minima (net_of c.args.net.now) c.args.way e.result.0 e.result.1 c.way_flow-flow.result c.meets_minima.ensures.limited c.requires
    e.ensures.source e.ensures.product c.way_flow-flow.ensures.flow obeys))

use Rattle.std.proofs.Common.{ℤ, pos, ◌*ℤ◌, FitsSigned, get_or, arith, rules, sym, ap, ◌∙◌}
use Rattle.std.proofs.Math.Nat.{mul-le-mul}
use Rattle.std.proofs.lemmas.Int.{to_z-of_z}
use mir.Syntax.{w128}
use Rattle.integers.specs.Sums.{product_below}
use Rattle.pool_model.specs.Network.{net_of}
use Rattle.pool_model.specs.Plan.{factor, plan_of, product_inflow}
use Rattle.plan_core.specs.Views.{shown_plan}
use Rattle.plan_core.proofs.Blends.{inflow-plan_of}
use Rattle.plan_flows.proofs.Rooms.{room-obeys, scaled-flow}
use Rattle.plan_flows.proofs.means.mean.Goals as goal

pub product_qualities-qualities-requires-clause-room : goal.product_qualities-qualities-requires-clause-room
product_qualities-qualities-requires-clause-room c =
    room-obeys (net_of c.args.net.now) (shown_plan c.args.plan.now) c.product_flow-inflow.ensures.limited c.requires.written c.requires.obeys

pub returns : goal.returns
returns c =
    let n = net_of c.args.net.now in
    let w = shown_plan c.args.plan.now in
    let m = pos (product_below (factor n (plan_of n w)) n.pools) in
    let limited = c.product_flow-inflow.ensures.limited in
    let fits : FitsSigned w128 (get_or c.product_qualities-qualities.result c.args.j (pos 0)) = search rules in
    let fits_scale : FitsSigned w128 c.weighted.result = search rules in
    record {
      quality = ap (λ (z : ℤ). m *ℤ z) (to_z-of_z w128 (get_or c.product_qualities-qualities.result c.args.j (pos 0)) fits ∙ c.product_qualities-qualities.ensures c.args.j c.requires.product)
          ∙ sym (inflow-plan_of n w c.args.j c.args.k limited.out_pools (omega (arith, c.requires.written.base)));
      inflow = to_z-of_z w128 c.weighted.result fits_scale
          ∙ scaled-flow n.scale (product_inflow n (plan_of n w) c.args.j) c.product_flow-inflow.result c.scale.result c.from.result c.weighted.result c.scale.ensures.value c.scale.ensures.size
          c.from.ensures c.product_flow-inflow.ensures.flow c.weighted.ensures.value;
      some = mul-le-mul limited.scale.0 c.requires.inflow;
    }

use Rattle.std.proofs.Common.{FitsSigned, get_or, ap, sym, ◌∙◌, arith}
use Rattle.std.proofs.lemmas.Int.{ints, to_z-of_z}
use mir.Syntax.{w64, w128}
use Rattle.pool_model.specs.Network as model
use Rattle.pool_model.specs.Network.{Network, net_of, no_arc}
use Rattle.network_parts.specs.Views.{shown_arc}
use Rattle.network_parts.proofs.Mapped.{read-map}
use Rattle.blend_network.proofs.network.Network.out_cost.Goals as goal

pub overflow_cast-result : goal.overflow_cast-result
unfolding net_of
overflow_cast-result c =
    let e = read-map shown_arc c.self.inside.outs.items c.args.n c.index.result.now no_arc (search arith) c.index.ensures in
    let within = c.self.invariant.limited.out_costs c.args.n (search arith) in
    omega (arith, ints, within.0, within.1, ap (λ (r : model.Arc). r.cost) e)

pub returns : goal.returns
unfolding net_of
returns c =
    let e = read-map shown_arc c.self.inside.outs.items c.args.n c.index.result.now no_arc (search arith) c.index.ensures in
    let within = c.self.invariant.limited.out_costs c.args.n (search arith) in
    let cost = ap (λ (r : model.Arc). r.cost) e in
    let fits : FitsSigned w64 c.index.result.now.cost = omega (arith, ints, within.0, within.1, cost) in
    let wide : FitsSigned w128 c.index.result.now.cost = omega (arith, ints, within.0, within.1, cost) in
    record {
      value = simp to_z-of_z (sym cost ∙ ap (λ (m : Network). (get_or m.outs c.args.n no_arc).cost) c.self.view_is);
      size = simp to_z-of_z (omega (arith, ints, within.0, within.1, cost));
    }

use Rattle.std.proofs.Common.{length, subst, sym, ap, ◌∙◌, arith}
use Rattle.std.proofs.lemmas.List.{length-map}
use Rattle.pool_model.specs.Network.{Network, net_of, IsLimited}
use Rattle.network_parts.specs.Views.{shown_arc}
use Rattle.blend_network.proofs.Margins.{pool_cost-below}
use Rattle.blend_network.proofs.network.Network.pool_cost.Goals as goal

pub returns-clause-size : goal.returns-clause-size
unfolding net_of
returns-clause-size c =
    let limited : IsLimited (net_of c.args.self.now) = subst (λ (m : Network). IsLimited (net_of m)) c.self.view_is c.self.invariant.limited in
    λ x is. pool_cost-below (net_of c.args.self.now) c.args.pool c.loop-e.e limited
    (omega (arith, c.loop-e.auto.e-end, c.len-e-end.ensures, length-map c.self.inside.feeds.items shown_arc, ap (λ (m : Network). length m.feeds) c.self.view_is)) x
    (sym c.loop-e.invariant ∙ is)

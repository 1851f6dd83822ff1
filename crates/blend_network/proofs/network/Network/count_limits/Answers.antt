use Rattle.std.proofs.Common.{map, length, sym, ap, subst, ◌∙◌, arith}
use Rattle.std.proofs.lemmas.List.{length-map}
use Rattle.pool_model.specs.Network.{Network, net_of, IsLimited}
use Rattle.blend_network.specs.Limits.{AreLimitsOf}
use Rattle.blend_network.specs.Views.{shown_limit}
use Rattle.blend_network.proofs.LimitLists.{few_limits}
use Rattle.blend_network.proofs.network.Network.count_limits.Goals as goal

pub overflow_cast-result : goal.overflow_cast-result
overflow_cast-result c =
    let set = subst (λ (m : Network). AreLimitsOf (net_of m) c.self.inside.limits) c.self.view_is c.self.invariant.set in
    let limited : IsLimited (net_of c.args.self.now) = subst (λ (m : Network). IsLimited (net_of m)) c.self.view_is c.self.invariant.limited in
    omega (arith, few_limits (net_of c.args.self.now) c.args.side c.of.result.now limited (ap (map shown_limit) c.of.ensures ∙ set c.args.side))

pub returns : goal.returns
returns c =
    let set = subst (λ (m : Network). AreLimitsOf (net_of m) c.self.inside.limits) c.self.view_is c.self.invariant.set in
    let limited : IsLimited (net_of c.args.self.now) = subst (λ (m : Network). IsLimited (net_of m)) c.self.view_is c.self.invariant.limited in
    let is = ap (map shown_limit) c.of.ensures ∙ set c.args.side in
    record { count = sym (length-map c.of.result.now shown_limit) ∙ ap length is; small = few_limits (net_of c.args.self.now) c.args.side c.of.result.now limited is }

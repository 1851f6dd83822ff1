use Rattle.std.proofs.Common.{◌<◌, map, length, get_or, sym, ap, subst, ◌∙◌, arith}
use Rattle.std.proofs.lemmas.List.{length-map, get_or-map}
use Rattle.pool_model.specs.Limits.{no_limit}
use Rattle.pool_model.specs.Network.{Network, net_of}
use Rattle.blend_network.specs.Limits.{AreLimitsOf}
use Rattle.blend_network.specs.Views.{shown_limit}
use Rattle.blend_network.proofs.LimitLists.{limits_known}
use Rattle.blend_network.proofs.network.Network.limit_at.Goals as goal

pub bounds-of-n : goal.bounds-of-n
bounds-of-n c =
    let set = subst (λ (m : Network). AreLimitsOf (net_of m) c.self.inside.limits) c.self.view_is c.self.invariant.set in
    omega (arith, c.requires, length-map c.of.result.now shown_limit, ap length (ap (map shown_limit) c.of.ensures ∙ set c.args.side))

pub returns : goal.returns
returns c =
    let set = subst (λ (m : Network). AreLimitsOf (net_of m) c.self.inside.limits) c.self.view_is c.self.invariant.set in
    let is = ap (map shown_limit) c.of.ensures ∙ set c.args.side in
    let there : c.args.n < length c.of.result.now = omega (arith, c.requires, length-map c.of.result.now shown_limit, ap length is) in
    let known = limits_known (net_of c.args.self.now) c.args.side c.of.result.now is c.args.n _ there in
    record { limit = sym (get_or-map shown_limit c.of.result.now c.args.n _ no_limit there) ∙ ap (λ us. get_or us c.args.n no_limit) is; product = known.0; quality = known.1 }

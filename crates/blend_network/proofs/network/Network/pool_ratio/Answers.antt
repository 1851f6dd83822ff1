use Rattle.std.proofs.Common.{◌≡◌, ◌<◌, List, ℕ, get_or, length, ap, subst, arith, sym, ◌∙◌}
use Rattle.std.proofs.lemmas.Int.{ints}
use Rattle.std.proofs.lemmas.List.{get_or_default}
use Rattle.pool_model.specs.Network as model
use Rattle.pool_model.specs.Network.{Network, net_of, IsLimited, no_pool}
use Rattle.blend_network.specs.Ratios.{ratio_of}
use Rattle.blend_network.specs.Views.{shown_pool}
use Rattle.blend_network.proofs.Ratios.{ratio-most}
use Rattle.network_parts.proofs.Mapped.{read-map}
use Rattle.blend_network.proofs.network.Network.pool_ratio.Goals as goal

pub bounds-as_slice-k : goal.bounds-as_slice-k
unfolding net_of
bounds-as_slice-k c =
    let e = read-map shown_pool c.self.inside.pools.items c.args.l c.index.result.now no_pool (search arith) c.index.ensures in
    omega (arith, c.self.invariant.ratio c.args.l (search arith), ap (λ n. length n.qualities) c.self.view_is, ap length c.as_slice.ensures.value, ap (λ s. length s.ratio) e)

pub overflow_cast-result-2 : goal.overflow_cast-result-2
unfolding net_of
overflow_cast-result-2 c =
    let limited : IsLimited (net_of c.args.self.now) = subst (λ (m : Network). IsLimited (net_of m)) c.self.view_is c.self.invariant.limited in
    let most = ratio-most c.args.self.now limited c.args.l c.args.k c.requires.pool c.requires.quality in
    let e = read-map shown_pool c.self.inside.pools.items c.args.l c.index.result.now no_pool (search arith) c.index.ensures in
    let within : c.args.k < length c.as_slice.result.now
    = omega (arith, c.self.invariant.ratio c.args.l (search arith), ap (λ n. length n.qualities) c.self.view_is, ap length c.as_slice.ensures.value, ap (λ s. length s.ratio) e) in
    let read : get_or c.as_slice.result.now c.args.k 0 ≡ ratio_of c.args.self.now c.args.l c.args.k
    = get_or_default c.as_slice.result.now c.args.k 0 1000 within ∙ ap (λ (rs : List ℕ). get_or rs c.args.k 1000) c.as_slice.ensures.value
    ∙ sym (ap (λ (p : model.Pool). get_or p.ratio c.args.k 1000) e) ∙ ap (λ (m : Network). ratio_of m c.args.l c.args.k) c.self.view_is in
    omega (arith, ints, read, most)

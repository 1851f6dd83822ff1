use Rattle.std.proofs.Common.{ℕ, length, ap, arith}
use Rattle.pool_model.specs.Network as model
use Rattle.pool_model.specs.Network.{Network, net_of, no_arc}
use Rattle.network_parts.specs.Views.{shown_arc}
use Rattle.network_parts.proofs.Mapped.{read-map}
use Rattle.blend_network.proofs.network.Network.feed.Goals as goal

pub returns-clause-known_source : goal.returns-clause-known_source
unfolding net_of
returns-clause-known_source c =
    let e = read-map shown_arc c.self.inside.feeds.items c.args.n c.index.result.now no_arc (search arith) c.index.ensures in
    omega (
      arith,
      c.self.invariant.limited.feed_sources c.args.n (search arith),
      ap (λ (a : model.Arc). a.from) e,
      ap
          (λ (r : ℕ × ℕ). r.0) c.ends.ensures,
      ap (λ (m : Network). length m.sources) c.self.view_is,
    )

pub returns-clause-known_pool : goal.returns-clause-known_pool
unfolding net_of
returns-clause-known_pool c =
    let e = read-map shown_arc c.self.inside.feeds.items c.args.n c.index.result.now no_arc (search arith) c.index.ensures in
    omega (
      arith,
      c.self.invariant.limited.feed_pools c.args.n (search arith),
      ap (λ (a : model.Arc). a.to) e,
      ap
          (λ (r : ℕ × ℕ). r.1) c.ends.ensures,
      ap (λ (m : Network). length m.pools) c.self.view_is,
    )

use Rattle.std.proofs.Common.{[], sym, ◌∙◌}
use Rattle.blend_network.specs.Views.{shown_source, shown_pool, shown_product}
use Rattle.network_parts.proofs.Mapped.{read-map_map}
use Rattle.blend_network.proofs.network.Network.name.Goals as goal

pub returns-in-Source : goal.returns-in-Source
returns-in-Source c =
    let h = rw (c.in-Source.is, ← c.self.view_is) at c.requires in
    rw (c.in-Source.is, ← c.self.view_is)
    (c.as_str.ensures.value ∙ sym (read-map_map (λ s. s.name) shown_source c.self.inside.sources.items c.args.n c.index.result.now [] h c.index.ensures))

pub returns-in-Pool : goal.returns-in-Pool
returns-in-Pool c =
    let h = rw (c.in-Pool.is, ← c.self.view_is) at c.requires in
    rw (c.in-Pool.is, ← c.self.view_is)
    (c.as_str-in-Pool.ensures.value ∙ sym (read-map_map (λ s. s.name) shown_pool c.self.inside.pools.items c.args.n c.index-in-Pool.result.now [] h c.index-in-Pool.ensures))

pub returns-in-Product : goal.returns-in-Product
returns-in-Product c =
    let h = rw (c.in-Product.is, ← c.self.view_is) at c.requires in
    rw (c.in-Product.is, ← c.self.view_is)
    (c.as_str-in-Product.ensures.value ∙ sym (read-map_map (λ s. s.name) shown_product c.self.inside.products.items c.args.n c.index-in-Product.result.now [] h c.index-in-Product.ensures))

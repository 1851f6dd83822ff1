use Rattle.std.proofs.Common.{ap, arith}
use Rattle.std.proofs.lemmas.Int.{ints}
use Rattle.pool_model.specs.Network.{net_of, no_source}
use Rattle.blend_network.specs.Views.{shown_source}
use Rattle.network_parts.proofs.Mapped.{read-map}
use Rattle.blend_network.proofs.network.Network.source_max.Goals as goal

pub overflow_cast-result : goal.overflow_cast-result
unfolding net_of
overflow_cast-result c =
    let e = read-map shown_source c.self.inside.sources.items c.args.n c.index.result.now no_source (search arith) c.index.ensures in
    omega (arith, ints, c.self.invariant.limited.source_maxima c.args.n (search arith), ap (λ s. s.max) e)

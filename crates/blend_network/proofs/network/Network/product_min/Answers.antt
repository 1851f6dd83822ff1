use Rattle.std.proofs.Common.{ap, arith}
use Rattle.std.proofs.lemmas.Int.{ints}
use Rattle.pool_model.specs.Network.{net_of, no_product}
use Rattle.blend_network.specs.Views.{shown_product}
use Rattle.network_parts.proofs.Mapped.{read-map}
use Rattle.blend_network.proofs.network.Network.product_min.Goals as goal

pub overflow_cast-result : goal.overflow_cast-result
unfolding net_of
overflow_cast-result c =
    let e = read-map shown_product c.self.inside.products.items c.args.n c.index.result.now no_product (search arith) c.index.ensures in
    omega (arith, ints, c.self.invariant.limited.product_minima c.args.n (search arith), c.self.invariant.limited.product_maxima c.args.n (search arith), ap (λ s. s.min) e)

use Rattle.std.proofs.Common.{FitsSigned, ap, arith, rules}
use Rattle.std.proofs.lemmas.Int.{ints, to_z-of_z}
use mir.Syntax.{w64}
use Rattle.pool_model.specs.Network as model
use Rattle.pool_model.specs.Network.{net_of, no_product}
use Rattle.blend_network.specs.Views.{shown_product}
use Rattle.network_parts.proofs.Mapped.{read-map}
use Rattle.blend_network.proofs.network.Network.product_price.Goals as goal

pub returns-clause-size : goal.returns-clause-size
unfolding net_of
returns-clause-size c =
    let e = read-map shown_product c.self.inside.products.items c.args.n c.index.result.now no_product (search arith) c.index.ensures in
    let within = c.self.invariant.limited.prices c.args.n (search arith) in
    let fits : FitsSigned w64 c.index.result.now.price = search rules in
    simp to_z-of_z (omega (arith, ints, within.0, within.1, ap (λ (r : model.Product). r.price) e))

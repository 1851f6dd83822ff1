use Rattle.std.proofs.Common.{length, map, sym, ap, ◌∙◌, arith}
use Rattle.std.proofs.lemmas.List.{length-map}
use Rattle.pool_model.specs.Network as model
use Rattle.pool_model.specs.Network.{no_product}
use Rattle.blend_network.specs.Limits.{limits_in}
use Rattle.blend_network.specs.Views.{shown_limit, shown_product}
use Rattle.blend_network.specs.declared.network.Product.{Product}
use Rattle.network_parts.proofs.Mapped.{read-map}
use Rattle.blend_network.proofs.LimitLists.{product_more}
use Rattle.blend_network.proofs.network.limits.limits_from.Goals as goal

pub loop-product-preserved : goal.loop-product-preserved
loop-product-preserved c = λ qualities wide.
    let products = c.args.products.now in
    let j = c.loop-product.product in
    let at = read-map shown_product c.args.products.now c.loop-product.product c.index-products-product.result
    no_product (omega (arith, length-map c.args.products.now shown_product, c.loop-product-test.true))
    c.index-products-product.is in
    product_more (map shown_product products) c.args.side c.limits.result.now qualities j (map shown_limit c.loop-product.limits.items) (map shown_limit c.add_limits.new.limits.items)
    (c.loop-product.invariant qualities wide)
    (c.limits.ensures ∙ ap (λ (p : model.Product). limits_in p c.args.side) (sym at))
    (ap length c.limits.ensures ∙ ap (λ (p : Product). length (limits_in (shown_product p) c.args.side)) c.index-products-product.is ∙ wide j c.index-products-product.result c.loop-product-test.true)
    c.in_ok-add_limits.ensures

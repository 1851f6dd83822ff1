use Rattle.std.proofs.Common.{◌<◌, arith}
use Rattle.std.proofs.lemmas.Result.{err_from_is_err_and}
use Rattle.pool_model.specs.Network.{net_of}
use Rattle.pool_model.specs.Plan.{plan_of}
use Rattle.plan_core.specs.Views.{shown_plan}
use Rattle.text_pieces.proofs.Each.{front-each}
use Rattle.pool_report.specs.Lines.{product_slack_line}
use Rattle.pool_report.proofs.slacks.write_products.Goals as goal

pub returns-in_err-write_product-clause-wrote : goal.returns-in_err-write_product-clause-wrote
returns-in_err-write_product-clause-wrote g c =
    let n = net_of c.args.net.now in
    let plan = plan_of n (shown_plan c.args.plan.now) in
    let among : c.loop-product.product < n.products = omega (arith, c.sizes-counts.ensures.counts.products) in
    let p = err_from_is_err_and c.from_residual.result c.from_residual.ensures.1 in
    rw p.1 (front-each (product_slack_line c.args.net.now plan) c.loop-product.product n.products (g.K.Sink.taken c.args.out.now) (g.K.Sink.taken c.loop-product.out)
    (g.K.Sink.taken c.write_product.new.out) among c.loop-product.invariant.0 c.in_err-write_product.ensures.wrote)

use Rattle.std.proofs.Common.{◌<◌, get_or, inl, inr, below_more, arith}
use Rattle.pool_model.specs.Network.{net_of}
use Rattle.plan_core.specs.Views.{shown_plan}
use Rattle.plan_core.proofs.Rooms.{first_over, none_over, first_under, none_under, all_over, all_under}
use Rattle.plan_core.proofs.check.check_qualities.Goals as goal

pub returns-in-Some-clause-first : goal.returns-in-Some-clause-first
returns-in-Some-clause-first c =
    let n = net_of c.args.net.now in
    let j = c.loop-product.product in
    let among : j < n.products = omega arith in
    inl (record {
      product = j;
      quality = first_over n (shown_plan c.args.plan.now) j
          (get_or c.args.inflows.now j 0) c.qualities-sums.result c.sizes-counts.ensures.limited c.requires.shaped among (c.requires.inflows j among) c.qualities-sums.ensures
          c.in-Some.quality c.in-Some.ensures;
      first = c.loop-product.invariant;
    })

pub loop-product-preserved : goal.loop-product-preserved
loop-product-preserved c =
    let n = net_of c.args.net.now in
    let j = c.loop-product.product in
    let among : j < n.products = omega arith in
    below_more _ _ c.loop-product.invariant
    (none_over n (shown_plan c.args.plan.now) j
    (get_or c.args.inflows.now j 0) c.qualities-sums.result c.sizes-counts.ensures.limited c.requires.shaped among (c.requires.inflows j among) c.qualities-sums.ensures c.in_default.ensures)

pub returns-in-Some-first_below-clause-first : goal.returns-in-Some-first_below-clause-first
returns-in-Some-first_below-clause-first c =
    let n = net_of c.args.net.now in
    let j = c.loop-product-2.product in
    let among : j < n.products = omega arith in
    inr (
      all_over n (shown_plan c.args.plan.now) c.loop-product.product (omega arith) c.loop-product.invariant,
      record {
        product = j;
        quality = first_under n (shown_plan c.args.plan.now) j
            (get_or c.args.inflows.now j 0) c.qualities-sums.result c.sizes-counts.ensures.limited c.requires.shaped among (c.requires.inflows j among) c.qualities-sums.ensures
            c.in-Some-first_below.quality c.in-Some-first_below.ensures;
        first = c.loop-product-2.invariant;
      },
    )

pub loop-product-2-preserved : goal.loop-product-2-preserved
loop-product-2-preserved c =
    let n = net_of c.args.net.now in
    let j = c.loop-product-2.product in
    let among : j < n.products = omega arith in
    below_more _ _ c.loop-product-2.invariant
    (none_under n (shown_plan c.args.plan.now) j
    (get_or c.args.inflows.now j 0) c.qualities-sums.result c.sizes-counts.ensures.limited c.requires.shaped among (c.requires.inflows j among) c.qualities-sums.ensures c.in_default-first_below.ensures)

pub returns-clause-keeps_most : goal.returns-clause-keeps_most
returns-clause-keeps_most c =
    let n = net_of c.args.net.now in
    all_over n (shown_plan c.args.plan.now) c.loop-product.product (omega arith) c.loop-product.invariant

pub returns-clause-keeps_least : goal.returns-clause-keeps_least
returns-clause-keeps_least c =
    let n = net_of c.args.net.now in
    all_under n (shown_plan c.args.plan.now) c.loop-product-2.product (omega arith) c.loop-product-2.invariant

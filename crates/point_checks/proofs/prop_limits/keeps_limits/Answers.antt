use Rattle.std.proofs.Common.{◌≡◌, ◌+◌, ◌+ℤ◌, pos, ◌*ℤ◌, sym, ap, ◌∙◌}
use Rattle.integers.specs.Sums.{int_sum_at, sum_at}
use Rattle.pool_model.specs.Network.{net_of}
use Rattle.pool_model.specs.Plan.{direct_mix, product_inflow}
use Rattle.row_model.specs.Catalogue.{path_quality}
use Rattle.row_model.specs.Variables.{path_count, path_out}
use Rattle.row_model.proofs.Brought.{directs-bring}
use Rattle.program_model.specs.Points.{proportion_flows}
use Rattle.point_checks.specs.PropSlices.{seen}
use Rattle.point_checks.specs.ProportionTests.{KeepsLimits}
use Rattle.point_checks.specs.Qualities.{flow_into}
use Rattle.point_checks.specs.declared.carriers.Carrier.TheVariants.{Directs, Paths}
use Rattle.point_checks.proofs.Parts.{direct-room, room-parts}
use Rattle.point_checks.proofs.Tests.{same-test, meets-same, wide_sum}
use Rattle.point_checks.proofs.prop_limits.keeps_limits.Goals as goal

pub quality_into-along-requires-clause-small : goal.quality_into-along-requires-clause-small
quality_into-along-requires-clause-small c =
    let n = net_of c.args.net.now in
    room-parts (flow_into n Paths c.args.product (seen c.args.point.now).path) (c.requires.small.paths c.args.product c.requires.product)

pub quality_into-straight-requires-clause-small : goal.quality_into-straight-requires-clause-small
quality_into-straight-requires-clause-small c =
    let n = net_of c.args.net.now in
    let p = proportion_flows (seen c.args.point.now) in
    room-parts (flow_into n Directs c.args.product p.direct) (direct-room n p c.args.product (c.requires.small.inflow c.args.product c.requires.product))

pub returns : goal.returns
returns c =
    let n = net_of c.args.net.now in
    let q = seen c.args.point.now in
    let j = c.args.product in
    let k = c.args.quality in
    let along = c.quality_into-along.result in
    let straight = c.quality_into-straight.result in
    let pooled : c.sum_at_node-pooled.result ≡ sum_at n.out_product j q.out n.outs = c.sum_at_node-pooled.ensures.sum in
    let direct : c.sum_at_node-direct.result ≡ sum_at n.direct_product j q.direct n.directs = c.sum_at_node-direct.ensures.sum in
    let inflow : c.sum_at_node-pooled.result + c.sum_at_node-direct.result ≡ product_inflow n (proportion_flows q) j =
    ap (λ z. z + c.sum_at_node-direct.result) pooled ∙ ap (λ z. sum_at n.out_product j q.out n.outs + z) direct in
    let by_paths : along ≡ int_sum_at (λ a. n.out_product (path_out n a)) j
    (λ a. path_quality n a k *ℤ pos (q.path a)) (path_count n) = c.quality_into-along.ensures.value in
    let by_directs : straight ≡ direct_mix n (proportion_flows q) j k = c.quality_into-straight.ensures.value ∙ directs-bring n (proportion_flows q) j k in
    let brought = wide_sum along straight c.quality_into-along.ensures.small c.quality_into-straight.ensures.small
    ∙ ap (λ z. z +ℤ straight) by_paths ∙ ap (λ z. int_sum_at (λ a. n.out_product (path_out n a)) j
    (λ a. path_quality n a k *ℤ pos (q.path a)) (path_count n) +ℤ z) by_directs in
    same-test _ (KeepsLimits n q j k) c.is_within_limits.result c.is_within_limits.ensures
    (meets-same n j k _ _ _ _ inflow brought) (meets-same n j k _ _ _ _ (sym inflow) (sym brought))

use Rattle.std.proofs.Common.{◌≡◌, ◌≤◌, ◌^◌, pos, ◌*ℤ◌, unsigned_abs, get_or, arith, refl, rules, FitsSigned}
use mir.Syntax.{w64}
use Rattle.pool_model.specs.Network.{net_of}
use Rattle.pool_model.specs.Plan.{written_out, plan_of}
use Rattle.plan_core.specs.Views.{shown_plan}
use Rattle.plan_core.specs.Weighed.{leaving, pooled_below, sent_below}
use Rattle.plan_core.proofs.Tables.{int_nothing, int_more, int_first_more, wide_fits}
use Rattle.plan_core.proofs.Reaching.{pooled-most, sent-most, small_as, small_sum}
use Rattle.plan_core.proofs.Terms.{IsOutPart, mix_small, out_size, out_part, IsDirectPart, wide_small, direct_size, direct_part, quality_is}
use Rattle.plan_core.proofs.qualities.product_qualities.Goals as goal

pub loop-out-init : goal.loop-out-init
loop-out-init c = record { long = refl; exact = λ i lt. int_nothing 64 i }

pub in_parts-leaving-requires-clause-number : goal.in_parts-leaving-requires-clause-number
in_parts-leaving-requires-clause-number c =
    let at = c.out-pool.result.0 in
    mix_small (net_of c.args.net.now) (shown_plan c.args.plan.now) c.args.quality c.loop-out.out at (get_or c.pool_qualities-pools.result at (pos 0)) c.requires.room
    (c.sizes-counts.ensures.limited.out_pools c.loop-out.out (omega arith)) c.requires.quality c.out-pool.ensures.pool (c.pool_qualities-pools.ensures at c.out-pool.ensures.known_pool)

pub weighted-requires-clause-size : goal.weighted-requires-clause-size
weighted-requires-clause-size c =
    let at = c.out-pool.result.0 in
    out_size (net_of c.args.net.now) (shown_plan c.args.plan.now) c.args.quality c.loop-out.out at c.retained.result (get_or c.pool_qualities-pools.result at (pos 0)) c.in_parts-leaving.result
    c.sizes-counts.ensures.limited c.requires.room (omega arith) c.requires.quality c.out-pool.ensures.pool c.retained.ensures.value (c.pool_qualities-pools.ensures at c.out-pool.ensures.known_pool)
    c.in_parts-leaving.ensures.value c.outflow.result c.from.result c.from.ensures c.outflow.ensures

-- what the out of this iteration brings
this_out : (c : goal.After-sums-1) → IsOutPart (net_of c.args.net.now) (shown_plan c.args.plan.now) c.args.quality c.loop-out.out c.weighted.result
this_out c =
    let at = c.out-pool.result.0 in
    out_part (net_of c.args.net.now) (shown_plan c.args.plan.now) c.args.quality c.loop-out.out at c.retained.result (get_or c.pool_qualities-pools.result at (pos 0)) c.in_parts-leaving.result
    c.sizes-counts.ensures.limited c.requires.room (omega arith) c.requires.quality c.out-pool.ensures.pool c.retained.ensures.value (c.pool_qualities-pools.ensures at c.out-pool.ensures.known_pool)
    c.in_parts-leaving.ensures.value c.outflow.result c.from.result c.weighted.result c.from.ensures c.outflow.ensures c.weighted.ensures.value

-- the cell that it is added to
out_cell : (c : goal.After-sums-1) → unsigned_abs (get_or c.loop-out.sums c.out-pool.result.1 (pos 0)) ≤ 2 ^ 126
out_cell c =
    let n = net_of c.args.net.now in
    let w = shown_plan c.args.plan.now in
    let at = c.out-pool.result.1 in
    let known = c.out-pool.ensures.known_product in
    small_as (get_or c.loop-out.sums at (pos 0)) (pooled_below n w c.args.quality c.loop-out.out at) (c.loop-out.invariant.exact at known)
    (pooled-most n w c.args.quality c.sizes-counts.ensures.limited c.requires.room c.requires.quality at c.loop-out.out known (omega arith))

pub overflow_add-sums : goal.overflow_add-sums
overflow_add-sums c = wide_fits (get_or c.loop-out.sums c.out-pool.result.1 (pos 0)) c.weighted.result (out_cell c) (this_out c).size

pub loop-out-preserved : goal.loop-out-preserved
loop-out-preserved c =
    let n = net_of c.args.net.now in
    let w = shown_plan c.args.plan.now in
    let part = this_out c in
    int_first_more n.out_product (λ o. leaving n w (n.out_pool o) c.args.quality *ℤ pos (written_out w o)) c.loop-out.out c.out-pool.result.1 n.products 64 c.weighted.result
    c.loop-out.sums c.loop-out.invariant c.out-pool.ensures.product c.out-pool.ensures.known_product c.sizes-counts.ensures.limited.products part.exact (out_cell c) part.size

pub in_parts-sent-requires-clause-number : goal.in_parts-sent-requires-clause-number
in_parts-sent-requires-clause-number c =
    let n = net_of c.args.net.now in
    let narrow : FitsSigned w64 c.source_quality.result = search rules in
    wide_small n c.args.quality c.loop-direct.direct c.from-in-loop-direct.result c.sizes-counts.ensures.limited (omega arith) c.requires.quality
    (quality_is n c.args.quality c.loop-direct.direct c.direct-source.result.0 c.source_quality.result c.from-in-loop-direct.result narrow
    c.direct-source.ensures.source c.source_quality.ensures.value c.from-in-loop-direct.ensures)

pub weighted-requires-in-loop-direct-clause-size : goal.weighted-requires-in-loop-direct-clause-size
weighted-requires-in-loop-direct-clause-size c =
    let n = net_of c.args.net.now in
    let narrow : FitsSigned w64 c.source_quality.result = search rules in
    direct_size n (shown_plan c.args.plan.now) c.args.quality c.loop-direct.direct c.scale.result c.from-in-loop-direct.result c.in_parts-sent.result c.sizes-counts.ensures.limited c.requires.room
    (omega arith) c.requires.quality c.scale.ensures.value
    (quality_is n c.args.quality c.loop-direct.direct c.direct-source.result.0 c.source_quality.result c.from-in-loop-direct.result narrow
    c.direct-source.ensures.source c.source_quality.ensures.value c.from-in-loop-direct.ensures)
    c.in_parts-sent.ensures.value c.whole_direct.result c.whole_direct.ensures.flow

-- what the direct of this iteration brings
this_direct : (c : goal.After-sums-in-loop-direct-1) → IsDirectPart (net_of c.args.net.now) (shown_plan c.args.plan.now) c.args.quality c.loop-direct.direct c.weighted-in-loop-direct.result
this_direct c =
    let n = net_of c.args.net.now in
    let narrow : FitsSigned w64 c.source_quality.result = search rules in
    direct_part n (shown_plan c.args.plan.now) c.args.quality c.loop-direct.direct c.scale.result c.from-in-loop-direct.result c.in_parts-sent.result c.sizes-counts.ensures.limited c.requires.room
    (omega arith) c.requires.quality c.scale.ensures.value
    (quality_is n c.args.quality c.loop-direct.direct c.direct-source.result.0 c.source_quality.result c.from-in-loop-direct.result narrow
    c.direct-source.ensures.source c.source_quality.ensures.value c.from-in-loop-direct.ensures)
    c.in_parts-sent.ensures.value c.whole_direct.result c.weighted-in-loop-direct.result c.whole_direct.ensures.flow c.weighted-in-loop-direct.ensures.value

-- the cell that it is added to
direct_cell : (c : goal.After-sums-in-loop-direct-1) → unsigned_abs (get_or c.loop-direct.sums c.direct-source.result.1 (pos 0)) ≤ 2 ^ 126
direct_cell c =
    let n = net_of c.args.net.now in
    let w = shown_plan c.args.plan.now in
    let limited = c.sizes-counts.ensures.limited in
    let at = c.direct-source.result.1 in
    let known = c.direct-source.ensures.known_product in
    small_sum (get_or c.loop-direct.sums at (pos 0)) (pooled_below n w c.args.quality n.outs at) (sent_below n w c.args.quality c.loop-direct.direct at) (c.loop-direct.invariant.exact at known)
    (pooled-most n w c.args.quality limited c.requires.room c.requires.quality at n.outs known (omega arith))
    (sent-most n w c.args.quality limited c.requires.room c.requires.quality at c.loop-direct.direct known (omega arith))

pub overflow_add-sums-in-loop-direct : goal.overflow_add-sums-in-loop-direct
overflow_add-sums-in-loop-direct c =
    wide_fits (get_or c.loop-direct.sums c.direct-source.result.1 (pos 0)) c.weighted-in-loop-direct.result (direct_cell c) (this_direct c).size

pub loop-direct-preserved : goal.loop-direct-preserved
loop-direct-preserved c =
    let n = net_of c.args.net.now in
    let w = shown_plan c.args.plan.now in
    let part = this_direct c in
    int_more n.direct_product (λ e. pos n.scale *ℤ n.source_quality (n.direct_source e) c.args.quality *ℤ pos ((plan_of n w).direct e)) (pooled_below n w c.args.quality n.outs)
    c.loop-direct.direct c.direct-source.result.1 n.products 64 c.weighted-in-loop-direct.result c.loop-direct.sums c.loop-direct.invariant
    c.direct-source.ensures.product c.direct-source.ensures.known_product c.sizes-counts.ensures.limited.products part.exact (direct_cell c) part.size

pub returns : goal.returns
returns c =
    let all : c.loop-direct.direct ≡ (net_of c.args.net.now).directs = omega arith in
    rw all at c.loop-direct.invariant.exact

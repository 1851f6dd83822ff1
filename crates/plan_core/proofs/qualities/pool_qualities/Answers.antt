use Rattle.std.proofs.Common.{◌^◌, ◌≤◌, pos, ◌*ℤ◌, unsigned_abs, get_or, arith, ap, ◌∙◌, rules, FitsSigned}
use Rattle.std.proofs.lemmas.Int.{to_z-of_z}
use mir.Syntax.{w64, w128}
use Rattle.pool_model.specs.Network.{net_of}
use Rattle.pool_model.specs.Plan.{weight}
use Rattle.plan_core.specs.Views.{shown_plan}
use Rattle.plan_core.proofs.Tables.{int_first_more, wide_fits}
use Rattle.plan_core.proofs.Reaching.{fed-most, small_as}
use Rattle.plan_core.proofs.Terms.{IsFeedPart, feed_part}
use Rattle.plan_core.proofs.qualities.pool_qualities.Goals as goal

-- what the feed of this iteration brings
this_feed : (c : goal.After-sums-1) → IsFeedPart (net_of c.args.net.now) (shown_plan c.args.plan.now) c.args.quality c.loop-feed.feed c.weighted.result
this_feed c =
    let n = net_of c.args.net.now in
    let arc = c.loop-feed.feed in
    let wide : FitsSigned w128 c.from.result = search rules in
    let narrow : FitsSigned w64 c.source_quality.result = search rules in
    let quality = c.from.ensures ∙ to_z-of_z w64 c.source_quality.result narrow ∙ c.source_quality.ensures.value ∙ ap (λ i. n.source_quality i c.args.quality) c.feed-source.ensures.source in
    feed_part n (shown_plan c.args.plan.now) c.args.quality arc c.from-in-loop-feed.result c.from.result c.weighted.result c.sizes-counts.ensures.limited (omega arith) c.requires.quality quality
    (c.from-in-loop-feed.ensures ∙ c.weight.ensures) (omega (arith, c.weight.ensures, c.weight.type_inv)) c.weighted.ensures.value

-- the cell that it is added to
this_cell : (c : goal.After-sums-1) → unsigned_abs (get_or c.loop-feed.sums c.feed-source.result.1 (pos 0)) ≤ 2 ^ 126
this_cell c =
    let at = c.feed-source.result.1 in
    let known = c.feed-source.ensures.known_pool in
    let most = fed-most (net_of c.args.net.now) (shown_plan c.args.plan.now) c.args.quality c.sizes-counts.ensures.limited c.requires.room c.requires.quality at c.loop-feed.feed known (omega arith) in
    small_as (get_or c.loop-feed.sums at (pos 0)) _ (c.loop-feed.invariant.exact at known) (omega (arith, most))

pub overflow_add-sums : goal.overflow_add-sums
overflow_add-sums c = wide_fits (get_or c.loop-feed.sums c.feed-source.result.1 (pos 0)) c.weighted.result (this_cell c) (omega (arith, (this_feed c).size))

pub loop-feed-preserved : goal.loop-feed-preserved
loop-feed-preserved c =
    let n = net_of c.args.net.now in
    let part = this_feed c in
    int_first_more n.feed_pool (λ e. n.source_quality (n.feed_source e) c.args.quality *ℤ pos (weight (shown_plan c.args.plan.now) e)) c.loop-feed.feed c.feed-source.result.1 n.pools 16
    c.weighted.result c.loop-feed.sums c.loop-feed.invariant c.feed-source.ensures.pool c.feed-source.ensures.known_pool
    c.sizes-counts.ensures.limited.pools part.exact (this_cell c) (omega (arith, part.size))

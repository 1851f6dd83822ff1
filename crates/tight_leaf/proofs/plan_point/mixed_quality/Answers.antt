use Rattle.std.proofs.Common.{◌≡◌, ◌≤◌, ◌+◌, ◌*◌, ◌^◌, ℕ, List, ℤ, pos, ◌*ℤ◌, unsigned_abs, get_or, FitsSigned, rules, arith, subst, sym, ap, ◌∙◌}
use mir.Syntax.{w64, w128}
use mir.Val.{to_z}
use Rattle.std.proofs.lemmas.Int.{to_z-of_z}
use Rattle.std.proofs.lemmas.List.{take_all}
use Rattle.integers.specs.Sums.{int_sum_by}
use Rattle.integers.proofs.Numbers.{numbers_at-sum}
use Rattle.integers.proofs.WideSums.{added, added-small, term-more}
use Rattle.pool_model.specs.Network.{net_of}
use Rattle.plan_core.specs.Views.{shown_plan}
use Rattle.tight_leaf.specs.PlanPoints.{share_of}
use Rattle.tight_leaf.proofs.plan_point.mixed_quality.Goals as goal

pub loop-feed-preserved : goal.loop-feed-preserved
loop-feed-preserved c =
    let n = net_of c.args.net.now in
    let w = shown_plan c.args.plan.now in
    let items = c.numbers_at-feed-items.result.now in
    let i = c.loop-feed.feed-index in
    let e = get_or items i 0 in
    let s = to_z w128 c.loop-feed.sum-bits in
    let p = c.weighted-sum.result in
    let narrow : FitsSigned w64 c.source_quality.result = search rules in
    let wide : FitsSigned w128 c.share-part.result = search rules in
    let few : i ≤ 512 = omega (arith, c.numbers_at-feed-items.ensures.few, c.loop-feed-test.true) in
    let exact = added s p (2 ^ 57 * i) c.loop-feed.invariant.1 (omega arith) (omega (arith, c.weighted-sum.ensures.small)) in
    let term = λ (f : ℕ). n.source_quality (n.feed_source f) c.args.quality *ℤ pos (share_of n w f) in
    let read = c.source_quality.ensures.value ∙ ap (λ (source : ℕ). n.source_quality source c.args.quality) c.feed-source.ensures.source in
    let part : p ≡ term e =
    (simp to_z-of_z at c.weighted-sum.ensures.value) ∙ ap (λ (z : ℤ). c.source_quality.result *ℤ z) c.share-part.ensures.value ∙ ap (λ (z : ℤ). z *ℤ pos (share_of n w e)) read in (
      exact ∙ term-more term items i s p c.loop-feed-test.true c.loop-feed.invariant.0 part,
      subst (λ (z : ℤ). unsigned_abs z ≤ 2 ^ 57 * (i + 1)) (sym exact) (added-small s p (2 ^ 57) i c.loop-feed.invariant.1 c.weighted-sum.ensures.small),
    )

pub returns : goal.returns
returns c =
    let n = net_of c.args.net.now in
    let w = shown_plan c.args.plan.now in
    let term = λ (f : ℕ). n.source_quality (n.feed_source f) c.args.quality *ℤ pos (share_of n w f) in
    record {
      value = c.loop-feed.invariant.0
          ∙ ap (λ (xs : List ℕ). int_sum_by term xs) (take_all c.loop-feed.feed-index c.numbers_at-feed-items.result.now c.loop-feed-test.false ∙ c.numbers_at-feed-items.ensures.numbers)
          ∙ numbers_at-sum term n.feed_pool c.args.pool n.feeds;
      small = omega (arith, c.loop-feed.invariant.1, c.numbers_at-feed-items.ensures.few);
    }

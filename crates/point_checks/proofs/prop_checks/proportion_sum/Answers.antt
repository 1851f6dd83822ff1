use Rattle.std.proofs.Common.{ℕ, List, get_or, ap, ◌∙◌}
use Rattle.std.specs.List.{sum_by}
use Rattle.std.proofs.lemmas.List.{take_all}
use Rattle.pool_model.specs.Network.{net_of}
use Rattle.integers.proofs.Numbers.{numbers_at-total}
use Rattle.point_checks.proofs.prop_checks.proportion_sum.Goals as goal

pub returns : goal.returns
returns c =
    let n = net_of c.args.net.now in
    let part = λ (e : ℕ). get_or c.args.proportions.now e 0 in
    c.loop-feed.invariant.0
    ∙ ap (λ (xs : List ℕ). sum_by part xs) (take_all c.loop-feed.feed-index c.numbers_at-feed-items.result.now c.loop-feed-test.false ∙ c.numbers_at-feed-items.ensures.numbers)
    ∙ numbers_at-total part n.feed_pool c.args.pool n.feeds

use Rattle.std.proofs.Common.{◌≡◌, ℕ, List, get_or, subst, arith, length}
use Rattle.form_plans.specs.Divisors.{IsDivisorOf}
use Rattle.form_plans.proofs.CommonDivisors.{divisor-none, divisor-more}
use Rattle.form_plans.proofs.part_bases.pool_divisor.Goals as goal

pub loop-feed-init : goal.loop-feed-init
loop-feed-init c = divisor-none c.args.sent (λ (i : ℕ). get_or c.args.feeds.now (get_or c.numbers_at-feed-items.result.now i 0) 0)

pub loop-feed-preserved : goal.loop-feed-preserved
loop-feed-preserved c =
    divisor-more c.args.sent (λ (i : ℕ). get_or c.args.feeds.now (get_or c.numbers_at-feed-items.result.now i 0) 0) c.loop-feed.feed-index c.loop-feed.divisor c.gcd-divisor.result
    (c.loop-feed.invariant.positive c.requires.positive) c.loop-feed.invariant c.gcd-divisor.ensures

pub returns : goal.returns
returns c =
    let items = c.numbers_at-feed-items.result.now in
    let whole : c.loop-feed.feed-index ≡ length items = omega (arith, c.loop-feed-test.false, c.loop-feed.auto.feed-index-end) in
    subst (λ (xs : List ℕ). IsDivisorOf c.args.sent (λ (i : ℕ). get_or c.args.feeds.now (get_or xs i 0) 0) (length xs) c.loop-feed.divisor) c.numbers_at-feed-items.ensures.numbers
    (subst (λ (k : ℕ). IsDivisorOf c.args.sent (λ (i : ℕ). get_or c.args.feeds.now (get_or items i 0) 0) k c.loop-feed.divisor) whole c.loop-feed.invariant)

use Rattle.std.proofs.Common.{◌≡◌, ℕ, ◌≤◌, ◌*◌, get_or, arith, subst, sym}
use Rattle.std.proofs.Math.Nat.{div-le_of_le-mul}
use Rattle.integers.specs.Sums.{sum_at}
use Rattle.integers.proofs.AtKey.{term-le-sum_at}
use Rattle.pool_model.specs.Network.{net_of}
use Rattle.plan_repair.specs.PlainPlan.{feed_flow}
use Rattle.plan_repair.proofs.weights.rounded.Goals as goal

pub returns-clause-size : goal.returns-clause-size
returns-clause-size c =
    let n = net_of c.args.net.now in
    let flow = feed_flow n c.args.point.now in
    let pool = c.feed-pool.result.1 in
    let total = get_or c.args.flows.now pool 0 in
    let sum : total ≡ sum_at n.feed_pool pool flow n.feeds = c.requires.flows pool c.feed-pool.ensures.known_pool in
    let part : flow c.args.feed ≤ sum_at n.feed_pool pool flow n.feeds =
    term-le-sum_at n.feed_pool pool flow n.feeds c.args.feed c.requires.feed (sym c.feed-pool.ensures.pool) in
    let small : 1048576 * c.feed_flow.result ≤ total * 1048576 = omega (arith, sum, part, c.feed_flow.ensures.value) in
    subst (λ (z : ℕ). z ≤ 1048576) (sym c.share.ensures) (div-le_of_le-mul total small)

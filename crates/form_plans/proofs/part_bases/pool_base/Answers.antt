use Rattle.std.proofs.Common.{◌≡◌, ℕ, ◌/◌, get_or, length, arith, sym, subst}
use Rattle.integers.specs.Numbers.{numbers_at}
use Rattle.pool_model.specs.Network.{net_of}
use Rattle.pool_model.specs.Plan.{outflow}
use Rattle.form_plans.specs.Divisors.{IsDivisorOf}
use Rattle.point_checks.specs.Flows.{flows_plan}
use Rattle.form_plans.specs.Parts.{IsPoolBase}
use Rattle.form_plans.proofs.Parts.{empty-base, full-base, quotient-le}
use Rattle.form_plans.proofs.part_bases.pool_base.Goals as goal

pub returns-then-sent-eq0-clause-least : goal.returns-then-sent-eq0-clause-least
returns-then-sent-eq0-clause-least c =
    let n = net_of c.args.net.now in
    let p = flows_plan c.args.flows.now in
    let sent : c.sum_at_node-sent.result ≡ outflow n p c.args.pool = c.sum_at_node-sent.ensures.sum in
    empty-base n p c.args.pool c.requires.limited c.requires.carries (omega (arith, sent, c.if-sent-eq0.true))

pub nonzero_div-result : goal.nonzero_div-result
nonzero_div-result c =
    let positive = c.pool_divisor.ensures.positive (omega (arith, c.if-sent-eq0.false)) in
    omega arith

pub returns-clause-least : goal.returns-clause-least
returns-clause-least c =
    let n = net_of c.args.net.now in
    let p = flows_plan c.args.flows.now in
    let l = c.args.pool in
    let g = c.pool_divisor.result in
    let numbers = numbers_at n.feed_pool l n.feeds in
    let sent : c.sum_at_node-sent.result ≡ outflow n p l = c.sum_at_node-sent.ensures.sum in
    let divisor = subst (λ (t : ℕ). IsDivisorOf t (λ i. p.feed (get_or numbers i 0)) (length numbers) g) sent c.pool_divisor.ensures in
    subst (λ (t : ℕ). IsPoolBase n p l (t / g)) (sym sent) (full-base n p l g (omega (arith, sent, c.if-sent-eq0.false)) divisor)

pub returns-clause-small : goal.returns-clause-small
returns-clause-small c =
    let le = quotient-le c.sum_at_node-sent.result c.pool_divisor.result in
    omega (arith, le, c.sum_at_node-sent.ensures.small)

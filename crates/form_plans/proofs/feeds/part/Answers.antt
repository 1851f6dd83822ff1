use Rattle.std.proofs.Common.{◌≡◌, arith, ap, ◌∙◌}
use Rattle.pool_model.specs.Network.{net_of}
use Rattle.pool_model.specs.Plan.{outflow}
use Rattle.point_checks.specs.Flows.{flows_plan}
use Rattle.form_plans.proofs.Parts.{part-computed, part-within}
use Rattle.form_plans.proofs.feeds.part.Goals as goal

pub overflow_cast-result : goal.overflow_cast-result
overflow_cast-result c =
    let n = net_of c.args.net.now in
    let p = flows_plan c.args.flows.now in
    let sent : c.sum_at_node-sent.result ≡ outflow n p (n.feed_pool c.args.feed) = c.sum_at_node-sent.ensures.sum ∙ ap (outflow n p) c.feed-pool.ensures.pool in
    let within = part-within n p c.args.base c.from.result c.sum_at_node-sent.result c.args.feed c.requires.limited c.requires.carries
    c.requires.feed c.requires.whole c.from.ensures sent c.if-sent-gt0.true in
    omega (arith, within, c.requires.small)

pub returns-then-sent-gt0 : goal.returns-then-sent-gt0
returns-then-sent-gt0 c =
    let n = net_of c.args.net.now in
    let p = flows_plan c.args.flows.now in
    let sent : c.sum_at_node-sent.result ≡ outflow n p (n.feed_pool c.args.feed) = c.sum_at_node-sent.ensures.sum ∙ ap (outflow n p) c.feed-pool.ensures.pool in
    part-computed n p c.args.base c.from.result c.sum_at_node-sent.result c.args.feed c.requires.feed c.requires.whole c.from.ensures sent c.if-sent-gt0.true

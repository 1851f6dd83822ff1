use Rattle.std.proofs.Common.{◌^◌, ◌+◌, ◌*◌}
use Rattle.integers.specs.Sums.{sum_at}
use Rattle.pool_model.specs.Network.{net_of}
use Rattle.pool_model.specs.Plan.{plan_of}
use Rattle.plan_core.specs.Views.{shown_plan}
use Rattle.plan_core.proofs.Tables.{IsTable}
use Rattle.plan_core.proofs.sums.product_inflows.Given as goal

abbrev pub invariant-loop-out : goal.invariant-loop-out
invariant-loop-out l =
    let n = net_of l.net in
    IsTable 64 n.products (λ j. sum_at n.out_product j (plan_of n (shown_plan l.plan)).out l.out) (2 ^ 96 * l.out) l.flows

abbrev pub invariant-loop-direct : goal.invariant-loop-direct
invariant-loop-direct l =
    let n = net_of l.net in
    let p = plan_of n (shown_plan l.plan) in
    IsTable 64 n.products (λ j. sum_at n.out_product j p.out n.outs + sum_at n.direct_product j p.direct l.direct) (2 ^ 96 * 256 + 2 ^ 96 * l.direct) l.flows

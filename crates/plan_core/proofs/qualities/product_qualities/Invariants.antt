use Rattle.std.proofs.Common.{◌+ℤ◌}
use Rattle.pool_model.specs.Network.{net_of}
use Rattle.plan_core.specs.Views.{shown_plan}
use Rattle.plan_core.specs.Weighed.{pooled_below, sent_below}
use Rattle.plan_core.proofs.Tables.{IsSignedTable}
use Rattle.plan_core.proofs.qualities.product_qualities.Given as goal

abbrev pub invariant-loop-out : goal.invariant-loop-out
invariant-loop-out l =
    let n = net_of l.net in
    IsSignedTable 64 n.products (pooled_below n (shown_plan l.plan) l.quality l.out) l.sums

abbrev pub invariant-loop-direct : goal.invariant-loop-direct
invariant-loop-direct l =
    let n = net_of l.net in
    let w = shown_plan l.plan in
    IsSignedTable 64 n.products (λ j. pooled_below n w l.quality n.outs j +ℤ sent_below n w l.quality l.direct j) l.sums

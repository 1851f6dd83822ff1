use Rattle.std.proofs.Common.{refl, ap, sym, subst, ◌∙◌}
use Rattle.pool_model.specs.Network.{net_of}
use Rattle.pool_model.specs.Plan.{Obeys, cost_of, plan_of}
use Rattle.pool_model.proofs.Shipments.{meets-none, meets-nothing}
use Rattle.pool_model.proofs.Starts.{zero-cost, zero-minima, zero-obeys}
use Rattle.start_ways.proofs.Ways.{start-zero}
use Rattle.start_ways.proofs.cost.start_cost.Goals as goal

pub returns-in-None-clause-obeys : goal.returns-in-None-clause-obeys
returns-in-None-clause-obeys c =
    let n = net_of c.args.net.now in
    subst (λ w. Obeys n (plan_of n w)) (sym (start-zero n c.args.number c.in-None.ensures)) (zero-obeys n (meets-none n 0 (c.if-meets_minima.ensures.meets.0 refl)))

pub returns-in-None-clause-cost : goal.returns-in-None-clause-cost
returns-in-None-clause-cost c =
    let n = net_of c.args.net.now in
    sym (ap (λ w. cost_of n (plan_of n w)) (start-zero n c.args.number c.in-None.ensures) ∙ zero-cost n)

pub returns-in-None-2-clause-breaks : goal.returns-in-None-2-clause-breaks
returns-in-None-2-clause-breaks c obeys =
    let n = net_of c.args.net.now in
    cc (c.if-meets_minima.ensures.meets.1 (meets-nothing n 0 (zero-minima n (subst (λ w. Obeys n (plan_of n w)) (start-zero n c.args.number c.in-None.ensures) obeys))))

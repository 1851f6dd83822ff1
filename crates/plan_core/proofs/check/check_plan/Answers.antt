use Rattle.std.proofs.lemmas.Result.{err_from_is_err_and}
use Rattle.pool_model.specs.Network.{net_of}
use Rattle.plan_core.specs.Views.{shown_plan}
use Rattle.plan_core.proofs.Supply.{room_of}
use Rattle.plan_core.proofs.Accepted.{KeepsFlows, cost_is}
use Rattle.plan_core.proofs.FirstFault.{quality_first, arc_first}
use Rattle.plan_core.proofs.check.check_plan.Goals as goal

pub check_qualities-requires-clause-room : goal.check_qualities-requires-clause-room
check_qualities-requires-clause-room c =
    room_of (net_of c.args.net.now)
    (shown_plan c.args.plan.now) c.check_shape.ensures.limited c.in_ok-check_shape.ensures.shaped c.in_ok-check_weight_sums.ensures.keeps c.in_ok-check_maxima.ensures.keeps

pub cost-requires-clause-room : goal.cost-requires-clause-room
cost-requires-clause-room c =
    room_of (net_of c.args.net.now)
    (shown_plan c.args.plan.now) c.check_shape.ensures.limited c.in_ok-check_shape.ensures.shaped c.in_ok-check_weight_sums.ensures.keeps c.in_ok-check_maxima.ensures.keeps

pub returns-in_err-check_qualities-clause-fault : goal.returns-in_err-check_qualities-clause-fault
returns-in_err-check_qualities-clause-fault c =
    let kept : KeepsFlows (net_of c.args.net.now) (shown_plan c.args.plan.now) = record {
      shaped = c.in_ok-check_shape.ensures.shaped;
      sums = c.in_ok-check_weight_sums.ensures.keeps;
      sources = c.in_ok-check_sources.ensures.keeps;
      pools = c.in_ok-check_pools.ensures.keeps;
      most = c.in_ok-check_maxima.ensures.keeps;
      least = c.in_ok-check_minima.ensures.keeps;
    } in
    let p = err_from_is_err_and c.from_residual-in_err-check_qualities.result c.from_residual-in_err-check_qualities.ensures.1 in
    rw (p.1, p.2) (quality_first (net_of c.args.net.now) (shown_plan c.args.plan.now) c.in_err-check_qualities.field-0.0 kept c.in_err-check_qualities.ensures.first)

pub returns-in_err-check_arcs-clause-fault : goal.returns-in_err-check_arcs-clause-fault
returns-in_err-check_arcs-clause-fault c =
    let kept : KeepsFlows (net_of c.args.net.now) (shown_plan c.args.plan.now) = record {
      shaped = c.in_ok-check_shape.ensures.shaped;
      sums = c.in_ok-check_weight_sums.ensures.keeps;
      sources = c.in_ok-check_sources.ensures.keeps;
      pools = c.in_ok-check_pools.ensures.keeps;
      most = c.in_ok-check_maxima.ensures.keeps;
      least = c.in_ok-check_minima.ensures.keeps;
    } in
    let p = err_from_is_err_and c.from_residual-in_err-check_arcs.result c.from_residual-in_err-check_arcs.ensures.1 in
    rw (p.1, p.2) (arc_first (net_of c.args.net.now) (shown_plan c.args.plan.now) c.in_err-check_arcs.field-0.0 kept c.in_ok-check_qualities.ensures.keeps_most
    c.in_ok-check_qualities.ensures.keeps_least c.in_err-check_arcs.ensures.first)

pub returns-clause-ok : goal.returns-clause-ok
returns-clause-ok c =
    cost_is (net_of c.args.net.now) (shown_plan c.args.plan.now) c.cost.result (record {
      flows = record {
        shaped = c.in_ok-check_shape.ensures.shaped;
        sums = c.in_ok-check_weight_sums.ensures.keeps;
        sources = c.in_ok-check_sources.ensures.keeps;
        pools = c.in_ok-check_pools.ensures.keeps;
        most = c.in_ok-check_maxima.ensures.keeps;
        least = c.in_ok-check_minima.ensures.keeps;
      };
      most = c.in_ok-check_qualities.ensures.keeps_most;
      least = c.in_ok-check_qualities.ensures.keeps_least;
      arcs = c.in_ok-check_arcs.ensures.keeps;
    }) c.cost.ensures.num c.cost.ensures.base

use Rattle.std.proofs.Common.{get_or, refl, rules, FitsSigned, below_more, arith}
use mir.Syntax.{w64}
use Rattle.pool_model.specs.Network.{net_of}
use Rattle.plan_core.specs.Views.{shown_plan}
use Rattle.plan_core.proofs.Rooms.{room_is, pool_over, pool_within}
use Rattle.plan_core.proofs.check.check_pools.Goals as goal

pub returns-then-room-through-clause-first : goal.returns-then-room-through-clause-first
returns-then-room-through-clause-first c =
    let n = net_of c.args.net.now in
    let l = c.loop-pool.pool in
    let fits : FitsSigned w64 c.pool_max.result = search rules in
    let room = room_is c.room.result c.from.result c.args.plan.now.flow_base (n.pool_max l) c.pool_max.result c.room.ensures c.from.ensures c.pool_max.ensures fits in
    record {
      at = l;
      is = refl;
      has = (omega arith, pool_over n (shown_plan c.args.plan.now) l c.room.result (get_or c.args.through.now l 0) room (c.requires.through l (omega arith)) c.requires.shaped.base.0 c.if-room-through.true);
      first = c.loop-pool.invariant;
    }

pub loop-pool-preserved : goal.loop-pool-preserved
loop-pool-preserved c =
    let n = net_of c.args.net.now in
    let l = c.loop-pool.pool in
    let fits : FitsSigned w64 c.pool_max.result = search rules in
    let room = room_is c.room.result c.from.result c.args.plan.now.flow_base (n.pool_max l) c.pool_max.result c.room.ensures c.from.ensures c.pool_max.ensures fits in
    below_more _ _ c.loop-pool.invariant
    (λ broken. pool_within n (shown_plan c.args.plan.now) l c.room.result (get_or c.args.through.now l 0) room (c.requires.through l (omega arith)) c.if-room-through.false broken.1)

use Rattle.std.proofs.Common.{◌<◌, arith, sym, ◌&&◌, pos}
use Rattle.pool_model.specs.Network.{net_of}
use Rattle.pool_model.specs.Starting.{is_above, is_below, way_quality}
use Rattle.pool_model.proofs.AllBelow.{all_below-false}
use Rattle.start_ways.specs.Ways.{shown_way}
use Rattle.start_ways.proofs.flow.suits.Goals as goal

pub returns-then-not-suits_quality : goal.returns-then-not-suits_quality
returns-then-not-suits_quality c =
    let n = net_of c.args.net.now in
    let brought = way_quality n (shown_way n c.args.way) in
    let within : c.loop-quality.quality < n.qualities = omega arith in
    sym (all_below-false (λ k. is_above (pos n.scale) (n.least c.args.product k) (brought k) && is_below (pos n.scale) (n.most c.args.product k) (brought k))
    n.qualities c.loop-quality.quality within (sym c.if-not-suits_quality.ensures))

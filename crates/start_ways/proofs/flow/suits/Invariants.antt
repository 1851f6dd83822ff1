use Rattle.std.proofs.Common.{◌≡◌, true, ◌&&◌, pos}
use Rattle.pool_model.specs.Network.{net_of}
use Rattle.pool_model.specs.Starting.{all_below, is_above, is_below, way_quality}
use Rattle.start_ways.specs.Ways.{shown_way}
use Rattle.start_ways.proofs.flow.suits.Given as goal

abbrev pub invariant-loop-quality : goal.invariant-loop-quality
invariant-loop-quality l =
    let n = net_of l.net in
    let brought = way_quality n (shown_way n l.way) in
    all_below (λ k. is_above (pos n.scale) (n.least l.product k) (brought k) && is_below (pos n.scale) (n.most l.product k) (brought k)) l.quality ≡ true

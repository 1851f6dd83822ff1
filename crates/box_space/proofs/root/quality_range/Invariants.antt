use Rattle.std.proofs.Common.{◌≡◌}
use Rattle.pool_model.specs.Network.{net_of}
use Rattle.pool_model.specs.Starting.{least_below}
use Rattle.row_model.specs.Boxes.{greatest_below, fed_quality}
use Rattle.box_space.proofs.root.quality_range.Given as goal

abbrev pub invariant-loop-feed : goal.invariant-loop-feed
invariant-loop-feed l = record {
  least : l.least ≡ least_below (fed_quality (net_of l.net) l.pool l.quality) l.feed;
  greatest : l.greatest ≡ greatest_below (fed_quality (net_of l.net) l.pool l.quality) l.feed;
}

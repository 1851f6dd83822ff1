use Rattle.std.proofs.Common.{◌≡◌}
use Rattle.pool_model.specs.Network.{net_of}
use Rattle.integers.specs.Numbers.{tabulate}
use Rattle.pool_model.specs.Starting.{first_weight}
use Rattle.start_ways.proofs.lists.first_weights.Given as goal

abbrev pub invariant-loop-feed : goal.invariant-loop-feed
invariant-loop-feed l = l.weights.items ≡ tabulate (first_weight (net_of l.net)) l.feed

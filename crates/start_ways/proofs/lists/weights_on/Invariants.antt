use Rattle.std.proofs.Common.{◌≡◌}
use Rattle.pool_model.specs.Network.{net_of}
use Rattle.integers.specs.Numbers.{tabulate}
use Rattle.start_ways.specs.Weights.{weight_on}
use Rattle.start_ways.proofs.lists.weights_on.Given as goal

abbrev pub invariant-loop-feed : goal.invariant-loop-feed
invariant-loop-feed l = l.weights.items ≡ tabulate (weight_on (net_of l.net) l.on) l.feed

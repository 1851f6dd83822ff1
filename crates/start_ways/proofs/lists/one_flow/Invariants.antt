use Rattle.std.proofs.Common.{◌≡◌}
use Rattle.integers.specs.Numbers.{tabulate}
use Rattle.pool_model.specs.Starting.{alone}
use Rattle.start_ways.proofs.lists.one_flow.Given as goal

abbrev pub invariant-loop-arc : goal.invariant-loop-arc
invariant-loop-arc l = l.flows.items ≡ tabulate (alone l.at l.amount) l.arc

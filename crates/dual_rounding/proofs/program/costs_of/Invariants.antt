use Rattle.std.proofs.Common.{◌≡◌}
use Rattle.integers.specs.Numbers.{tabulate}
use Rattle.pool_model.specs.Network.{net_of}
use Rattle.row_model.specs.Variables.{by_number, costs}
use Rattle.dual_rounding.proofs.program.costs_of.Given as goal

abbrev pub invariant-loop-var : goal.invariant-loop-var
invariant-loop-var l = l.costs.items ≡ tabulate (by_number (net_of l.net) (costs (net_of l.net))) l.var

use Rattle.std.proofs.Common.{◌≡◌, get_or}
use Rattle.integers.specs.Numbers.{tabulate}
use Rattle.pool_model.specs.Network.{net_of}
use Rattle.std.proofs.Common.{All, ◌<◌, ◌^◌}
use Rattle.integers.specs.Sums.{sum_at}
use Rattle.program_points.proofs.flows.pool_totals.Given as goal

abbrev pub invariant-loop-pool : goal.invariant-loop-pool
invariant-loop-pool l = (l.totals.items ≡ tabulate (λ p. sum_at (net_of l.net).out_pool p (λ o. get_or l.outflows o 0) (net_of l.net).outs) l.pool) × All (λ t. t < 2 ^ 74) l.totals.items

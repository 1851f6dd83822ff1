use Rattle.std.proofs.Common.{◌≡◌, map}
use Rattle.integers.specs.Numbers.{tabulate}
use Rattle.pool_model.specs.Network.{net_of}
use Rattle.box_space.specs.Views.{shown_part}
use Rattle.dual_rounding.specs.Price.{nonzero, price_part}
use Rattle.dual_rounding.proofs.price.price_proof.Given as goal

abbrev pub invariant-loop-pool : goal.invariant-loop-pool
invariant-loop-pool l = map shown_part l.parts.items ≡ nonzero (tabulate (price_part (net_of l.net)) l.pool)

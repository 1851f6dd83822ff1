use Rattle.std.proofs.Common.{◌≡◌, map}
use Rattle.network_parts.specs.Parts.{pool_row}
use Rattle.drawn_numbers.specs.Draws.{state_after}
use Rattle.network_maker.specs.Rows.{pool_rows}
use Rattle.network_maker.proofs.rows.pools.Given as goal

abbrev pub invariant-loop-l : goal.invariant-loop-l
invariant-loop-l l = (map pool_row l.rows.items ≡ pool_rows l.initial.draws.state l.l) × (l.draws.state ≡ state_after l.initial.draws.state (l.l))

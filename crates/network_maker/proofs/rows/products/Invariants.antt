use Rattle.std.proofs.Common.{◌≡◌, ◌*◌, map}
use Rattle.network_parts.specs.Parts.{product_row}
use Rattle.drawn_numbers.specs.Draws.{state_after}
use Rattle.network_maker.specs.Rows.{product_rows}
use Rattle.network_maker.proofs.rows.products.Given as goal

abbrev pub invariant-loop-j : goal.invariant-loop-j
invariant-loop-j l = (map product_row l.rows.items ≡ product_rows l.initial.draws.state l.j) × (l.draws.state ≡ state_after l.initial.draws.state (4 * l.j))

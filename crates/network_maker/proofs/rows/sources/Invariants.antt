use Rattle.std.proofs.Common.{◌≡◌, ◌*◌, map}
use Rattle.network_parts.specs.Parts.{source_row}
use Rattle.drawn_numbers.specs.Draws.{state_after}
use Rattle.network_maker.specs.Rows.{source_rows}
use Rattle.network_maker.proofs.rows.sources.Given as goal

abbrev pub invariant-loop-i : goal.invariant-loop-i
invariant-loop-i l = (map source_row l.rows.items ≡ source_rows l.initial.draws.state l.i) × (l.draws.state ≡ state_after l.initial.draws.state (4 * l.i))

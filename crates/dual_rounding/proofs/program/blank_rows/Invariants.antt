use Rattle.std.proofs.Common.{◌≡◌, map}
use Rattle.std.specs.Prelude.{filter}
use Rattle.integers.specs.Numbers.{tabulate}
use Rattle.pool_model.specs.Network.{net_of}
use Rattle.dual_rounding.specs.Programs.{has_row}
use Rattle.dual_rounding.proofs.program.blank_rows.Given as goal

abbrev pub invariant-loop-id : goal.invariant-loop-id
invariant-loop-id l = map (λ r. r.id) l.blanks.items ≡ filter (has_row (net_of l.net) l.form) (tabulate (λ i. i) l.id)

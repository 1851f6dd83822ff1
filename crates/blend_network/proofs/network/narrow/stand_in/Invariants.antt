use Rattle.std.proofs.Common.{◌≡◌, ◌≤◌, ◌*◌, ◌^◌, pos, map, take}
use Rattle.integers.specs.Sums.{int_sum_by}
use Rattle.network_parts.specs.Parts.{product_row}
use Rattle.blend_network.proofs.network.narrow.stand_in.Given as goal

abbrev pub invariant-loop-row : goal.invariant-loop-row
invariant-loop-row l = record {
  sum : pos l.sum ≡ int_sum_by (λ p. p.max) (take l.row-index (map product_row l.rows));
  size : l.sum ≤ l.row-index * 10 ^ 12;
}

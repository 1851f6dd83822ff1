use Rattle.std.proofs.Common.{◌≡◌}
use Rattle.integers.specs.Numbers.{tabulate}
use Rattle.blend_network.specs.Kept.{kept_key}
use Rattle.blend_network.proofs.network.index.grouped.Given as goal

abbrev pub invariant-loop-i : goal.invariant-loop-i
invariant-loop-i l = l.keys.items ≡ tabulate (kept_key l.arcs l.key) l.i

use Rattle.std.proofs.Common.{◌≡◌, map, string_bytes}
use Rattle.integers.specs.Numbers.{tabulate}
use Rattle.network_maker.specs.Generated.{named_quality}
use Rattle.network_maker.proofs.rows.qualities.Given as goal

abbrev pub invariant-loop-k : goal.invariant-loop-k
invariant-loop-k l = map string_bytes l.names.items ≡ tabulate named_quality l.k

use Rattle.std.proofs.Common.{ℕ, ◌<◌, [], map, get_or}
use Rattle.network_parts.specs.Faults.{IsName}
use Rattle.network_checks.proofs.names.check_names_of.Given as goal

abbrev pub invariant-loop-n : goal.invariant-loop-n
invariant-loop-n g l = (m : ℕ) → m < l.n → IsName (get_or (map g.T.Named.name_of l.rows) m [])

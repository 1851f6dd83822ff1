use Rattle.std.proofs.Common.{◌≡◌, ℕ, ◌<◌, ◌++◌, map, take}
use Rattle.network_parts.specs.Faults.{IsRepeatAt}
use Rattle.network_checks.specs.Names.{names_in}
use Rattle.network_checks.proofs.names.add_names.Given as goal

abbrev pub invariant-loop-n : goal.invariant-loop-n
invariant-loop-n g l = record {
  added : names_in l.names ≡ names_in l.initial.names ++ take l.n (map g.T.Named.name_of l.rows);
  fresh : (m : ℕ) → m < l.n → ¬ IsRepeatAt (names_in l.initial.names) (map g.T.Named.name_of l.rows) m;
}

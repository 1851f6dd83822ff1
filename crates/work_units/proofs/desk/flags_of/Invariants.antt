use Rattle.std.proofs.Common.{◌≡◌, ℕ, ◌<◌, length, get_or, false}
use Rattle.work_units.specs.Units.{node_of}
use Rattle.work_units.proofs.desk.flags_of.Given as goal

abbrev pub invariant-loop-job : goal.invariant-loop-job
invariant-loop-job l = record {
  many : length l.flags.items ≡ l.job-index;
  flags : (k : ℕ) → k < l.job-index → get_or l.flags.items k false ≡ get_or l.cut (node_of l.jobs k) false;
}

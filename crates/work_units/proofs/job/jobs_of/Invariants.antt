use Rattle.std.proofs.Common.{◌≡◌, ℕ, ◌<◌, length, get_or}
use Rattle.work_units.specs.Units.{no_job}
use Rattle.work_units.proofs.job.jobs_of.Given as goal

abbrev pub invariant-loop-i : goal.invariant-loop-i
invariant-loop-i l = record {
  many : length l.jobs.items ≡ l.i;
  each : (k : ℕ) → k < l.i → get_or l.jobs.items k no_job ≡ record { number = k; node = get_or l.leaves.items k 0 };
}

use Rattle.std.proofs.Common.{◌≡◌, ℕ, ◌<◌}
use Rattle.exact_run.specs.Operations.{whole}
use Rattle.exact_pivots.specs.Factors.{factors_of, IsUnder}
use Rattle.exact_pivots.specs.Views.{program_of}
use Rattle.exact_pivots.proofs.start.first_cost.Given as goal

abbrev pub invariant-loop-number : goal.invariant-loop-number
invariant-loop-number l = IsUnder l.number l.cost × ((v : ℕ) → v < l.number → factors_of l.cost v ≡ whole ((program_of l.program).cost v))

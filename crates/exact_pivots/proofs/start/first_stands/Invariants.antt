use Rattle.std.proofs.Common.{◌≡◌, ℕ, ◌+◌, ◌<◌, length, pos, ◌≤ℤ◌, ◌<ℤ◌}
use Rattle.exact_run.specs.declared.ends.End.TheVariants.{Low, High}
use Rattle.exact_pivots.specs.Views.{program_of, stands_at}
use Rattle.exact_pivots.proofs.start.first_stands.Given as goal

abbrev pub invariant-loop-number : goal.invariant-loop-number
invariant-loop-number l =
    (length l.stands.items ≡ l.number)
    × ((v : ℕ) → v < l.number → pos 0 ≤ℤ (program_of l.program).cost v → stands_at l.stands.items v ≡ Low)
    × ((v : ℕ) → v < l.number → (program_of l.program).cost v <ℤ pos 0 → stands_at l.stands.items v ≡ High)

abbrev pub invariant-loop : goal.invariant-loop
invariant-loop l =
    (length l.stands.items ≡ length l.program.variables.items + l.counter)
    × ((v : ℕ) → v < length l.program.variables.items → pos 0 ≤ℤ (program_of l.program).cost v → stands_at l.stands.items v ≡ Low)
    × ((v : ℕ) → v < length l.program.variables.items → (program_of l.program).cost v <ℤ pos 0 → stands_at l.stands.items v ≡ High)

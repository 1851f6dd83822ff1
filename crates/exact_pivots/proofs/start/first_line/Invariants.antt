use Rattle.std.proofs.Common.{ℕ, [], map, get_or, length}
use Rattle.exact_run.specs.Programs.{end_value}
use Rattle.exact_pivots.specs.Views.{program_of, stands_at}
use Rattle.exact_pivots.specs.Fits.{end_size, weight_of}
use Rattle.exact_pivots.proofs.Starting.{IsBegun}
use Rattle.exact_pivots.proofs.start.first_line.Given as goal

abbrev pub invariant-loop-term : goal.invariant-loop-term
invariant-loop-term l =
    let p = program_of l.program in
    (from : ℕ) × IsBegun (get_or (map (λ w. w.terms.items) l.program.rows.items) l.row []) l.rest (λ v. end_value p v (stands_at l.stands v)) (end_size p) p.variables
    (p.constant l.row) l.sum (weight_of p l.row) l.factors.entries.items from

abbrev pub decreases-loop-term : goal.decreases-loop-term
decreases-loop-term l = length l.rest

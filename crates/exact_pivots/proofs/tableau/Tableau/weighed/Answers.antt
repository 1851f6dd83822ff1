use Rattle.std.proofs.Common.{sym, subst, Err}
use Rattle.exact_num.specs.Fraction.{Fraction, IsSame}
use Rattle.exact_num.specs.Views.{shown_frac}
use Rattle.exact_run.specs.Steps.{IsBelow, IsCandidate, ratio}
use Rattle.exact_run.specs.declared.operations.Operation.TheVariants.{Div}
use Rattle.exact_pivots.specs.Choices.{IsWrittenFrom}
use Rattle.exact_pivots.specs.Sizes.{size_of}
use Rattle.exact_pivots.specs.Views.{program_of, state_of}
use Rattle.exact_pivots.specs.Weighing.{IsWeighed}
use Rattle.exact_pivots.specs.declared.pivots.Weighed.{Weighed}
use Rattle.exact_pivots.proofs.Choosing.{size_is_ratio, weighed_first, weighed_taken, weighed_stays, weighed_passed}
use Rattle.exact_pivots.proofs.Memory.{state_low, not_true}
use Rattle.exact_pivots.proofs.PivotThere.{candidate_written}
use Rattle.exact_pivots.proofs.Told.{told_as, handed_wide}
use Rattle.exact_pivots.proofs.tableau.Tableau.weighed.Goals as goal

pub returns-then-not-is_candidate-clause-best : goal.returns-then-not-is_candidate-clause-best
returns-then-not-is_candidate-clause-best c =
    let p = program_of c.args.program.now in
    let s = state_of c.args.self.now in
    let l = c.args.leaving in
    weighed_passed p s l (state_low c.args.self.now) c.args.entry.column c.args.best c.requires.best
    (not_true c.is_candidate.result (IsCandidate p s l.place l.side c.args.entry.column) c.is_candidate.ensures c.if-not-is_candidate.true)

pub returns-in_err-ratio-clause-wide : goal.returns-in_err-ratio-clause-wide
returns-in_err-ratio-clause-wide c =
    let p = program_of c.args.program.now in
    let s = state_of c.args.self.now in
    let l = c.args.leaving in
    let j = c.args.entry.column in
    let w = c.in_err-ratio.field-0.0 in
    let written : IsWrittenFrom p s Div (shown_frac c.at.result) (shown_frac c.args.entry.value) =
    subst (λ (x : Fraction). IsWrittenFrom p s Div x (shown_frac c.args.entry.value)) (sym c.at.ensures)
    (subst (λ (x : Fraction). IsWrittenFrom p s Div (s.cost j) x) c.requires.entry.0
    (candidate_written p s l.place l.side l.end j (state_low c.args.self.now) c.requires.leaves (c.is_candidate.ensures.0 c.if-not-is_candidate.false))) in
    handed_wide c.from_residual.result w (IsWrittenFrom p s) c.from_residual.ensures.1
    (told_as (Err w) (IsWrittenFrom p s) Div c.at.result c.args.entry.value written c.in_err-ratio.ensures.wide c.in_err-ratio.ensures.told)

pub returns-in_default-clause-best : goal.returns-in_default-clause-best
returns-in_default-clause-best c =
    let p = program_of c.args.program.now in
    let s = state_of c.args.self.now in
    let l = c.args.leaving in
    let w : Weighed = record { column = c.args.entry.column; ratio = c.in_ok-ratio.ratio } in
    let same : IsSame (size_of (shown_frac w.ratio)) (ratio s l.place w.column) =
    size_is_ratio s l.place w.column (shown_frac c.at.result) (shown_frac c.args.entry.value) w.ratio c.at.ensures (sym c.requires.entry.0) c.in_ok-ratio.ensures.answer in
    weighed_first p s l (state_low c.args.self.now) w (subst (IsWeighed p s l w.column) c.in_default.is c.requires.best) (c.is_candidate.ensures.0 c.if-not-is_candidate.false) same

pub returns-then-is_smaller-clause-best : goal.returns-then-is_smaller-clause-best
returns-then-is_smaller-clause-best c =
    let p = program_of c.args.program.now in
    let s = state_of c.args.self.now in
    let l = c.args.leaving in
    let w : Weighed = record { column = c.args.entry.column; ratio = c.in_ok-ratio.ratio } in
    let same : IsSame (size_of (shown_frac w.ratio)) (ratio s l.place w.column) =
    size_is_ratio s l.place w.column (shown_frac c.at.result) (shown_frac c.args.entry.value) w.ratio c.at.ensures (sym c.requires.entry.0) c.in_ok-ratio.ensures.answer in
    weighed_taken p s l (state_low c.args.self.now) w c.in-Some.least (subst (IsWeighed p s l w.column) c.in-Some.is c.requires.best) (c.is_candidate.ensures.0 c.if-not-is_candidate.false) same
    (c.is_smaller.ensures.0 c.if-is_smaller.true)

pub returns-else-is_smaller-clause-best : goal.returns-else-is_smaller-clause-best
returns-else-is_smaller-clause-best c =
    let p = program_of c.args.program.now in
    let s = state_of c.args.self.now in
    let l = c.args.leaving in
    let w : Weighed = record { column = c.args.entry.column; ratio = c.in_ok-ratio.ratio } in
    let same : IsSame (size_of (shown_frac w.ratio)) (ratio s l.place w.column) =
    size_is_ratio s l.place w.column (shown_frac c.at.result) (shown_frac c.args.entry.value) w.ratio c.at.ensures (sym c.requires.entry.0) c.in_ok-ratio.ensures.answer in
    weighed_stays p s l (state_low c.args.self.now) w c.in-Some.least (subst (IsWeighed p s l w.column) c.in-Some.is c.requires.best) (c.is_candidate.ensures.0 c.if-not-is_candidate.false) same
    (not_true c.is_smaller.result (IsBelow (size_of (shown_frac w.ratio)) (size_of (shown_frac c.in-Some.least.ratio))) c.is_smaller.ensures c.if-is_smaller.false)

use Rattle.std.proofs.Common.{◌+◌, None}
use Rattle.exact_run.specs.Steps.{IsCandidate}
use Rattle.exact_pivots.specs.Views.{program_of, state_of}
use Rattle.exact_pivots.proofs.Choosing.{weighed_next, weighed_passed, looked_next}
use Rattle.exact_pivots.proofs.Memory.{state_low, not_true}
use Rattle.exact_pivots.proofs.tableau.Tableau.has_candidate.Goals as goal

pub loop-entry-preserved : goal.loop-entry-preserved
loop-entry-preserved c =
    let p = program_of c.args.program.now in
    let s = state_of c.args.self.now in
    let l = c.args.leaving in
    let low = state_low c.args.self.now in
    let m = c.loop-entry.invariant in
    let rest = c.loop-entry.rest.now in
    let later = c.in-Some.later.now in
    let e = c.in-Some.entry.now in
    let looked = looked_next s l.place rest later e m.0 m.1 c.in-Some.ensures.cases.0 in (
      e.column + 1,
      looked.0,
      weighed_passed p s l low e.column None (weighed_next p s l rest later e m.0 None low m.1 c.in-Some.ensures.cases.0 m.2)
          (not_true c.is_candidate.result (IsCandidate p s l.place l.side e.column) c.is_candidate.ensures c.if-is_candidate.false),
    )

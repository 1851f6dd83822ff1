use Rattle.std.proofs.Common.{Some, subst}
use Rattle.exact_pivots.specs.Views.{program_of, state_of}
use Rattle.exact_pivots.specs.Weighing.{IsWeighed}
use Rattle.exact_pivots.proofs.Choosing.{weighed_next, weighed_all, one_enters}
use Rattle.exact_pivots.proofs.Entries.{empty-is}
use Rattle.exact_pivots.proofs.Memory.{state_low}
use Rattle.exact_pivots.proofs.tableau.Tableau.entering.Goals as goal

pub weighed-requires-clause-best : goal.weighed-requires-clause-best
weighed-requires-clause-best c =
    let m = c.loop-entry.invariant in
    weighed_next (program_of c.args.program.now) (state_of c.args.self.now) c.args.leaving c.loop-entry.rest.now c.in-Some.later.now c.in-Some.entry.now m.0 c.loop-entry.best
    (state_low c.args.self.now) m.1 c.in-Some.ensures.cases.0 m.2

pub returns-in-Some-best-clause-entering : goal.returns-in-Some-best-clause-entering
returns-in-Some-best-clause-entering c =
    let p = program_of c.args.program.now in
    let s = state_of c.args.self.now in
    let l = c.args.leaving in
    let m = c.loop-entry.invariant in
    let w = c.in-Some-best.weighed in
    one_enters p s l m.0 w (weighed_all p s l c.loop-entry.rest.now m.0 (Some w) (state_low c.args.self.now) m.1 (empty-is c.loop-entry.rest.now c.in_default.ensures.cases)
    (subst (IsWeighed p s l m.0) c.in-Some-best.is m.2))

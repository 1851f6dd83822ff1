use Rattle.std.proofs.Common.{◌≢◌, ◌∙◌, ◌+◌, ap, sym, subst, pos}
use Rattle.exact_num.specs.Fraction.{Fraction}
use Rattle.exact_num.specs.Views.{shown_frac}
use Rattle.exact_pivots.specs.Entries.{factor_at}
use Rattle.exact_pivots.specs.Stops.{IsSolvedFactor, IsWrittenSolving}
use Rattle.exact_pivots.proofs.Entries.{below-more, first-least, first-factor, first-other, empty-is}
use Rattle.exact_pivots.proofs.Told.{handed_on, solving_stops_as}
use Rattle.exact_pivots.proofs.Solving.{solving-step, solving-end}
use Rattle.exact_pivots.proofs.factors.Factors.solved.Goals as goal

pub returns-in_err-factor-clause-stops : goal.returns-in_err-factor-clause-stops
returns-in_err-factor-clause-stops c =
    let m = c.loop-entry.invariant in
    let rest = c.loop-entry.rest.now in
    let later = c.in-Some.later.now in
    let entry = c.in-Some.entry.now in
    let first = first-least rest later entry m.0 c.in-Some.ensures.cases.0 m.1.rising in
    handed_on c.from_residual.result c.in_err-factor.field-0.0 (IsWrittenSolving (factor_at c.args.self.now.entries.items) c.args.entering c.args.leaving) c.from_residual.ensures.1
    (solving_stops_as c.in_err-factor.field-0.0 (factor_at c.args.self.now.entries.items) (shown_frac c.at-by.result) c.args.entering c.args.leaving entry.column (shown_frac entry.value)
    c.at-by.ensures (sym (m.1.rest_is entry.column first ∙ first-factor rest later entry c.in-Some.ensures.cases.0))
    (first-other rest later entry m.0 c.in-Some.ensures.cases.0 m.1.rising) c.in_err-factor.ensures.wide)

pub push-requires : goal.push-requires
push-requires c =
    let m = c.loop-entry.invariant in
    below-more c.loop-entry.solved.entries.items m.0 c.in-Some.entry.now.column
    (first-least c.loop-entry.rest.now c.in-Some.later.now c.in-Some.entry.now m.0 c.in-Some.ensures.cases.0 m.1.rising) m.1.under

pub loop-entry-preserved : goal.loop-entry-preserved
loop-entry-preserved c =
    let m = c.loop-entry.invariant in
    let by = shown_frac c.at-by.result in
    let nz : by.num ≢ pos 0 = λ z. c.requires.entering (sym (ap (λ (x : Fraction). x.num) c.at-by.ensures) ∙ z) in (
      c.in-Some.entry.now.column + 1,
      solving-step c.args.self.now.entries.items by c.args.entering c.args.leaving c.loop-entry.rest.now c.loop-entry.solved.entries.items
          c.in-Some.later.now c.push.new.self.entries.items c.in-Some.entry.now (shown_frac c.in_ok-factor.factor) m.0 nz (sym c.at-by.ensures) m.1
          c.in-Some.ensures.cases.0 c.in_ok-push.ensures.under c.in_ok-push.ensures.factor c.in_ok-factor.ensures.factor,
    )

pub returns-clause-factors : goal.returns-clause-factors
returns-clause-factors c =
    let m = c.loop-entry.invariant in
    let by = shown_frac c.at-by.result in
    let nz : by.num ≢ pos 0 = λ z. c.requires.entering (sym (ap (λ (x : Fraction). x.num) c.at-by.ensures) ∙ z) in
    λ j. subst (λ (b : Fraction). IsSolvedFactor b c.args.entering c.args.leaving j (factor_at c.args.self.now.entries.items j) (factor_at c.loop-entry.solved.entries.items j)) c.at-by.ensures
    (solving-end c.args.self.now.entries.items by c.args.entering c.args.leaving c.loop-entry.rest.now c.loop-entry.solved.entries.items m.0 nz (sym c.at-by.ensures) m.1
    (empty-is c.loop-entry.rest.now c.in_default.ensures.cases) j)

use Rattle.exact_num.specs.Views.{shown_frac}
use Rattle.exact_pivots.specs.Choices.{IsWrittenFrom}
use Rattle.exact_pivots.specs.Factors.{factors_of}
use Rattle.exact_pivots.specs.Stops.{IsWrittenInRow}
use Rattle.exact_pivots.specs.Views.{program_of, state_of}
use Rattle.exact_pivots.proofs.Done.{IsAtWork, IsPut, any_line_written, any_cost_written, step_done, fits_done}
use Rattle.exact_pivots.proofs.Stepping.{AnyChanging}
use Rattle.exact_pivots.proofs.Told.{handed_same, stops_as}
use Rattle.exact_pivots.proofs.tableau.Tableau.step.Goals as goal

pub returns-in_err-change_lines-clause-stops : goal.returns-in_err-change_lines-clause-stops
returns-in_err-change_lines-clause-stops c =
    let p = program_of c.args.program.now in
    let t = c.args.self.now in
    let l = c.args.leaving in
    let k = c.args.entering in
    let made = c.in_ok-change.change in
    let work : IsAtWork p t l k made.entering (shown_frac made.moved) (shown_frac made.value) made.own =
    record { fits = c.requires.fits; leaves = c.requires.leaves; enters = c.requires.enters; made_is = c.in_ok-change.ensures.entering; row = c.in_ok-change.ensures.row } in
    let s = c.in_err-change_lines.field-0.0 in
    handed_same c.from_residual-in_err-change_lines.result s (IsWrittenFrom p (state_of t)) c.from_residual-in_err-change_lines.ensures.1
    (stops_as s (AnyChanging l.place made.entering (shown_frac made.moved) (factors_of made.own) t.lines.items) (IsWrittenFrom p (state_of t))
    (any_line_written p t l k made.entering (shown_frac made.moved) (shown_frac made.value) made.own work) c.in_err-change_lines.ensures.stops)

pub returns-in_err-change-2-clause-stops : goal.returns-in_err-change-2-clause-stops
returns-in_err-change-2-clause-stops c =
    let p = program_of c.args.program.now in
    let t = c.args.self.now in
    let l = c.args.leaving in
    let k = c.args.entering in
    let made = c.in_ok-change.change in
    let work : IsAtWork p t l k made.entering (shown_frac made.moved) (shown_frac made.value) made.own =
    record { fits = c.requires.fits; leaves = c.requires.leaves; enters = c.requires.enters; made_is = c.in_ok-change.ensures.entering; row = c.in_ok-change.ensures.row } in
    let s = c.in_err-change-2.field-0.0 in
    handed_same c.from_residual-in_err-change-2.result s (IsWrittenFrom p (state_of t)) c.from_residual-in_err-change-2.ensures.1
    (stops_as s (IsWrittenInRow (factors_of t.cost) (factors_of t.cost k) (factors_of made.own) k) (IsWrittenFrom p (state_of t))
    (any_cost_written p t l k made.entering (shown_frac made.moved) (shown_frac made.value) made.own work) c.in_err-change-2.ensures.stops)

pub returns-clause-step : goal.returns-clause-step
returns-clause-step c =
    let p = program_of c.args.program.now in
    let t = c.args.self.now in
    let l = c.args.leaving in
    let k = c.args.entering in
    let made = c.in_ok-change.change in
    let t2 = c.enter.new.self in
    let work : IsAtWork p t l k made.entering (shown_frac made.moved) (shown_frac made.value) made.own =
    record { fits = c.requires.fits; leaves = c.requires.leaves; enters = c.requires.enters; made_is = c.in_ok-change.ensures.entering; row = c.in_ok-change.ensures.row } in
    let put : IsPut t t2 c.change_lines.new.lines.items c.change.new.self l k made.entering (shown_frac made.moved) (shown_frac made.value) made.own =
    record { changed = c.in_ok-change_lines.ensures.changed; costs = c.in_ok-change-2.ensures.changed; line = c.enter.ensures.line; others = c.enter.ensures.lines; long = c.enter.ensures.length; stands = c.enter.ensures.stands; cost_is = c.enter.ensures.cost } in
    step_done p t l k made.entering (shown_frac made.moved) (shown_frac made.value) made.own work t2 c.change_lines.new.lines.items c.change.new.self put

pub returns-clause-fits : goal.returns-clause-fits
returns-clause-fits c =
    let p = program_of c.args.program.now in
    let t = c.args.self.now in
    let l = c.args.leaving in
    let k = c.args.entering in
    let made = c.in_ok-change.change in
    let t2 = c.enter.new.self in
    let work : IsAtWork p t l k made.entering (shown_frac made.moved) (shown_frac made.value) made.own =
    record { fits = c.requires.fits; leaves = c.requires.leaves; enters = c.requires.enters; made_is = c.in_ok-change.ensures.entering; row = c.in_ok-change.ensures.row } in
    let put : IsPut t t2 c.change_lines.new.lines.items c.change.new.self l k made.entering (shown_frac made.moved) (shown_frac made.value) made.own =
    record { changed = c.in_ok-change_lines.ensures.changed; costs = c.in_ok-change-2.ensures.changed; line = c.enter.ensures.line; others = c.enter.ensures.lines; long = c.enter.ensures.length; stands = c.enter.ensures.stands; cost_is = c.enter.ensures.cost } in
    fits_done p t l k made.entering (shown_frac made.moved) (shown_frac made.value) made.own work t2 c.change_lines.new.lines.items c.change.new.self put

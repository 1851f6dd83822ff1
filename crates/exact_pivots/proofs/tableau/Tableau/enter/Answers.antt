use Rattle.exact_pivots.specs.declared.tableau.Line.{Line}
use Rattle.exact_pivots.proofs.Memory.{line_at-set, line_at-other}
use Rattle.exact_pivots.proofs.tableau.Tableau.enter.Goals as goal

pub returns-clause-line : goal.returns-clause-line
returns-clause-line c =
    let l : Line = record { basic = c.args.change.entering; value = c.args.change.value; factors = c.args.change.own } in
    line_at-set c.args.self.now.lines.items c.args.leaving.place l c.requires.place

pub returns-clause-lines : goal.returns-clause-lines
returns-clause-lines c =
    let l : Line = record { basic = c.args.change.entering; value = c.args.change.value; factors = c.args.change.own } in
    λ q ne. line_at-other c.args.self.now.lines.items c.args.leaving.place q l ne

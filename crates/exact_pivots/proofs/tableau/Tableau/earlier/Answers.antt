use Rattle.exact_pivots.specs.Views.{program_of, state_of}
use Rattle.exact_pivots.proofs.Choosing.{leaving_none}
use Rattle.exact_pivots.proofs.tableau.Tableau.earlier.Goals as goal

pub returns-in_default : goal.returns-in_default
returns-in_default c = leaving_none (program_of c.args.program.now) (state_of c.args.self.now) c.args.place c.args.found c.requires.found c.in_default.ensures

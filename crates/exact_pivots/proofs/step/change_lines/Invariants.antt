use Rattle.exact_num.specs.Views.{shown_frac}
use Rattle.exact_pivots.specs.Factors.{factors_of}
use Rattle.exact_pivots.specs.Lines.{AreChangedTo}
use Rattle.exact_pivots.proofs.step.change_lines.Given as goal

abbrev pub invariant-loop-number : goal.invariant-loop-number
invariant-loop-number l = AreChangedTo l.place l.change.entering (shown_frac l.change.moved) (factors_of l.change.own) l.fn.lines.items l.lines.items l.number

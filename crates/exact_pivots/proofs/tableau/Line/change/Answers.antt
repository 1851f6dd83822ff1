use Rattle.std.proofs.Common.{◌≡◌, ◌∙◌, ap, sym, pos}
use Rattle.exact_num.specs.Fraction.{Fraction}
use Rattle.exact_num.specs.Views.{shown_frac}
use Rattle.exact_pivots.specs.Factors.{factors_of}
use Rattle.exact_pivots.proofs.Entries.{factor-zero}
use Rattle.exact_pivots.proofs.Reduced.{zero_from_bits}
use Rattle.exact_pivots.proofs.Unchanged.{unchanged_line}
use Rattle.exact_pivots.proofs.tableau.Line.change.Goals as goal

pub returns-then-num-eq0-clause-changed : goal.returns-then-num-eq0-clause-changed
returns-then-num-eq0-clause-changed c =
    let scale = c.at-scale.result in
    let line = c.args.self.now in
    let change = c.args.change.now in
    let zero : (shown_frac scale).num ≡ pos 0 = zero_from_bits c.num.result scale.num c.num.ensures scale.short_num c.if-num-eq0.true in
    unchanged_line change.entering (shown_frac change.moved) (factors_of change.own) line
    (factor-zero line.factors.entries.items 0 change.entering line.factors.rising (sym (ap (λ (x : Fraction). x.num) c.at-scale.ensures) ∙ zero))

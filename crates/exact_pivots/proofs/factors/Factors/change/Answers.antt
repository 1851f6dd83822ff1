use Rattle.std.proofs.Common.{◌≡◌, ◌∙◌, ap, sym, pos}
use Rattle.exact_num.specs.Fraction.{Fraction}
use Rattle.exact_num.specs.Views.{shown_frac}
use Rattle.exact_pivots.specs.Entries.{factor_at}
use Rattle.exact_pivots.specs.Factors.{factors_of}
use Rattle.exact_pivots.proofs.Entries.{factor-zero}
use Rattle.exact_pivots.proofs.Memory.{factor_low}
use Rattle.exact_pivots.proofs.Reduced.{zero_from_bits}
use Rattle.exact_pivots.proofs.Unchanged.{unchanged_row}
use Rattle.exact_pivots.proofs.factors.Factors.change.Goals as goal

pub returns-then-num-eq0-clause-changed : goal.returns-then-num-eq0-clause-changed
returns-then-num-eq0-clause-changed c =
    let scale = c.at-scale.result in
    let es = c.args.self.now.entries.items in
    let zero : (shown_frac scale).num ≡ pos 0 = zero_from_bits c.num.result scale.num c.num.ensures scale.short_num c.if-num-eq0.true in
    unchanged_row c.args.entering (factors_of c.args.own.now) (factor_at es) (factor_low es)
    (factor-zero es 0 c.args.entering c.args.self.now.rising (sym (ap (λ (x : Fraction). x.num) c.at-scale.ensures) ∙ zero))

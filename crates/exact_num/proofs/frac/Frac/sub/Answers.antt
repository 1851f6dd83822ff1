use Rattle.std.proofs.Common.{◌≡◌, OnOk, IfErr, subst}
use Rattle.exact_num.specs.Fraction.{IsShortSum}
use Rattle.exact_num.specs.Views.{shown_frac}
use Rattle.exact_num.specs.declared.frac.FracFault.TheVariants as faults
use Rattle.exact_num.proofs.frac.Frac.sub.Goals as goal

pub returns-clause-short : goal.returns-clause-short
returns-clause-short c = subst (λ y. OnOk c.add.result (IsShortSum (shown_frac c.args.self) y)) c.negated.ensures c.add.ensures.short

pub returns-clause-wide : goal.returns-clause-wide
returns-clause-wide c =
    subst (λ y. IfErr c.add.result (λ fault. (fault ≡ faults.Wide) × ¬ IsShortSum (shown_frac c.args.self) y)) c.negated.ensures c.add.ensures.wide

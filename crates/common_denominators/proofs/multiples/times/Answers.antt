use Rattle.std.proofs.Common.{rules, FitsSigned}
use Rattle.std.proofs.lemmas.Int.{to_z-of_z}
use mir.Syntax.{w128}
use Rattle.exact_num.specs.Views.{shown_frac}
use Rattle.common_denominators.proofs.Least.{times-outside, times-value}
use Rattle.common_denominators.proofs.multiples.times.Goals as goal

pub returns-in-Some-clause-value : goal.returns-in-Some-clause-value
returns-in-Some-clause-value c =
    let from : FitsSigned w128 c.from.result = search rules in
    let den : FitsSigned w128 c.den.result = search rules in
    let num : FitsSigned w128 c.num.result = search rules in
    let number : FitsSigned w128 c.in-Some.number = search rules in
    simp to_z-of_z
    (times-value (shown_frac c.args.fraction) c.args.count c.from.result c.den.result c.num.result c.in-Some.number c.ranges.count.fits c.requires
    c.from.ensures c.den.ensures c.num.ensures (simp to_z-of_z at c.in-Some.ensures.1))

pub returns-in-None-clause-outside : goal.returns-in-None-clause-outside
returns-in-None-clause-outside c =
    let from : FitsSigned w128 c.from.result = search rules in
    let den : FitsSigned w128 c.den.result = search rules in
    let num : FitsSigned w128 c.num.result = search rules in
    times-outside (shown_frac c.args.fraction) c.args.count c.from.result c.den.result c.num.result c.ranges.count.fits c.args.fraction.positive c.requires
    c.from.ensures c.den.ensures c.num.ensures (simp to_z-of_z at c.in-None.ensures)

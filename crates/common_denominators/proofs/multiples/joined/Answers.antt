use Rattle.std.proofs.Common.{◌*◌, ◌^◌, ◌≤◌, unsigned_abs, rules, arith, FitsSigned}
use Rattle.std.proofs.lemmas.Int.{to_z-of_z}
use mir.Syntax.{w128}
use Rattle.common_denominators.proofs.Least.{joined-least, joined-large, not-below}
use Rattle.common_denominators.proofs.multiples.joined.Goals as goal

pub returns-in-Some-clause-least : goal.returns-in-Some-clause-least
returns-in-Some-clause-least c =
    let den : FitsSigned w128 c.den.result = search rules in
    let f = c.over_denominator-cancelled.result in
    joined-least c.args.times c.args.fraction.den (unsigned_abs f.num) f.den c.in-Some.multiple c.from.result c.den.result c.requires f.positive f.lowest
    c.over_denominator-cancelled.ensures c.from.ensures c.den.ensures (simp to_z-of_z at c.in-Some.ensures.1)

pub returns-in_default-clause-large : goal.returns-in_default-clause-large
returns-in_default-clause-large c =
    let den : FitsSigned w128 c.den.result = search rules in
    let f = c.over_denominator-cancelled.result in
    let is = simp to_z-of_z at c.in-Some.ensures.1 in
    let large : 2 ^ 64 ≤ c.from.result * unsigned_abs c.den.result = omega (arith, is) in
    joined-large c.args.times c.args.fraction.den (unsigned_abs f.num) f.den c.from.result c.den.result c.requires f.lowest
    c.over_denominator-cancelled.ensures c.from.ensures c.den.ensures large

pub returns-in_default-2-clause-large : goal.returns-in_default-2-clause-large
returns-in_default-2-clause-large c =
    let den : FitsSigned w128 c.den.result = search rules in
    let f = c.over_denominator-cancelled.result in
    joined-large c.args.times c.args.fraction.den (unsigned_abs f.num) f.den c.from.result c.den.result c.requires f.lowest
    c.over_denominator-cancelled.ensures c.from.ensures c.den.ensures
    (not-below (c.from.result * unsigned_abs c.den.result) (2 ^ 128) (2 ^ 64) (omega arith) (simp to_z-of_z at c.in_default.ensures))

use Rattle.std.proofs.Common.{rules, FitsSigned}
use Rattle.std.proofs.lemmas.Int.{to_z-of_z}
use Rattle.common_denominators.proofs.Least.{sizes-of, never-refused}
use Rattle.common_denominators.proofs.multiples.over_denominator.Goals as goal
use mir.Syntax.{w128}

pub returns : goal.returns
returns c =
    let number : FitsSigned w128 c.from.result = search rules in
    let den : FitsSigned w128 c.den.result = search rules in
    sizes-of c.in-Ok.cancelled.num c.from.result c.den.result c.args.count c.args.fraction.den c.in-Ok.cancelled.den c.from.ensures c.den.ensures (simp to_z-of_z at c.in-Ok.ensures.same)

pub unreachable-requires : goal.unreachable-requires
unreachable-requires c =
    let number : FitsSigned w128 c.from.result = search rules in
    let den : FitsSigned w128 c.den.result = search rules in
    never-refused c.new.result c.in-Err.field-0 c.args.count c.args.fraction.den c.from.result c.den.result c.in-Err.is c.from.ensures c.den.ensures
    c.ranges.count.fits c.args.fraction.positive c.args.fraction.short_den (simp to_z-of_z at c.new.ensures.zero_divisor) (simp to_z-of_z at c.new.ensures.wide)

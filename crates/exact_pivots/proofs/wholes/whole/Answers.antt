use Rattle.std.proofs.Common.{rules, FitsSigned}
use Rattle.std.proofs.lemmas.Int.{to_z-of_z}
use Rattle.exact_pivots.proofs.Reduced.{whole_is, never_refused}
use Rattle.exact_pivots.proofs.wholes.whole.Goals as goal
use mir.Syntax.{w128}

pub returns : goal.returns
returns c =
    let fits : FitsSigned w128 c.args.number = search rules in
    whole_is c.in-Ok.fraction c.args.number (simp to_z-of_z at c.in-Ok.ensures.same)

pub unreachable-requires : goal.unreachable-requires
unreachable-requires c =
    let fits : FitsSigned w128 c.args.number = search rules in
    never_refused c.new.result c.in-Err.field-0 c.args.number c.in-Err.is c.requires c.new.ensures.zero_divisor (simp to_z-of_z at c.new.ensures.wide)

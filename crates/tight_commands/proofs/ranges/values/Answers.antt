use Rattle.std.proofs.Common.{All, FitsSigned, get_or, pos, rules, subst}
use Rattle.std.specs.Int.{w128}
use Rattle.std.proofs.lemmas.Int.{to_z-of_z}
use Rattle.std.proofs.lemmas.List.{take_all}
use Rattle.std.proofs.lemmas.List.Elements.{All-more}
use Rattle.tight_commands.proofs.ranges.values.Goals as goal

pub loop-each-preserved : goal.loop-each-preserved
loop-each-preserved c =
    let fits : FitsSigned w128 (get_or c.args.values.now c.loop-each.each-index (pos 0)) = search rules in
    All-more (FitsSigned w128) c.args.values.now c.loop-each.each-index (pos 0) c.loop-each-test.true c.loop-each.invariant fits

pub returns : goal.returns
returns c = subst (λ xs. All (FitsSigned w128) xs) (take_all c.loop-each.each-index c.args.values.now c.loop-each-test.false) c.loop-each.invariant

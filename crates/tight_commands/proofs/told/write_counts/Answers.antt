use Rattle.std.proofs.Common.{FitsSigned, pos, rules}
use Rattle.std.specs.Int.{w128}
use Rattle.std.proofs.lemmas.Int.{to_z-of_z}
use Rattle.tight_commands.proofs.told.write_counts.Goals as goal

pub returns-clause-wrote : goal.returns-clause-wrote
returns-clause-wrote g c =
    let tight : FitsSigned w128 (pos c.args.verdict.now.tight) = search rules in
    let raised : FitsSigned w128 (pos c.args.verdict.now.raised) = search rules in
    let empty : FitsSigned w128 (pos c.args.verdict.now.empty) = search rules in
    let loose : FitsSigned w128 (pos c.args.verdict.now.loose) = search rules in
    simp to_z-of_z at (rw (c.from.ensures, c.from-2.ensures, c.from-3.ensures, c.from-4.ensures) at c.write_line.ensures.wrote)

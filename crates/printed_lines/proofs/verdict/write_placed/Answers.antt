use Rattle.std.proofs.Common.{FitsSigned, rules, pos}
use Rattle.std.specs.Int.{w128}
use Rattle.std.proofs.lemmas.Int.{to_z-of_z}
use Rattle.printed_lines.proofs.verdict.write_placed.Goals as goal

pub returns-clause-wrote : goal.returns-clause-wrote
returns-clause-wrote g c =
    let fits : FitsSigned w128 (pos c.args.n) = search rules in
    simp to_z-of_z at (rw c.from.ensures at c.write_numbered.ensures.wrote)

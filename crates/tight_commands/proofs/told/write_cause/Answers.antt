use Rattle.std.proofs.Common.{FitsSigned, pos, rules}
use Rattle.std.specs.Int.{w128}
use Rattle.std.proofs.lemmas.Int.{to_z-of_z}
use Rattle.tight_commands.proofs.told.write_cause.Goals as goal

pub returns-clause-wrote : goal.returns-clause-wrote
returns-clause-wrote g c =
    let fits : FitsSigned w128 (pos c.args.number) = search rules in
    simp to_z-of_z at (rw c.from.ensures at c.write_line.ensures.wrote)

use Rattle.std.proofs.Common.{FitsSigned, rules}
use Rattle.std.specs.Int.{w128}
use Rattle.std.proofs.lemmas.Int.{to_z-of_z}
use Rattle.printed_lines.proofs.verdict.put_accepted.Goals as goal

pub returns-in-Bound-clause-wrote : goal.returns-in-Bound-clause-wrote
returns-in-Bound-clause-wrote g c =
    let fits : FitsSigned w128 c.in-Bound.bound = search rules in
    rw c.in-Bound.is (simp to_z-of_z at c.write_numbered.ensures.wrote)

pub returns-in-NoPlan-clause-wrote : goal.returns-in-NoPlan-clause-wrote
returns-in-NoPlan-clause-wrote g c = rw c.in-NoPlan.is c.write_whole.ensures.wrote

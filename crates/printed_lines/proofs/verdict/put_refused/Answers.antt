use Rattle.printed_lines.proofs.verdict.put_refused.Goals as goal

pub returns-in-Plan-clause-wrote : goal.returns-in-Plan-clause-wrote
returns-in-Plan-clause-wrote g c = rw c.in-Plan.is (rw c.number.ensures at (rw c.from.ensures at c.write_placed-in-Plan.ensures.wrote))

pub returns-in-Split-clause-wrote : goal.returns-in-Split-clause-wrote
returns-in-Split-clause-wrote g c = rw c.in-Split.is (rw c.from-in-Split.ensures at c.write_placed-in-Split.ensures.wrote)

pub returns-in-ProofPlace-clause-wrote : goal.returns-in-ProofPlace-clause-wrote
returns-in-ProofPlace-clause-wrote g c = rw c.in-ProofPlace.is (rw c.from-in-ProofPlace.ensures at c.write_placed-in-ProofPlace.ensures.wrote)

pub returns-in-WrongKind-clause-wrote : goal.returns-in-WrongKind-clause-wrote
returns-in-WrongKind-clause-wrote g c = rw c.in-WrongKind.is c.write_whole-in-WrongKind.ensures.wrote

pub returns-in-WrongGap-clause-wrote : goal.returns-in-WrongGap-clause-wrote
returns-in-WrongGap-clause-wrote g c = rw c.in-WrongGap.is c.write_whole-in-WrongGap.ensures.wrote

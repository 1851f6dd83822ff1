use Rattle.program_text.proofs.formulation.write_group.Goals as goal

pub returns-clause-wrote : goal.returns-clause-wrote
returns-clause-wrote g c = rw (c.exact_rows-rows.ensures.first, c.exact_rows-rows.ensures.count) at c.write_rows.ensures.wrote

use Rattle.search_run.proofs.deciding.due.Goals as goal

pub raised-requires-clause-chosen : goal.raised-requires-clause-chosen
raised-requires-clause-chosen c = rw c.in-Do.is at c.in_ok-next.ensures

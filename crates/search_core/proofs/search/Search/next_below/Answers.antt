use Rattle.search_core.proofs.search.Search.next_below.Goals as goal

pub returns-clause-next : goal.returns-clause-next
returns-clause-next g c = rw c.in_ok-answer.ensures.due (rw c.in_ok-answer.ensures.tried c.in_ok-due.ensures.next)

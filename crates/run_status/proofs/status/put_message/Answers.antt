use Rattle.run_status.proofs.status.put_message.Goals as goal

pub returns-in-UnknownVersion-clause-wrote : goal.returns-in-UnknownVersion-clause-wrote
returns-in-UnknownVersion-clause-wrote g c = rw c.in-UnknownVersion.is (rw c.from.ensures at c.write_between-in-UnknownVersion.ensures.wrote)

pub returns-in-NotAJournal-clause-wrote : goal.returns-in-NotAJournal-clause-wrote
returns-in-NotAJournal-clause-wrote g c = rw c.in-NotAJournal.is c.write_whole-in-NotAJournal.ensures.wrote

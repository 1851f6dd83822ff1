use Rattle.journal_format.proofs.OwnFiles.{one_history_of, one_standing}
use Rattle.journal_format.proofs.laws.one_list_law.Goals as goal

pub returns-clause-history : goal.returns-clause-history
returns-clause-history c = one_history_of

pub returns-clause-list : goal.returns-clause-list
returns-clause-list c = one_standing

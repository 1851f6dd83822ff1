use Rattle.journal_format.proofs.OwnFiles.{own_stands, kept_of, kept-own}
use Rattle.journal_format.proofs.laws.own_law.Goals as goal

pub returns-clause-stands : goal.returns-clause-stands
returns-clause-stands c = own_stands

pub returns-clause-kept_at : goal.returns-clause-kept_at
returns-clause-kept_at c = kept_of

pub returns-clause-kept : goal.returns-clause-kept
returns-clause-kept c = λ text file list kept. kept-own text list file kept

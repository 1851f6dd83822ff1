use Rattle.std.proofs.Common.{◌+◌, arith}
use Rattle.exact_pivots.proofs.Entries.{below-more}
use Rattle.exact_pivots.proofs.factors.Factors.push_changed.Goals as goal

pub returns-then-column-entering-clause-under : goal.returns-then-column-entering-clause-under
returns-then-column-entering-clause-under c = below-more c.args.self.now.entries.items c.args.column (c.args.column + 1) (omega arith) c.requires

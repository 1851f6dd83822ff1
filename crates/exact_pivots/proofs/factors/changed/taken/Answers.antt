use Rattle.std.proofs.Common.{◌∙◌, sym}
use Rattle.exact_pivots.proofs.Entries.{factor-passed}
use Rattle.exact_pivots.proofs.factors.changed.taken.Goals as goal

pub returns-else-entry-column-clause-factor : goal.returns-else-entry-column-clause-factor
returns-else-entry-column-clause-factor c =
    c.whole.ensures ∙ sym (factor-passed c.args.list.now c.in-Some.rest.now c.in-Some.entry.now c.args.column c.in-Some.ensures.cases.0 c.requires c.if-entry-column.false)

use Rattle.std.proofs.Common.{subst, sym}
use Rattle.box_tree.specs.Views.{shown_entry}
use Rattle.box_tree.specs.declared.entry.Entry.{Entry}
use Rattle.job_texts.specs.Texts.{HasLines}
use Rattle.job_commands.proofs.ranges.entry.Goals as goal

pub returns-in-SplitOf : goal.returns-in-SplitOf
returns-in-SplitOf c = subst (λ (e : Entry). HasLines (shown_entry e)) (sym c.in-SplitOf.is) (c.split.ensures, c.half.ensures, c.half-in-SplitOf.ensures)

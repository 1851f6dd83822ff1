-- Entries without where they lie in memory.
use Rattle.std.specs.Prelude.{option_map}
use Rattle.row_model.specs.Entries as entries
use Rattle.box_space.specs.Views.{shown_split, shown_proof}
use Rattle.plan_core.specs.Views.{shown_plan}
use Rattle.box_tree.specs.declared.entry.Entry.{Entry}
use Rattle.box_tree.specs.declared.entry.Entry.TheVariants.{Root, SplitOf, Improve}

abbrev pub shown_entry : Entry → entries.Entry
shown_entry (Root proof) = entries.root_proof (shown_proof proof)
shown_entry (SplitOf split left right) = entries.split_of (shown_split split) (option_map shown_proof left) (option_map shown_proof right)
shown_entry (Improve plan) = entries.improve (shown_plan plan)

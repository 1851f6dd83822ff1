-- Answers without where they lie in memory.
use Rattle.box_tree.specs.Views.{shown_entry}
use Rattle.work_units.specs.Units as units
use Rattle.work_units.specs.declared.answer.Answer.{Answer}

abbrev pub shown_answer : Answer → units.Answer
shown_answer a = record { number = a.number; entry = shown_entry a.entry }

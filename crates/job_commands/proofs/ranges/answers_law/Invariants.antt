use Rattle.std.proofs.Common.{All, take}
use Rattle.work_units.specs.Views.{shown_answer}
use Rattle.job_texts.specs.Texts.{IsWritten}
use Rattle.job_commands.proofs.ranges.answers_law.Given as goal

abbrev pub invariant-loop-each : goal.invariant-loop-each
invariant-loop-each l = All (λ x. IsWritten (shown_answer x)) (take l.each-index l.answers)

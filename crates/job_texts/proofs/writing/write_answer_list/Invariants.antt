use Rattle.std.proofs.Common.{◌≡◌, take}
use Rattle.std.specs.List.{flat_map}
use Rattle.edge_io.specs.Counts.{Grows}
use Rattle.edge_io.specs.Writing.{behind}
use Rattle.work_units.specs.Views.{shown_answer}
use Rattle.job_texts.specs.Texts.{answer_lines}
use Rattle.job_texts.proofs.writing.write_answer_list.Given as goal

abbrev pub invariant-loop-answer : goal.invariant-loop-answer
invariant-loop-answer g l =
    (g.K.Sink.taken l.out ≡ behind (g.K.Sink.taken l.fn.out) (flat_map (λ a. answer_lines (shown_answer a)) (take l.answer-index l.answers)))
    × Grows (g.K.Sink.faults l.fn.out) (g.K.Sink.faults l.out)

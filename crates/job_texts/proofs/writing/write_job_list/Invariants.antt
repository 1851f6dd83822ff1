use Rattle.std.proofs.Common.{◌≡◌, take}
use Rattle.std.specs.List.{flat_map}
use Rattle.edge_io.specs.Counts.{Grows}
use Rattle.edge_io.specs.Writing.{behind}
use Rattle.job_texts.specs.Texts.{job_line}
use Rattle.job_texts.proofs.writing.write_job_list.Given as goal

abbrev pub invariant-loop-job : goal.invariant-loop-job
invariant-loop-job g l =
    (g.K.Sink.taken l.out ≡ behind (g.K.Sink.taken l.fn.out) (flat_map job_line (take l.job-index l.jobs)))
    × Grows (g.K.Sink.faults l.fn.out) (g.K.Sink.faults l.out)

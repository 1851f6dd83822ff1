use Rattle.std.proofs.Common.{map}
use Rattle.pool_model.specs.Network.{net_of}
use Rattle.box_tree.specs.Kept.{searched_of}
use Rattle.work_units.specs.Views.{shown_answer}
use Rattle.job_work.proofs.Answering.{AreSoFar}
use Rattle.job_work.proofs.answers.answers_by.Given as goal

abbrev pub invariant-loop-job : goal.invariant-loop-job
invariant-loop-job g l = AreSoFar (net_of l.net) l.form (searched_of l.tree.kept) l.jobs l.job-index (map shown_answer l.answers.items)

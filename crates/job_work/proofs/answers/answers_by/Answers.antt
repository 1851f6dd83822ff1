use Rattle.std.proofs.Common.{◌≡◌, ℕ, ◌<◌, length, map, ap, subst, ◌∙◌, rules}
use Rattle.std.specs.Prelude.{IfSome, IfNone}
use Rattle.std.proofs.lemmas.List.{get_or_default}
use Rattle.pool_model.specs.Network.{net_of}
use Rattle.row_model.specs.Trees.{box_of}
use Rattle.box_tree.specs.Kept.{searched_of}
use Rattle.box_tree.specs.Views.{shown_entry}
use Rattle.work_units.specs.Units.{no_job}
use Rattle.work_units.specs.Views.{shown_answer}
use Rattle.work_units.specs.declared.job.Job.{Job}
use Rattle.job_work.specs.Worked.{CanBeCut, IsWorked}
use Rattle.job_work.proofs.Answering.{AreSoFar, so_far-next, so_far-pass, so_far-done}
use Rattle.job_work.proofs.answers.answers_by.Goals as goal
use Rattle.job_work.proofs.answers.answers_by.Goals.{in-Some+in_ok-push, in_default}

pub loop-job-preserved : goal.loop-job-preserved
loop-job-preserved g c =
    let n = net_of c.args.net.now in
    let s = searched_of c.args.tree.now.kept in
    let jobs = c.args.jobs.now in
    let k = c.loop-job.job-index in
    let known : k < length jobs = search rules in
    let job_is = get_or_default jobs k _ no_job known in
    elim c.match-branch-2.branch [
      | in-Some+in_ok-push w ↦
          let worked = subst (λ (j : Job). IfSome c.in_ok-entry.field-0 (λ e. IsWorked n c.args.form s j.node (shown_entry e))) job_is c.in_ok-entry.ensures.some in
          rw w.answers-is (rw w.in_ok-push.ensures.items (so_far-next n c.args.form s jobs k c.loop-job.answers.items _ c.loop-job.invariant known
          (ap (λ (j : Job). j.number) job_is ∙ c.requires.jobs.numbered k known) (rw w.in-Some.is at worked)))
      | in_default w ↦
          let uncut = subst (λ (j : Job). IfNone c.in_ok-entry.field-0 (¬ CanBeCut n c.args.form (box_of n s.tree.splits j.node))) job_is c.in_ok-entry.ensures.none in
          rw w.answers-is (so_far-pass n c.args.form s jobs k (map shown_answer c.loop-job.answers.items) c.loop-job.invariant (rw w.in_default.is at uncut))
    ]

pub returns-clause-answered : goal.returns-clause-answered
returns-clause-answered g c =
    let n = net_of c.args.net.now in
    let jobs = c.args.jobs.now in
    let all : c.loop-job.job-index ≡ length jobs = search rules in
    so_far-done n c.args.form (searched_of c.args.tree.now.kept) jobs (map shown_answer c.loop-job.answers.items)
    (subst (λ (k : ℕ). AreSoFar n c.args.form (searched_of c.args.tree.now.kept) jobs k (map shown_answer c.loop-job.answers.items)) all c.loop-job.invariant)

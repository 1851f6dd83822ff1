use Rattle.std.proofs.Common.{◌<◌, ◌^◌, List, length, sym, subst}
use Rattle.work_units.specs.declared.job.Job.{Job}
use Rattle.std.proofs.lemmas.Result.{err_from_is_err_and}
use Rattle.pool_model.specs.Network.{net_of}
use Rattle.box_tree.specs.Kept.{searched_of}
use Rattle.job_texts.specs.Views.{shown_jobs}
use Rattle.job_commands.proofs.JobFiles.{refused-misfit, refused-text, splits-of}
use Rattle.job_commands.proofs.handed.handed_out.Goals as goal

pub returns-clause-handed : goal.returns-clause-handed
returns-clause-handed c =
    let j = shown_jobs c.in_ok-text.text in
    let h = c.in_ok-handed.handed in (
      j,
      record { are = c.in_ok-text.ensures.found.0; text = c.in_ok-text.ensures.found.1 },
      c.in_ok-handed.ensures.fits,
      record {
        tree = c.in_ok-handed.ensures.tree;
        splits = splits-of (searched_of h.tree.kept) j.splits c.in_ok-handed.ensures.made;
        made = c.in_ok-handed.ensures.made;
        jobs = c.in_ok-handed.ensures.jobs;
        are = c.in_ok-handed.ensures.are;
        leaves = c.in_ok-handed.ensures.leaves;
        counted = subst (λ (js : List Job). length js < 2 ^ 32) (sym c.in_ok-handed.ensures.jobs) c.in_ok-text.ensures.found.0.few_jobs;
      },
    )

pub returns-in_err-text-clause-refused : goal.returns-in_err-text-clause-refused
returns-in_err-text-clause-refused c =
    let p = err_from_is_err_and c.from_residual.result c.from_residual.ensures.1 in
    rw (p.1, p.2) (refused-text (net_of c.args.net.now) c.args.bytes.now c.in_err-text.field-0.0 c.in_err-text.ensures.fault)

pub returns-in_err-handed-clause-refused : goal.returns-in_err-handed-clause-refused
returns-in_err-handed-clause-refused c =
    let p = err_from_is_err_and c.from_residual-in_err-handed.result c.from_residual-in_err-handed.ensures.1 in
    let j = shown_jobs c.in_ok-text.text in
    rw (p.1, p.2)
    (refused-misfit (net_of c.args.net.now) c.args.bytes.now j c.in_err-handed.field-0.0 record { are = c.in_ok-text.ensures.found.0; text = c.in_ok-text.ensures.found.1 } c.in_err-handed.ensures.misfit)

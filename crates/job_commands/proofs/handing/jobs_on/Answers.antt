use Rattle.std.proofs.Common.{◌≤◌, List, length, map, ap, ◌∙◌, arith}
use Rattle.pool_model.specs.Network.{net_of}
use Rattle.box_space.specs.Views.{shown_split}
use Rattle.box_tree.specs.Kept.{searched_of}
use Rattle.box_space.specs.declared.coordinates.Split.{Split}
use Rattle.job_texts.specs.declared.jobs.JobsText.{JobsText}
use Rattle.job_commands.proofs.Keeping.{few-jobs, few-splits, tree-jobs}
use Rattle.job_commands.proofs.handing.jobs_on.Goals as goal

pub jobs_of-requires : goal.jobs_of-requires
jobs_of-requires c = (net_of c.args.network.now, c.requires)

pub jobs_law-requires-clause-splits : goal.jobs_law-requires-clause-splits
jobs_law-requires-clause-splits c =
    few-splits (net_of c.args.network.now) c.args.tree.now c.in_ok-splits.splits.items c.requires
    (ap (λ (xs : List Split). map shown_split xs) c.in_ok-splits.ensures.items ∙ c.splits.ensures)

pub jobs_law-requires-clause-jobs : goal.jobs_law-requires-clause-jobs
jobs_law-requires-clause-jobs c =
    let n = net_of c.args.network.now in
    let few : length c.in_ok-jobs.jobs.items ≤ c.args.count = few-jobs n (searched_of c.args.tree.now.kept).tree c.args.count c.in_ok-jobs.jobs.items (c.in_ok-jobs.ensures.first n c.requires) in
    omega (arith, few, c.ranges.count)

pub returns-clause-made : goal.returns-clause-made
returns-clause-made c = λ list made.
    let n = net_of c.args.network.now in
    let text : JobsText = record { shape = c.counts.result; splits = c.in_ok-splits.splits; jobs = c.in_ok-jobs.jobs } in
    tree-jobs n c.args.count c.args.tree.now text c.requires c.counts.ensures.counts
    (ap (λ (xs : List Split). map shown_split xs) c.in_ok-splits.ensures.items ∙ c.splits.ensures)
    c.in_ok-jobs.ensures.jobs (c.in_ok-jobs.ensures.first n c.requires) list made

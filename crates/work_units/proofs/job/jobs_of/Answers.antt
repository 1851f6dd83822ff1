use Rattle.std.proofs.Common.{◌≡◌, length, rules, arith}
use Rattle.box_tree.specs.Kept.{searched_of}
use Rattle.work_units.proofs.Handing.{are-jobs}
use Rattle.work_units.proofs.job.jobs_of.Goals as goal

pub returns-clause-jobs : goal.returns-clause-jobs
returns-clause-jobs c =
    let n = c.requires.0 in
    let leaves = c.in_ok-leaves.leaves.items in
    let many : length c.loop-i.jobs.items ≡ length leaves = search rules in
    are-jobs n (searched_of c.args.tree.now.kept).tree c.args.most c.loop-i.jobs.items record {
      leaves = leaves;
      first = c.in_ok-leaves.ensures n c.requires.1;
      each = record { many = many; each = λ k h. c.loop-i.invariant.each k (omega (arith, h, many, c.loop-i.invariant.many)) };
    }

use Rattle.std.proofs.Common.{ℕ, ◌<◌, ◌≤◌, List, All, length, map, sym, ap, subst, arith}
use Rattle.pool_model.specs.Network.{net_of}
use Rattle.row_model.specs.Catalogue.{rows}
use Rattle.row_model.specs.Trees.{IsLeaf}
use Rattle.box_tree.specs.Kept.{searched_of}
use Rattle.box_tree.specs.Views.{shown_entry}
use Rattle.work_units.specs.Units.{AreJobs, node_of}
use Rattle.work_units.specs.Views.{shown_answer}
use Rattle.work_units.specs.declared.answer.Answer as held
use Rattle.work_units.specs.declared.job.Job.{Job}
use Rattle.job_texts.specs.Texts.{AreWritten}
use Rattle.job_commands.specs.Ranges.{SplitsWithFew}
use Rattle.job_commands.proofs.WorkDone.{few-answers, few-parts, work-on}
use Rattle.job_commands.proofs.working.answered.Goals as goal

pub answers_to-requires-clause-tree : goal.answers_to-requires-clause-tree
answers_to-requires-clause-tree c = c.requires.1.tree

pub answers_to-requires-clause-jobs : goal.answers_to-requires-clause-jobs
answers_to-requires-clause-jobs c = subst (λ (js : List Job). AreJobs c.args.handed.now.tree.kept.splits.list js) (sym c.as_slice.ensures.value) c.requires.1.are

pub answers_to-requires-clause-leaves : goal.answers_to-requires-clause-leaves
answers_to-requires-clause-leaves c =
    subst (λ (js : List Job). (k : ℕ) → k < length js → IsLeaf c.args.handed.now.tree.kept.splits.list (node_of js k)) (sym c.as_slice.ensures.value) c.requires.1.leaves

pub answers_law-requires-clause-few : goal.answers_law-requires-clause-few
answers_law-requires-clause-few c =
    let h = c.args.handed.now in
    let most : length c.in_ok-answers.answers.items ≤ length c.as_slice.result.now =
    few-answers (net_of c.args.network.now) c.args.form (searched_of h.tree.kept) h.tree.kept.splits.list c.as_slice.result.now c.in_ok-answers.answers.items
    c.in_ok-answers.ensures.answered c.in_ok-answers.ensures.worked in
    omega (arith, most, ap (λ (js : List Job). length js) c.as_slice.ensures.value, c.requires.1.counted, ap (λ (xs : List held.Answer). length xs) c.as_slice-2.ensures.value)

pub answers_law-requires-clause-splits : goal.answers_law-requires-clause-splits
answers_law-requires-clause-splits c =
    let h = c.args.handed.now in
    let n = net_of c.args.network.now in
    let few : rows n ≤ 13424 = omega (arith, c.rows-rows.ensures.count, c.rows-rows.ensures.few) in
    subst (λ (xs : List held.Answer). All (λ a. SplitsWithFew (shown_entry a.entry)) xs) (sym c.as_slice-2.ensures.value)
    (few-parts n c.args.form (searched_of h.tree.kept) c.as_slice.result.now c.in_ok-answers.answers.items few c.in_ok-answers.ensures.worked)

pub returns : goal.returns
returns c = λ j is.
    work-on (net_of c.args.network.now) c.args.form j c.args.handed.now c.as_slice.result.now (map shown_answer c.in_ok-answers.answers.items) is c.as_slice.ensures.value
    c.in_ok-answers.ensures.answered c.in_ok-answers.ensures.worked c.in_ok-answers.ensures.fits
    (subst (λ (xs : List held.Answer). AreWritten (map shown_answer xs)) c.as_slice-2.ensures.value c.answers_law.ensures)

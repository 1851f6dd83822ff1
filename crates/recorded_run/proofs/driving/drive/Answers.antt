-- Step after step: what the tree is, what the disk holds, and what a crash leaves.
use Rattle.std.proofs.Common.{[], ◌∷◌, ◌++◌, Err, ap, subst, sym, ◌∙◌}
use Rattle.std.proofs.lemmas.Result.{err_from_is_err_and}
use Rattle.disk_calls.proofs.Moments.{same_disk-same, same_disk-then}
use Rattle.pool_model.specs.Network.{net_of}
use Rattle.row_model.specs.Entries.{Searched, start, IsEntryInOrder}
use Rattle.box_tree.specs.Views.{shown_entry}
use Rattle.search_core.specs.Searches.{searched}
use Rattle.search_run.proofs.Stepping.{way-start, way-more}
use Rattle.recorded_run.proofs.Acknowledging.{so_far-start, keeps-more}
use Rattle.recorded_run.proofs.Splitting.{few-more}
use Rattle.recorded_run.proofs.Recording.{so_far-moments, in_order-more, begins-more, recorded-more, kept-stands, recorded-stands}
use Rattle.recorded_run.proofs.driving.drive.Goals as goal

pub steps-init : goal.steps-init
steps-init g c = record {
  ordered = c.requires.ordered;
  way = way-start (net_of c.args.net.now) c.args.orders (searched c.args.search.now);
  takes = c.requires.takes;
  so_far = λ text first is.
      so_far-start (net_of c.args.net.now) text c.args.orders first (g.R.Recorder.told c.args.disk.now) (g.R.Recorder.next c.args.recorder.now) (searched c.args.search.now) is;
  same_disk = same_disk-same (g.R.Recorder.told c.args.disk.now);
}

pub steps-preserved : goal.steps-preserved
steps-preserved g c =
    let n = net_of c.args.net.now in
    let s = c.steps.search in
    let e = shown_entry c.in-Do.entry in
    let due = rw c.in-Do.is at c.in_ok-next.ensures in
    let in_order = due.0.in_order in
    let done = c.in_ok-take-in-Do.ensures in
    let then = c.take.new.search in
    record {
      ordered = done.ordered;
      way = way-more n c.args.orders (searched c.args.search.now) (searched s) (searched then) c.steps.invariant.way
          record { entry = e; step = due.0; made = done.taken };
      takes = done.takes;
      so_far = λ text first is.
          let so = c.steps.invariant.so_far text first is in
          let put = done.recorded text so.held.file so.last so.held.on_disk so.held.kept in
          let order = subst (λ (x : Searched). IsEntryInOrder n x e) so.held.made in_order in
          record {
            last = so.last ++ e ∷ [];
            begins = begins-more so.last first e so.begins;
            any_moment = so_far-moments n text first so.last e (g.R.Recorder.told c.args.disk.now) (g.R.Recorder.told c.steps.disk) (g.R.Recorder.told c.take.new.disk) so.begins so.held.in_order (in_order-more n start so.last e so.held.in_order order) so.any_moment
                (c.take.ensures.any_moment text so.held.file so.last so.held.on_disk so.held.kept);
            acknowledged = keeps-more n text first so.last e (g.R.Recorder.next c.steps.recorder) (searched c.steps.search) (g.R.Recorder.told c.args.disk.now) (g.R.Recorder.told c.steps.disk) (g.R.Recorder.told c.take.new.disk) so.held
                (in_order-more n start so.last e so.held.in_order order) so.acknowledged (c.take.ensures.any_moment text so.held.file so.last so.held.on_disk so.held.kept);
            few = few-more n c.args.orders first so.last (searched s) e due.0 so.held.made so.few;
            held = recorded-more n text so.last e (g.R.Recorder.next c.take.new.recorder) (searched s) (searched then) put.0 (g.R.Recorder.told c.take.new.disk)
                so.held.in_order so.held.made in_order done.taken put.1 put.2;
          };
      same_disk = same_disk-then (g.R.Recorder.told c.args.disk.now) (g.R.Recorder.told c.steps.disk) (g.R.Recorder.told c.take.new.disk) c.steps.invariant.same_disk c.take.ensures.same_disk;
    }

pub steps-smaller : goal.steps-smaller
steps-smaller g c =
    let n = net_of c.args.net.now in
    let s = c.steps.search in
    let e = shown_entry c.in-Do.entry in
    let due = rw c.in-Do.is at c.in_ok-next.ensures in
    let in_order = due.0.in_order in
    let done = c.in_ok-take-in-Do.ensures in
    let then = c.take.new.search in
    due.1 then done.ordered.search (done.ordered.options ∙ sym c.steps.invariant.ordered.options) done.taken done.repaired

-- ---- ends

pub returns-in_err-next-clause-recorded : goal.returns-in_err-next-clause-recorded
returns-in_err-next-clause-recorded g c =
    let p = err_from_is_err_and c.from_residual.result c.from_residual.ensures.1 in
    rw (p.1)
    (λ text first is.
    let so = c.steps.invariant.so_far text first is in
    record {
      last = so.last;
      begins = so.begins;
      any_moment = so.any_moment;
      acknowledged = so.acknowledged;
      few = so.few;
      held = λ memory. recorded-stands (net_of c.args.net.now) text so.last (g.R.Recorder.next c.steps.recorder) (searched c.steps.search) (g.R.Recorder.told c.steps.disk) so.held;
    })

pub returns-in_err-take-in-Do-clause-recorded : goal.returns-in_err-take-in-Do-clause-recorded
returns-in_err-take-in-Do-clause-recorded g c =
    let n = net_of c.args.net.now in
    let s = c.steps.search in
    let e = shown_entry c.in-Do.entry in
    let due = rw c.in-Do.is at c.in_ok-next.ensures in
    let in_order = due.0.in_order in
    let p = err_from_is_err_and c.from_residual-in_err-take-in-Do.result c.from_residual-in_err-take-in-Do.ensures.1 in
    rw (p.1, p.2)
    (λ text first is.
    let so = c.steps.invariant.so_far text first is in
    let order = subst (λ (x : Searched). IsEntryInOrder n x e) so.held.made in_order in
    record {
      last = so.last ++ e ∷ [];
      begins = begins-more so.last first e so.begins;
      any_moment = so_far-moments n text first so.last e (g.R.Recorder.told c.args.disk.now) (g.R.Recorder.told c.steps.disk) (g.R.Recorder.told c.take.new.disk) so.begins so.held.in_order (in_order-more n start so.last e so.held.in_order order) so.any_moment
          (c.take.ensures.any_moment text so.held.file so.last so.held.on_disk so.held.kept);
      acknowledged = keeps-more n text first so.last e (g.R.Recorder.next c.steps.recorder) (searched c.steps.search) (g.R.Recorder.told c.args.disk.now) (g.R.Recorder.told c.steps.disk) (g.R.Recorder.told c.take.new.disk) so.held
          (in_order-more n start so.last e so.held.in_order order) so.acknowledged (c.take.ensures.any_moment text so.held.file so.last so.held.on_disk so.held.kept);
      few = few-more n c.args.orders first so.last (searched s) e due.0 so.held.made so.few;
      held = λ memory.
          let put = c.in_err-take-in-Do.ensures.kept (ap Err memory) text so.held.file so.last so.held.on_disk so.held.kept in
          kept-stands n text (so.last ++ e ∷ []) (g.R.Recorder.next c.take.new.recorder) put.0 (g.R.Recorder.told c.take.new.disk)
          (in_order-more n start so.last e so.held.in_order order) put.1 put.2;
    })

pub returns-in_err-take-in-Do-clause-same_disk : goal.returns-in_err-take-in-Do-clause-same_disk
returns-in_err-take-in-Do-clause-same_disk g c =
    same_disk-then (g.R.Recorder.told c.args.disk.now) (g.R.Recorder.told c.steps.disk) (g.R.Recorder.told c.take.new.disk) c.steps.invariant.same_disk c.take.ensures.same_disk

pub returns-in-End-clause-run : goal.returns-in-End-clause-run
returns-in-End-clause-run g c =
    record {
      entries = c.steps.invariant.way.entries;
      steps = c.steps.invariant.way.steps;
      made = c.steps.invariant.way.made;
      end = rw c.in-End.is at c.in_ok-next.ensures;
    }

pub returns-in-End-clause-recorded : goal.returns-in-End-clause-recorded
returns-in-End-clause-recorded g c = λ text first is.
    let so = c.steps.invariant.so_far text first is in
    record { last = so.last; begins = so.begins; any_moment = so.any_moment; acknowledged = so.acknowledged; few = so.few; held = so.held }

-- From the file that is attached to the end of the run.
use Rattle.std.proofs.Common.{◌≡◌, List, Err, inl, inr, refl, ap, subst, sym, ◌∙◌}
use Rattle.std.specs.Prelude.{IsTrue}
use Rattle.std.proofs.lemmas.Result.{err_from_is_err_and}
use Rattle.disk_calls.proofs.Calling.{reaches-file}
use Rattle.disk_calls.proofs.Moments.{same_disk-then}
use Rattle.pool_model.specs.Network.{net_of}
use Rattle.row_model.specs.Entries.{Searched, made_by, IsSearched}
use Rattle.box_tree.specs.Kept.{Held, searched_of}
use Rattle.search_core.specs.Searches.{searched}
use Rattle.search_run.specs.Runs.{IsRun}
use Rattle.search_run.proofs.Ending.{found-by}
use Rattle.recorded_run.specs.Recorded.{IsRecorded, Ends}
use Rattle.recorded_run.proofs.Recording.{begins-same, recovered-held, grown-moments, recorded-ends, recorded-stands}
use Rattle.recorded_run.proofs.Splitting.{few-front, few-same}
use Rattle.recorded_run.proofs.Acknowledging.{opening-keeps, run-keeps}
use Rattle.recorded_run.proofs.Causes.{no_cause, free-alone}
use Rattle.recorded_run.proofs.running.run_recorded.Goals as goal

-- what is driven
pub drive-requires-clause-ordered : goal.drive-requires-clause-ordered
drive-requires-clause-ordered g c = record {
  search = c.in_ok-search.ensures.search;
  options = c.in_ok-search.ensures.options ∙ c.options.ensures;
}

pub drive-requires-clause-takes : goal.drive-requires-clause-takes
drive-requires-clause-takes g c = record {
  largest = c.in_ok-recovered.ensures.largest;
  usable = c.in_ok-recovered.ensures.usable;
  left = λ tells.
      let was = reaches-file (g.D.Disk.told c.args.disk.now).reads 0 (c.requires.attached (subst IsTrue c.recover.ensures.same_disk.device.same_telling tells)) in
      let held = c.in_ok-recovered.ensures.found.held was.0 was.1 in
      (c.args.text.now, c.in_ok-recovered.ensures.found.first, held.file, held.on_disk, held.kept);
}

pub returns-clause-run : goal.returns-clause-run
returns-clause-run g c =
    let n = net_of c.args.net.now in
    let o = c.args.orders in
    let back = c.in_ok-recovered.ensures.found in
    let ended = c.in_ok-ended.ended in
    let found = searched_of c.into_tree-tree.result.kept in
    let begun : searched c.in_ok-search.search ≡ made_by back.first = ap (λ (h : Held). searched_of h.kept) c.in_ok-search.ensures.tree ∙ back.made in
    let run = subst (λ (s : Searched). IsRun n o s found ended) begun
    (subst (λ (h : Held). IsRun n o (searched c.in_ok-search.search) (searched_of h.kept) ended) (sym c.into_tree-tree.ensures) c.in_ok-ended.ensures.run) in
    record {
      first = back.first;
      in_order = back.in_order;
      stands = back.stands;
      run = run;
      search = found-by n o (made_by back.first) found ended c.in_ok-search.search.start
          (subst (IsSearched n) back.made c.in_ok-recovered.ensures.tree.kept.searched) c.in_ok-search.ensures.search.start run;
    }

pub returns-clause-any_moment : goal.returns-clause-any_moment
returns-clause-any_moment g c = λ file first is own.
    let n = net_of c.args.net.now in
    let text = c.args.text.now in
    let place = c.in_ok-recovered.recovered.journal.next in
    let made = ap (λ (h : Held). searched_of h.kept) c.in_ok-search.ensures.tree in
    let held = subst (λ (s : Searched). IsRecorded n text first place s (g.D.Disk.told c.recover.new.disk)) (sym made)
    (recovered-held n text first place (searched_of c.in_ok-recovered.recovered.tree.kept) file (g.D.Disk.told c.args.disk.now) (g.D.Disk.told c.recover.new.disk) c.in_ok-recovered.ensures.found is own.stands) in
    let run = c.in_ok-ended.ensures.recorded text first held in
    let ends = recorded-ends n text run.last c.drive.new.recorder.next (searched c.drive.new.search)
    (g.D.Disk.told c.drive.new.disk) run.held in
    let opening = c.recover.ensures.any_moment file first is own in
    record {
      last = run.last;
      begins = run.begins;
      any_moment = grown-moments n text first run.last (g.D.Disk.told c.args.disk.now) (g.D.Disk.told c.recover.new.disk) (g.D.Disk.told c.drive.new.disk)
          run.begins opening run.any_moment;
      acknowledged = run-keeps n text first run.last place (searched c.in_ok-search.search) (g.D.Disk.told c.args.disk.now) (g.D.Disk.told c.recover.new.disk)
          (g.D.Disk.told c.drive.new.disk) run.begins held opening run.any_moment run.acknowledged;
      known = (
        λ l begins. few-front c.args.orders first run.last l run.few begins,
        subst (λ (h : Held). Ends n text run.last (searched_of h.kept) (g.D.Disk.told c.drive.new.disk)) (sym c.into_tree-tree.ensures) ends,
      );
    }

pub returns-in_err-ended-clause-any_moment : goal.returns-in_err-ended-clause-any_moment
returns-in_err-ended-clause-any_moment g c =
    let p = err_from_is_err_and c.from_residual-in_err-ended.result c.from_residual-in_err-ended.ensures.1 in
    rw (p.1, p.2)
    (λ file first is own.
    let n = net_of c.args.net.now in
    let text = c.args.text.now in
    let place = c.in_ok-recovered.recovered.journal.next in
    let made = ap (λ (h : Held). searched_of h.kept) c.in_ok-search.ensures.tree in
    let held = subst (λ (s : Searched). IsRecorded n text first place s (g.D.Disk.told c.recover.new.disk)) (sym made)
    (recovered-held n text first place (searched_of c.in_ok-recovered.recovered.tree.kept) file (g.D.Disk.told c.args.disk.now) (g.D.Disk.told c.recover.new.disk) c.in_ok-recovered.ensures.found is own.stands) in
    let run = c.in_err-ended.ensures.recorded text first held in
    let opening = c.recover.ensures.any_moment file first is own in
    record {
      last = run.last;
      begins = run.begins;
      any_moment = grown-moments n text first run.last (g.D.Disk.told c.args.disk.now) (g.D.Disk.told c.recover.new.disk) (g.D.Disk.told c.drive.new.disk)
          run.begins opening run.any_moment;
      acknowledged = run-keeps n text first run.last place (searched c.in_ok-search.search) (g.D.Disk.told c.args.disk.now) (g.D.Disk.told c.recover.new.disk)
          (g.D.Disk.told c.drive.new.disk) run.begins held opening run.any_moment run.acknowledged;
      known = (λ l begins. few-front c.args.orders first run.last l run.few begins, run.held);
    })

pub returns-in_err-recovered-clause-any_moment : goal.returns-in_err-recovered-clause-any_moment
returns-in_err-recovered-clause-any_moment g c =
    let p = err_from_is_err_and c.from_residual.result c.from_residual.ensures.1 in
    rw (p.1, p.2)
    (λ file first is own.
    let opening = c.recover.ensures.any_moment file first is own in
    record {
      last = first;
      begins = begins-same first;
      any_moment = opening;
      acknowledged = opening-keeps (net_of c.args.net.now) c.args.text.now first (g.D.Disk.told c.args.disk.now) (g.D.Disk.told c.recover.new.disk) opening;
      known = (λ l begins. few-front c.args.orders first first l (few-same c.args.orders first) begins, λ memory. c.in_err-recovered.ensures.kept (ap Err memory) file first is own);
    })

pub returns-in_err-search-clause-any_moment : goal.returns-in_err-search-clause-any_moment
returns-in_err-search-clause-any_moment g c =
    let p = err_from_is_err_and c.from_residual-in_err-search.result c.from_residual-in_err-search.ensures.1 in
    rw (p.1)
    (λ file first is own.
    let n = net_of c.args.net.now in
    let text = c.args.text.now in
    let place = c.in_ok-recovered.recovered.journal.next in
    let s = searched_of c.in_ok-recovered.recovered.tree.kept in
    let held = recovered-held n text first place s file (g.D.Disk.told c.args.disk.now) (g.D.Disk.told c.recover.new.disk) c.in_ok-recovered.ensures.found is own.stands in
    let opening = c.recover.ensures.any_moment file first is own in
    record {
      last = first;
      begins = begins-same first;
      any_moment = opening;
      acknowledged = opening-keeps n text first (g.D.Disk.told c.args.disk.now) (g.D.Disk.told c.recover.new.disk) opening;
      known = (λ l begins. few-front c.args.orders first first l (few-same c.args.orders first) begins, λ memory. recorded-stands n text first place s (g.D.Disk.told c.recover.new.disk) held);
    })

-- ---- causes

pub returns-in_err-recovered-clause-refused : goal.returns-in_err-recovered-clause-refused
returns-in_err-recovered-clause-refused g c =
    let p = err_from_is_err_and c.from_residual.result c.from_residual.ensures.1 in
    rw (p.1, p.2) c.in_err-recovered.ensures.refused

pub returns-in_err-ended-clause-refused : goal.returns-in_err-ended-clause-refused
returns-in_err-ended-clause-refused g c =
    let p = err_from_is_err_and c.from_residual-in_err-ended.result c.from_residual-in_err-ended.ensures.1 in
    rw (p.1, p.2) (λ file is. inl c.in_err-ended.ensures.free)

pub returns-clause-decided : goal.returns-clause-decided
returns-clause-decided g c = λ file cause is has.
    let found = c.in_ok-recovered.ensures.found in absurd (no_cause (net_of c.args.net.now) c.args.text.now file found.first cause (found.stands file is) found.in_order has)

pub returns-in_err-recovered-clause-decided : goal.returns-in_err-recovered-clause-decided
returns-in_err-recovered-clause-decided g c =
    let p = err_from_is_err_and c.from_residual.result c.from_residual.ensures.1 in
    rw (p.1, p.2) c.in_err-recovered.ensures.decided

pub returns-in_err-search-clause-decided : goal.returns-in_err-search-clause-decided
returns-in_err-search-clause-decided g c =
    let p = err_from_is_err_and c.from_residual-in_err-search.result c.from_residual-in_err-search.ensures.1 in
    rw (p.1, p.2) (λ file cause is has. inl (inr refl))

pub returns-in_err-ended-clause-decided : goal.returns-in_err-ended-clause-decided
returns-in_err-ended-clause-decided g c =
    let p = err_from_is_err_and c.from_residual-in_err-ended.result c.from_residual-in_err-ended.ensures.1 in
    rw (p.1, p.2) (λ file cause is has. inl c.in_err-ended.ensures.free)

pub returns-in_err-recovered-clause-taken : goal.returns-in_err-recovered-clause-taken
returns-in_err-recovered-clause-taken g c =
    let p = err_from_is_err_and c.from_residual.result c.from_residual.ensures.1 in
    rw (p.1, p.2) c.in_err-recovered.ensures.taken

pub returns-in_err-ended-clause-taken : goal.returns-in_err-ended-clause-taken
returns-in_err-ended-clause-taken g c =
    let p = err_from_is_err_and c.from_residual-in_err-ended.result c.from_residual-in_err-ended.ensures.1 in
    rw (p.1, p.2) (λ file first is own. c.in_err-ended.ensures.free)

pub returns-in_err-recovered-clause-untouched : goal.returns-in_err-recovered-clause-untouched
returns-in_err-recovered-clause-untouched g c =
    let p = err_from_is_err_and c.from_residual.result c.from_residual.ensures.1 in
    rw (p.1, p.2) c.in_err-recovered.ensures.untouched

pub returns-in_err-ended-clause-untouched : goal.returns-in_err-ended-clause-untouched
returns-in_err-ended-clause-untouched g c =
    let p = err_from_is_err_and c.from_residual-in_err-ended.result c.from_residual-in_err-ended.ensures.1 in
    rw (p.1, p.2) (free-alone c.in_err-ended.field-0.0 _ c.in_err-ended.ensures.free)

-- ---- one disk

pub returns-clause-same_disk : goal.returns-clause-same_disk
returns-clause-same_disk g c =
    same_disk-then (g.D.Disk.told c.args.disk.now) (g.D.Disk.told c.recover.new.disk) (g.D.Disk.told c.drive.new.disk) c.recover.ensures.same_disk c.drive.ensures.same_disk

pub returns-in_err-ended-clause-same_disk : goal.returns-in_err-ended-clause-same_disk
returns-in_err-ended-clause-same_disk g c =
    same_disk-then (g.D.Disk.told c.args.disk.now) (g.D.Disk.told c.recover.new.disk) (g.D.Disk.told c.drive.new.disk) c.recover.ensures.same_disk c.drive.ensures.same_disk

-- From the file that is attached to the desk after the last answer.
use Rattle.std.proofs.Common.{List, ◌++◌, Err, map, refl, inl, inr, ap, subst, sym, ◌∙◌, rules}
use Rattle.std.specs.Prelude.{IsTrue}
use Rattle.std.proofs.lemmas.Result.{err_from_is_err_and}
use Rattle.edge_io.proofs.Counting.{rose-behind}
use Rattle.disk_calls.proofs.Calling.{reaches-file}
use Rattle.disk_calls.proofs.Moments.{same_disk-then}
use Rattle.pool_model.specs.Network.{net_of}
use Rattle.row_model.specs.Trees as trees
use Rattle.row_model.specs.Entries.{Entry, Searched}
use Rattle.box_space.specs.Views.{shown_split}
use Rattle.box_tree.specs.Kept.{searched_of}
use Rattle.recorded_run.specs.Recorded.{IsRecorded}
use Rattle.recorded_run.proofs.Recording.{recovered-held, recorded-ends, recorded-stands}
use Rattle.recorded_run.proofs.Causes.{free-alone}
use Rattle.work_units.specs.Desks.{Desk, desk_of}
use Rattle.gathered_run.specs.Files.{items_of}
use Rattle.gathered_run.specs.Events.{gains}
use Rattle.gathered_run.specs.Gatherings.{BeginWith}
use Rattle.gathered_run.proofs.Prefixes.{jobs-on}
use Rattle.gathered_run.proofs.Growth.{grown-from, grown-none}
use Rattle.gathered_run.proofs.Openings.{begun-is, taken_by, not_begun, gathered-by, no_gather_cause, other-cause, other-decided, run-decided, broken-none, broken-unopened, broken-stopped, disk-of}
use Rattle.gathered_run.proofs.running.gather.Goals as goal

-- ---- the desk

pub start-requires-clause-jobs : goal.start-requires-clause-jobs
start-requires-clause-jobs g c =
    let same : BeginWith (map shown_split c.splits.result.now) (map shown_split c.args.splits.now) = c.begin_with.ensures.0 (search rules) in
    jobs-on c.in_ok-recovered.recovered.tree.kept.splits.list (map shown_split c.args.splits.now) c.args.jobs.items
    (subst (λ (l : List trees.Split). BeginWith l (map shown_split c.args.splits.now)) c.splits.ensures same) c.requires.jobs

pub take_files-requires-clause-ready : goal.take_files-requires-clause-ready
take_files-requires-clause-ready g c = record {
  tree = search rules;
  largest = c.in_ok-recovered.ensures.largest;
  usable = c.in_ok-recovered.ensures.usable;
}

pub take_files-requires-clause-left : goal.take_files-requires-clause-left
take_files-requires-clause-left g c = λ tells.
    let was = reaches-file (g.D.Disk.told c.args.disk.now).reads 0 (c.requires.attached (subst IsTrue c.recover.ensures.same_disk.device.same_telling tells)) in
    let held = c.in_ok-recovered.ensures.found.held was.0 was.1 in
    (c.args.text.now, c.in_ok-recovered.ensures.found.first, held.file, held.on_disk, held.kept)

pub returns-clause-gathered : goal.returns-clause-gathered
returns-clause-gathered g c =
    let n = net_of c.args.net.now in
    let splits = map shown_split c.args.splits.now in
    let found = c.in_ok-recovered.ensures.found in
    let same : BeginWith (map shown_split c.splits.result.now) splits = c.begin_with.ensures.0 (search rules) in
    let same_tree = subst (λ (s : Searched). BeginWith s.tree.splits splits) found.made (subst (λ (l : List trees.Split). BeginWith l splits) c.splits.ensures same) in
    let began = begun-is c.in_ok-desk.desk c.in_ok-recovered.recovered.tree c.args.jobs.items found.first c.in_ok-desk.ensures.tree c.in_ok-desk.ensures.jobs c.in_ok-desk.ensures.taken found.made in
    gathered-by n c.args.text.now splits c.args.jobs.items (items_of c.args.files.items) (g.D.Disk.told c.args.disk.now) (g.D.Disk.told c.recover.new.disk) (g.D.Disk.told c.take_files.new.disk) found.first
    record { journal = c.in_ok-recovered.recovered.journal; desk = c.in_ok-desk.desk; lines = c.new-lines.result } c.take_files.new.self
    record { lines = c.take_files.new.self.lines; desk = c.take_files.new.self.desk } (c.deliveries_law.ensures.taken, c.deliveries_law.ensures.made)
    found.in_order found.stands same_tree began (search rules) refl refl c.in_ok-take_files.ensures.taken

-- ---- what a crash leaves, and what the disk holds

pub returns-clause-any_moment : goal.returns-clause-any_moment
returns-clause-any_moment g c = λ file first is own.
    let n = net_of c.args.net.now in
    let text = c.args.text.now in
    let old = g.D.Disk.told c.args.disk.now in
    let mid = g.D.Disk.told c.recover.new.disk in
    let new = g.D.Disk.told c.take_files.new.disk in
    let place = c.in_ok-recovered.recovered.journal.next in
    let s = searched_of c.in_ok-recovered.recovered.tree.kept in
    let held = recovered-held n text first place s file old mid c.in_ok-recovered.ensures.found is own.stands in
    let began = begun-is c.in_ok-desk.desk c.in_ok-recovered.recovered.tree c.args.jobs.items first c.in_ok-desk.ensures.tree c.in_ok-desk.ensures.jobs c.in_ok-desk.ensures.taken held.made in
    let from = subst (λ (t : Searched). IsRecorded n text first place t mid) (held.made ∙ sym (ap (λ (d : Desk). d.searched) began)) held in
    let taken = c.in_ok-take_files.ensures.taken in
    let grown = taken.recorded text first from in
    let gains_are = taken_by c.in_ok-desk.desk c.take_files.new.self.desk taken.events (c.deliveries_law.ensures.taken) c.in_ok-desk.ensures.taken taken.desk in
    grown-from n text first (first ++ gains taken.events) place (desk_of c.in_ok-desk.desk).searched old mid new _ from (c.recover.ensures.any_moment file first is own) grown.grows record {
      grown = ap (λ (l : List Entry). first ++ l) (sym gains_are);
      ends = recorded-ends n text (first ++ gains taken.events) c.take_files.new.self.journal.next (desk_of c.take_files.new.self.desk).searched new grown.held;
    }

pub returns-in_err-recovered-clause-any_moment : goal.returns-in_err-recovered-clause-any_moment
returns-in_err-recovered-clause-any_moment g c =
    let p = err_from_is_err_and c.from_residual.result c.from_residual.ensures.1 in
    rw (p.1, p.2)
    (λ file first is own.
    grown-none (net_of c.args.net.now) c.args.text.now first (g.D.Disk.told c.args.disk.now) (g.D.Disk.told c.recover.new.disk) _ (c.recover.ensures.any_moment file first is own)
    (broken-unopened (net_of c.args.net.now) c.args.text.now c.args.jobs.items (items_of c.args.files.items) first (g.D.Disk.told c.recover.new.disk) c.in_err-recovered.field-0.0
    (λ memory. c.in_err-recovered.ensures.kept (ap Err memory) file first is own)))

pub returns-then-not-begin_with-clause-any_moment : goal.returns-then-not-begin_with-clause-any_moment
returns-then-not-begin_with-clause-any_moment g c = λ file first is own.
    let n = net_of c.args.net.now in
    let text = c.args.text.now in
    let place = c.in_ok-recovered.recovered.journal.next in
    let s = searched_of c.in_ok-recovered.recovered.tree.kept in
    let old = g.D.Disk.told c.args.disk.now in
    let mid = g.D.Disk.told c.recover.new.disk in
    let held = recovered-held n text first place s file old mid c.in_ok-recovered.ensures.found is own.stands in
    grown-none n text first old mid _ (c.recover.ensures.any_moment file first is own)
    (broken-none n text c.args.jobs.items (items_of c.args.files.items) first mid _ (λ why. recorded-stands n text first place s mid held))

pub returns-in_err-desk-clause-any_moment : goal.returns-in_err-desk-clause-any_moment
returns-in_err-desk-clause-any_moment g c =
    let p = err_from_is_err_and c.from_residual-in_err-desk.result c.from_residual-in_err-desk.ensures.1 in
    rw (p.1)
    (λ file first is own.
    let n = net_of c.args.net.now in
    let text = c.args.text.now in
    let place = c.in_ok-recovered.recovered.journal.next in
    let s = searched_of c.in_ok-recovered.recovered.tree.kept in
    let old = g.D.Disk.told c.args.disk.now in
    let mid = g.D.Disk.told c.recover.new.disk in
    let held = recovered-held n text first place s file old mid c.in_ok-recovered.ensures.found is own.stands in
    grown-none n text first old mid _ (c.recover.ensures.any_moment file first is own)
    (broken-none n text c.args.jobs.items (items_of c.args.files.items) first mid p.0 (λ why. recorded-stands n text first place s mid held)))

pub returns-in_err-take_files-clause-any_moment : goal.returns-in_err-take_files-clause-any_moment
returns-in_err-take_files-clause-any_moment g c =
    let p = err_from_is_err_and c.from_residual-in_err-take_files.result c.from_residual-in_err-take_files.ensures.1 in
    rw (p.1, p.2)
    (λ file first is own.
    let n = net_of c.args.net.now in
    let text = c.args.text.now in
    let old = g.D.Disk.told c.args.disk.now in
    let mid = g.D.Disk.told c.recover.new.disk in
    let new = g.D.Disk.told c.take_files.new.disk in
    let place = c.in_ok-recovered.recovered.journal.next in
    let s = searched_of c.in_ok-recovered.recovered.tree.kept in
    let held = recovered-held n text first place s file old mid c.in_ok-recovered.ensures.found is own.stands in
    let began = begun-is c.in_ok-desk.desk c.in_ok-recovered.recovered.tree c.args.jobs.items first c.in_ok-desk.ensures.tree c.in_ok-desk.ensures.jobs c.in_ok-desk.ensures.taken held.made in
    let from = subst (λ (t : Searched). IsRecorded n text first place t mid) (held.made ∙ sym (ap (λ (d : Desk). d.searched) began)) held in
    let at = c.in_err-take_files.ensures.taken text first from in
    grown-from n text first at.last place (desk_of c.in_ok-desk.desk).searched old mid new _ from (c.recover.ensures.any_moment file first is own) at.grows
    (broken-stopped n text c.args.jobs.items (items_of c.args.files.items) record { journal = c.in_ok-recovered.recovered.journal; desk = c.in_ok-desk.desk; lines = c.new-lines.result } first mid new
    c.in_err-take_files.field-0.0 began at))

-- ---- causes

pub returns-in_err-recovered-clause-refused : goal.returns-in_err-recovered-clause-refused
returns-in_err-recovered-clause-refused g c =
    let p = err_from_is_err_and c.from_residual.result c.from_residual.ensures.1 in
    rw (p.1, p.2) c.in_err-recovered.ensures.refused

pub returns-then-not-begin_with-clause-refused : goal.returns-then-not-begin_with-clause-refused
returns-then-not-begin_with-clause-refused g c = λ file is.
    let found = c.in_ok-recovered.ensures.found in
    let splits = map shown_split c.args.splits.now in
    inr (other-cause (net_of c.args.net.now) c.args.text.now splits file found.first (found.stands file is) found.in_order
    (λ same. not_begun c.begin_with.result _ c.begin_with.ensures.1 (search rules)
    (subst (λ (l : List trees.Split). BeginWith l splits) (sym c.splits.ensures) (subst (λ (s : Searched). BeginWith s.tree.splits splits) (sym found.made) same))))

pub returns-in_err-take_files-clause-refused : goal.returns-in_err-take_files-clause-refused
returns-in_err-take_files-clause-refused g c =
    let p = err_from_is_err_and c.from_residual-in_err-take_files.result c.from_residual-in_err-take_files.ensures.1 in
    rw (p.1, p.2) (λ file is. inl c.in_err-take_files.ensures.free)

pub returns-clause-decided : goal.returns-clause-decided
returns-clause-decided g c = λ file cause is has.
    let found = c.in_ok-recovered.ensures.found in
    let splits = map shown_split c.args.splits.now in
    let same : BeginWith (map shown_split c.splits.result.now) splits = c.begin_with.ensures.0 (search rules) in
    let same_tree = subst (λ (s : Searched). BeginWith s.tree.splits splits) found.made (subst (λ (l : List trees.Split). BeginWith l splits) c.splits.ensures same) in
    absurd (no_gather_cause (net_of c.args.net.now) c.args.text.now splits file found.first cause (found.stands file is) found.in_order same_tree has)

pub returns-in_err-recovered-clause-decided : goal.returns-in_err-recovered-clause-decided
returns-in_err-recovered-clause-decided g c =
    let p = err_from_is_err_and c.from_residual.result c.from_residual.ensures.1 in
    rw (p.1, p.2)
    (λ file cause is has.
    run-decided (net_of c.args.net.now) c.args.text.now (map shown_split c.args.splits.now) file c.in_err-recovered.field-0.0 cause (c.in_err-recovered.ensures.refused file is)
    (λ other caused. c.in_err-recovered.ensures.decided file other is caused) has)

pub returns-then-not-begin_with-clause-decided : goal.returns-then-not-begin_with-clause-decided
returns-then-not-begin_with-clause-decided g c = λ file cause is has.
    let found = c.in_ok-recovered.ensures.found in
    inr (other-decided (net_of c.args.net.now) c.args.text.now (map shown_split c.args.splits.now) file found.first cause (found.stands file is) found.in_order has)

pub returns-in_err-desk-clause-decided : goal.returns-in_err-desk-clause-decided
returns-in_err-desk-clause-decided g c =
    let p = err_from_is_err_and c.from_residual-in_err-desk.result c.from_residual-in_err-desk.ensures.1 in
    rw (p.1, p.2) (λ file cause is has. inl (inr refl))

pub returns-in_err-take_files-clause-decided : goal.returns-in_err-take_files-clause-decided
returns-in_err-take_files-clause-decided g c =
    let p = err_from_is_err_and c.from_residual-in_err-take_files.result c.from_residual-in_err-take_files.ensures.1 in
    rw (p.1, p.2) (λ file cause is has. inl c.in_err-take_files.ensures.free)

pub returns-in_err-recovered-clause-taken : goal.returns-in_err-recovered-clause-taken
returns-in_err-recovered-clause-taken g c =
    let p = err_from_is_err_and c.from_residual.result c.from_residual.ensures.1 in
    rw (p.1, p.2) (λ file first is own. inl (c.in_err-recovered.ensures.taken file first is own))

pub returns-in_err-take_files-clause-taken : goal.returns-in_err-take_files-clause-taken
returns-in_err-take_files-clause-taken g c =
    let p = err_from_is_err_and c.from_residual-in_err-take_files.result c.from_residual-in_err-take_files.ensures.1 in
    rw (p.1, p.2) (λ file first is own. inl c.in_err-take_files.ensures.free)

pub returns-in_err-recovered-clause-untouched : goal.returns-in_err-recovered-clause-untouched
returns-in_err-recovered-clause-untouched g c =
    let p = err_from_is_err_and c.from_residual.result c.from_residual.ensures.1 in
    rw (p.1, p.2) c.in_err-recovered.ensures.untouched

pub returns-in_err-take_files-clause-untouched : goal.returns-in_err-take_files-clause-untouched
returns-in_err-take_files-clause-untouched g c =
    let p = err_from_is_err_and c.from_residual-in_err-take_files.result c.from_residual-in_err-take_files.ensures.1 in
    rw (p.1, p.2) (free-alone c.in_err-take_files.field-0.0 _ c.in_err-take_files.ensures.free)

pub returns-then-not-begin_with-clause-unchanged : goal.returns-then-not-begin_with-clause-unchanged
returns-then-not-begin_with-clause-unchanged g c = λ other file list is stands.
    let place = c.in_ok-recovered.recovered.journal.next in
    let s = searched_of c.in_ok-recovered.recovered.tree.kept in
    let mid = g.D.Disk.told c.recover.new.disk in
    recorded-stands (net_of c.args.net.now) c.args.text.now list place s mid
    (recovered-held (net_of c.args.net.now) c.args.text.now list place s file (g.D.Disk.told c.args.disk.now) mid c.in_ok-recovered.ensures.found is stands)

-- ---- the disk

pub returns-in_err-take_files-clause-failed : goal.returns-in_err-take_files-clause-failed
returns-in_err-take_files-clause-failed g c =
    let p = err_from_is_err_and c.from_residual-in_err-take_files.result c.from_residual-in_err-take_files.ensures.1 in
    λ disk.
    let fault = c.in_err-take_files.field-0.0 in
    rose-behind (g.D.Disk.told c.args.disk.now).faults (g.D.Disk.told c.recover.new.disk).faults (g.D.Disk.told c.take_files.new.disk).faults c.recover.ensures.same_disk.device.faults_grow
    (c.in_err-take_files.ensures.failed (ap Err (disk-of c.from_residual-in_err-take_files.result fault (p.1 ∙ ap Err p.2) disk)))

pub returns-clause-same_disk : goal.returns-clause-same_disk
returns-clause-same_disk g c =
    same_disk-then (g.D.Disk.told c.args.disk.now) (g.D.Disk.told c.recover.new.disk) (g.D.Disk.told c.take_files.new.disk) c.recover.ensures.same_disk c.take_files.ensures.same_disk

pub returns-in_err-take_files-clause-same_disk : goal.returns-in_err-take_files-clause-same_disk
returns-in_err-take_files-clause-same_disk g c =
    same_disk-then (g.D.Disk.told c.args.disk.now) (g.D.Disk.told c.recover.new.disk) (g.D.Disk.told c.take_files.new.disk) c.recover.ensures.same_disk c.take_files.ensures.same_disk

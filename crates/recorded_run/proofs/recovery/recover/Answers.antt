-- From the file that is attached to the tree of its entries.
use Rattle.std.proofs.Common.{◌≡◌, ◌⊎◌, ℕ, List, Err, map, refl, inl, inr, ap, subst, sym, ◌∙◌}
use Rattle.std.proofs.lemmas.Result.{err_from_is_err_and}
use Rattle.pool_model.specs.Network.{net_of}
use Rattle.row_model.specs.Entries.{Entry, AreInOrder}
use Rattle.box_tree.specs.Kept.{searched_of}
use Rattle.box_tree.specs.Views.{shown_entry}
use Rattle.journal_format.specs.Faults.{HoldsAllowed, IsFree, Has}
use Rattle.journal_format.specs.Records.{IsKeptAt}
use Rattle.journal_format.proofs.OwnFiles.{one_standing}
use Rattle.recorded_run.specs.declared.fault.RunFault.TheVariants.{Journal}
use Rattle.recorded_run.proofs.Recording.{opened-recorded, opening-moments, kept-stands, memory-of}
use Rattle.recorded_run.proofs.Causes.{no_cause, in_order-allowed, decided-by, replay-cause, replay-free, replay-alone}
use Rattle.recorded_run.proofs.recovery.recover.Goals as goal

pub returns-clause-found : goal.returns-clause-found
returns-clause-found g c =
    let list = map shown_entry c.in_ok-opened.opened.entries.items in
    record {
      first = list;
      in_order = c.in_ok-tree.ensures.in_order;
      made = c.in_ok-tree.ensures.made;
      stands = c.in_ok-opened.ensures.entries;
      held = λ file is.
          let left = c.in_ok-opened.ensures.left file is in
          opened-recorded (net_of c.args.net.now) c.args.text.now list list c.in_ok-opened.opened.journal.next (searched_of c.in_ok-tree.tree.kept) left.0 (g.D.Disk.told c.open.new.disk)
          refl c.in_ok-tree.ensures.in_order c.in_ok-tree.ensures.made left.1 left.2;
    }

pub returns-clause-largest : goal.returns-clause-largest
returns-clause-largest g c = c.in_ok-opened.ensures.largest ∙ c.largest_payload-largest.ensures.value

-- ---- what a crash leaves

pub returns-clause-any_moment : goal.returns-clause-any_moment
returns-clause-any_moment g c = λ file first is own.
    opening-moments (net_of c.args.net.now) c.args.text.now first (g.D.Disk.told c.args.disk.now) (g.D.Disk.told c.open.new.disk) own.in_order
    (c.open.ensures.any_moment file first is own.own own.stands)

pub returns-in_err-opened-clause-any_moment : goal.returns-in_err-opened-clause-any_moment
returns-in_err-opened-clause-any_moment g c = λ file first is own.
    opening-moments (net_of c.args.net.now) c.args.text.now first (g.D.Disk.told c.args.disk.now) (g.D.Disk.told c.open.new.disk) own.in_order
    (c.open.ensures.any_moment file first is own.own own.stands)

pub returns-in_err-tree-clause-any_moment : goal.returns-in_err-tree-clause-any_moment
returns-in_err-tree-clause-any_moment g c = λ file first is own.
    opening-moments (net_of c.args.net.now) c.args.text.now first (g.D.Disk.told c.args.disk.now) (g.D.Disk.told c.open.new.disk) own.in_order
    (c.open.ensures.any_moment file first is own.own own.stands)

pub returns-in_err-opened-clause-kept : goal.returns-in_err-opened-clause-kept
returns-in_err-opened-clause-kept g c =
    let p = err_from_is_err_and c.from_residual.result c.from_residual.ensures.1 in
    λ memory file first is own. record {
      file = file;
      read = c.in_err-opened.ensures.kept (ap Err (memory-of c.from_residual.result c.in_err-opened.field-0.0 (p.1 ∙ ap Err p.2) memory)) ∙ is;
      own = own;
    }

pub returns-in_err-tree-clause-kept : goal.returns-in_err-tree-clause-kept
returns-in_err-tree-clause-kept g c = λ memory file first is own.
    let list = map shown_entry c.in_ok-opened.opened.entries.items in
    let same = one_standing file c.args.text.now list first (c.in_ok-opened.ensures.entries file is) own.stands in
    let left = c.in_ok-opened.ensures.left file is in
    kept-stands (net_of c.args.net.now) c.args.text.now first c.in_ok-opened.opened.journal.next left.0 (g.D.Disk.told c.open.new.disk)
    own.in_order left.1 (subst (λ (l : List Entry). IsKeptAt c.in_ok-opened.opened.journal.next c.args.text.now l left.0) same left.2)

-- ---- causes

pub returns-in_err-opened-clause-refused : goal.returns-in_err-opened-clause-refused
returns-in_err-opened-clause-refused g c =
    let p = err_from_is_err_and c.from_residual.result c.from_residual.ensures.1 in
    rw (p.1, p.2)
    (λ file is. subst (λ (k : ℕ). IsFree c.in_err-opened.field-0.0 ⊎ Has c.args.text.now k file c.in_err-opened.field-0.0)
    c.largest_payload-largest.ensures.value (c.in_err-opened.ensures.refused file is))

pub returns-in_err-tree-clause-refused : goal.returns-in_err-tree-clause-refused
returns-in_err-tree-clause-refused g c =
    let p = err_from_is_err_and c.from_residual-in_err-tree.result c.from_residual-in_err-tree.ensures.1 in
    let list = map shown_entry c.in_ok-opened.opened.entries.items in
    rw (p.1, p.2)
    (λ file is.
    replay-cause (net_of c.args.net.now) c.args.text.now file list c.in_ok-opened.opened.turn_at c.in_err-tree.field-0.0 (c.in_ok-opened.ensures.entries file is) (c.in_ok-opened.ensures.turn_at file is)
    (subst (λ (k : ℕ). HoldsAllowed c.args.text.now k file) c.largest_payload-largest.ensures.value (c.in_ok-opened.ensures.allowed file is)) c.in_err-tree.ensures.fault)

pub returns-clause-decided : goal.returns-clause-decided
returns-clause-decided g c = λ file cause is has.
    absurd (no_cause (net_of c.args.net.now) c.args.text.now file (map shown_entry c.in_ok-opened.opened.entries.items) cause
    (c.in_ok-opened.ensures.entries file is) c.in_ok-tree.ensures.in_order has)

pub returns-in_err-opened-clause-decided : goal.returns-in_err-opened-clause-decided
returns-in_err-opened-clause-decided g c =
    let p = err_from_is_err_and c.from_residual.result c.from_residual.ensures.1 in
    rw (p.1, p.2)
    (λ file cause is has.
    let fault = c.in_err-opened.field-0.0 in
    decided-by (net_of c.args.net.now) c.args.text.now file (Journal fault) cause
    (subst (λ (k : ℕ). IsFree fault ⊎ Has c.args.text.now k file fault) c.largest_payload-largest.ensures.value (c.in_err-opened.ensures.refused file is)) has)

pub returns-in_err-tree-clause-decided : goal.returns-in_err-tree-clause-decided
returns-in_err-tree-clause-decided g c =
    let p = err_from_is_err_and c.from_residual-in_err-tree.result c.from_residual-in_err-tree.ensures.1 in
    let list = map shown_entry c.in_ok-opened.opened.entries.items in
    let n = net_of c.args.net.now in
    rw (p.1, p.2)
    (λ file cause is has.
    decided-by n c.args.text.now file c.in_err-tree.field-0.0 cause
    (replay-cause n c.args.text.now file list c.in_ok-opened.opened.turn_at c.in_err-tree.field-0.0 (c.in_ok-opened.ensures.entries file is) (c.in_ok-opened.ensures.turn_at file is)
    (subst (λ (k : ℕ). HoldsAllowed c.args.text.now k file) c.largest_payload-largest.ensures.value (c.in_ok-opened.ensures.allowed file is)) c.in_err-tree.ensures.fault) has)

pub returns-in_err-opened-clause-taken : goal.returns-in_err-opened-clause-taken
returns-in_err-opened-clause-taken g c =
    let p = err_from_is_err_and c.from_residual.result c.from_residual.ensures.1 in
    rw (p.1, p.2)
    (λ file first is own.
    c.in_err-opened.ensures.taken file is
    (subst (λ (k : ℕ). HoldsAllowed c.args.text.now k file) (sym c.largest_payload-largest.ensures.value) (in_order-allowed (net_of c.args.net.now) c.args.text.now file first own.stands own.in_order)))

pub returns-in_err-tree-clause-taken : goal.returns-in_err-tree-clause-taken
returns-in_err-tree-clause-taken g c =
    let p = err_from_is_err_and c.from_residual-in_err-tree.result c.from_residual-in_err-tree.ensures.1 in
    rw (p.1, p.2)
    (λ file first is own.
    let list = map shown_entry c.in_ok-opened.opened.entries.items in
    let same = one_standing file c.args.text.now list first (c.in_ok-opened.ensures.entries file is) own.stands in
    replay-free (net_of c.args.net.now) list c.in_ok-opened.opened.turn_at c.in_err-tree.field-0.0 (subst (AreInOrder (net_of c.args.net.now)) (sym same) own.in_order) c.in_err-tree.ensures.fault)

pub returns-in_err-opened-clause-untouched : goal.returns-in_err-opened-clause-untouched
returns-in_err-opened-clause-untouched g c =
    let p = err_from_is_err_and c.from_residual.result c.from_residual.ensures.1 in
    rw (p.1, p.2) c.in_err-opened.ensures.untouched

pub returns-in_err-tree-clause-untouched : goal.returns-in_err-tree-clause-untouched
returns-in_err-tree-clause-untouched g c =
    let p = err_from_is_err_and c.from_residual-in_err-tree.result c.from_residual-in_err-tree.ensures.1 in
    rw (p.1, p.2) (replay-alone (net_of c.args.net.now) (map shown_entry c.in_ok-opened.opened.entries.items) c.in_ok-opened.opened.turn_at c.in_err-tree.field-0.0 _ c.in_err-tree.ensures.fault)

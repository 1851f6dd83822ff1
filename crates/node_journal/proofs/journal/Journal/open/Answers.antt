use Rattle.std.proofs.Common.{◌≡◌, ◌⊎◌, ℕ, ◌+◌, ◌-◌, ◌≤◌, ◌^◌, List, length, inl, inr, ap, subst, sym, ◌∙◌, arith}
use Rattle.std.specs.Prelude.{IsTrue, IfSome}
use Rattle.std.proofs.lemmas.Result.{MatchResult-weaker}
use Rattle.disk_calls.proofs.Calling.{reaches-file}
use Rattle.disk_calls.proofs.Moments.{goes_further, leaves-weaker, now-has}
use Rattle.journal_format.specs.Files.{IsOwnFor}
use Rattle.journal_format.specs.Faults.{HoldsAllowed, IsFree, Has}
use Rattle.node_journal.specs.Journals.{Ready}
use Rattle.node_journal.proofs.Runs.{quiet-start, quiet-then}
use Rattle.journal_format.proofs.Decided.{decided_of, taken_of}
use Rattle.node_journal.proofs.Openings.{newborn_short}
use Rattle.node_journal.proofs.journal.Journal.«open».Goals as goal

pub open_measured-requires-clause-settled : goal.open_measured-requires-clause-settled
open_measured-requires-clause-settled g c = λ tells.
    let was = reaches-file (g.D.Disk.told c.args.disk.now).reads 0 (c.requires.attached (subst IsTrue c.measure.ensures.same_disk.device.same_telling tells)) in
    (was.0, c.in_ok-end.ensures.on_disk was.0 was.1)

pub open_measured-requires-clause-size : goal.open_measured-requires-clause-size
open_measured-requires-clause-size g c = subst (λ o. IfSome o (λ (f : List ℕ). c.in_ok-end.end ≡ length f)) (sym c.in_ok-end.ensures.same) c.in_ok-end.ensures.length

pub open_measured-requires-clause-whole : goal.open_measured-requires-clause-whole
open_measured-requires-clause-whole g c = (c.args.text.now, (c.deref.ensures.value ∙ c.in_ok-whole.ensures))

pub open_measured-requires-clause-short : goal.open_measured-requires-clause-short
open_measured-requires-clause-short g c = subst (λ (l : List ℕ). length l ≤ 2 ^ 21) (sym (c.deref.ensures.value ∙ c.in_ok-whole.ensures)) (newborn_short c.args.text.now c.requires.text)

pub open_measured-requires-clause-room : goal.open_measured-requires-clause-room
open_measured-requires-clause-room g c =
    let size : length c.in_ok-room.room.items ≡ c.args.largest + 5 = omega (arith, c.in_ok-room.ensures.len, c.in_ok-room.room.ok.0) in
    record { near = omega arith; framed = omega (arith, size); small = omega (arith, size, c.requires.largest) }

pub returns-clause-entries : goal.returns-clause-entries
returns-clause-entries g c = MatchResult-weaker c.open_measured.result c.open_measured.ensures.opened
    (λ o h file is.
    let opened = h c.args.text.now file (c.in_ok-end.ensures.on_disk file is) (c.deref.ensures.value ∙ c.in_ok-whole.ensures) in
    (opened.history, opened.of_file, opened.entries)) (λ e free. free)

pub returns-clause-turn_at : goal.returns-clause-turn_at
returns-clause-turn_at g c = MatchResult-weaker c.open_measured.result c.open_measured.ensures.opened
    (λ o h file is.
    let opened = h c.args.text.now file (c.in_ok-end.ensures.on_disk file is) (c.deref.ensures.value ∙ c.in_ok-whole.ensures) in
    (opened.history, opened.of_file, opened.turned)) (λ e free. free)

pub returns-clause-allowed : goal.returns-clause-allowed
returns-clause-allowed g c =
    let size : length c.in_ok-room.room.items - 5 ≡ c.args.largest = omega (arith, c.in_ok-room.ensures.len, c.in_ok-room.room.ok.0) in
    MatchResult-weaker c.open_measured.result c.open_measured.ensures.opened
    (λ o h file is. subst (λ (n : ℕ). HoldsAllowed c.args.text.now n file) size
    (let opened = h c.args.text.now file (c.in_ok-end.ensures.on_disk file is) (c.deref.ensures.value ∙ c.in_ok-whole.ensures) in
    (opened.history, opened.of_file, opened.allowed))) (λ e free. free)

pub returns-clause-left : goal.returns-clause-left
returns-clause-left g c =
    MatchResult-weaker c.open_measured.result c.open_measured.ensures.opened
    (λ o h file is.
    let opened = h c.args.text.now file (c.in_ok-end.ensures.on_disk file is) (c.deref.ensures.value ∙ c.in_ok-whole.ensures) in
    (opened.now, opened.on_disk, opened.kept)) (λ e free. free)

pub returns-clause-usable : goal.returns-clause-usable
returns-clause-usable g c = MatchResult-weaker c.open_measured.result c.open_measured.ensures.journal (λ o h. ap (λ (r : Ready). r.failed) h) (λ e free. free)

pub returns-clause-largest : goal.returns-clause-largest
returns-clause-largest g c =
    let size : length c.in_ok-room.room.items - 5 ≡ c.args.largest = omega (arith, c.in_ok-room.ensures.len, c.in_ok-room.room.ok.0) in
    MatchResult-weaker c.open_measured.result c.open_measured.ensures.journal (λ o h. ap (λ (r : Ready). r.largest) h ∙ size) (λ e free. free)

pub returns-clause-refused : goal.returns-clause-refused
returns-clause-refused g c =
    let size : length c.in_ok-room.room.items - 5 ≡ c.args.largest = omega (arith, c.in_ok-room.ensures.len, c.in_ok-room.room.ok.0) in
    MatchResult-weaker c.open_measured.result c.open_measured.ensures.refused (λ o free. free)
    (λ e h file is. subst (λ (n : ℕ). IsFree e ⊎ Has c.args.text.now n file e) size (h c.args.text.now file (c.in_ok-end.ensures.on_disk file is) (c.deref.ensures.value ∙ c.in_ok-whole.ensures)))

pub returns-clause-any_moment : goal.returns-clause-any_moment
returns-clause-any_moment g c = λ file list is own stands.
    let Q : List ℕ → Type 0 = λ k. (g.D.Disk.told c.args.disk.now).may_leave k ⊎ IsOwnFor c.args.text.now list k in
    let R : List ℕ → Type 0 = λ k. (g.D.Disk.told c.measure.new.disk).may_leave k ⊎ IsOwnFor c.args.text.now list k in
    let was = now-has (g.D.Disk.told c.args.disk.now) (g.D.Disk.told c.measure.new.disk) (g.D.Disk.told c.args.disk.now).may_leave c.measure.ensures.quiet in
    goes_further (g.D.Disk.told c.args.disk.now) (g.D.Disk.told c.measure.new.disk) (g.D.Disk.told c.open_measured.new.disk) Q
    (leaves-weaker (g.D.Disk.told c.args.disk.now) (g.D.Disk.told c.measure.new.disk) (g.D.Disk.told c.args.disk.now).may_leave Q (λ k now. inl now) c.measure.ensures.quiet)
    (leaves-weaker (g.D.Disk.told c.measure.new.disk) (g.D.Disk.told c.open_measured.new.disk) R Q (λ k here. elim here [ inl now ↦ inl (was k now) | inr own_now ↦ inr own_now ])
    (c.open_measured.ensures.any_moment c.args.text.now file list (c.in_ok-end.ensures.on_disk file is) (c.deref.ensures.value ∙ c.in_ok-whole.ensures) own stands))

pub returns-in_err-room-clause-any_moment : goal.returns-in_err-room-clause-any_moment
returns-in_err-room-clause-any_moment g c = λ file list is own stands.
    let Q : List ℕ → Type 0 = λ k. (g.D.Disk.told c.args.disk.now).may_leave k ⊎ IsOwnFor c.args.text.now list k in
    leaves-weaker (g.D.Disk.told c.args.disk.now) (g.D.Disk.told c.args.disk.now) (g.D.Disk.told c.args.disk.now).may_leave Q (λ k now. inl now)
    (quiet-start (g.D.Disk.told c.args.disk.now))

pub returns-in_err-whole-clause-any_moment : goal.returns-in_err-whole-clause-any_moment
returns-in_err-whole-clause-any_moment g c = λ file list is own stands.
    let Q : List ℕ → Type 0 = λ k. (g.D.Disk.told c.args.disk.now).may_leave k ⊎ IsOwnFor c.args.text.now list k in
    leaves-weaker (g.D.Disk.told c.args.disk.now) (g.D.Disk.told c.args.disk.now) (g.D.Disk.told c.args.disk.now).may_leave Q (λ k now. inl now)
    (quiet-start (g.D.Disk.told c.args.disk.now))

pub returns-in_err-end-clause-any_moment : goal.returns-in_err-end-clause-any_moment
returns-in_err-end-clause-any_moment g c = λ file list is own stands.
    let Q : List ℕ → Type 0 = λ k. (g.D.Disk.told c.args.disk.now).may_leave k ⊎ IsOwnFor c.args.text.now list k in
    leaves-weaker (g.D.Disk.told c.args.disk.now) (g.D.Disk.told c.measure.new.disk) (g.D.Disk.told c.args.disk.now).may_leave Q (λ k now. inl now) c.measure.ensures.quiet

pub returns-clause-decided : goal.returns-clause-decided
returns-clause-decided g c = λ file is.
    let size : length c.in_ok-room.room.items - 5 ≡ c.args.largest = omega (arith, c.in_ok-room.ensures.len, c.in_ok-room.room.ok.0) in
    let d = c.in_ok-end.ensures.on_disk file is in
    let whole = c.deref.ensures.value ∙ c.in_ok-whole.ensures in
    λ fault has.
    decided_of c.open_measured.result c.args.text.now (length c.in_ok-room.room.items - 5) file fault
    (MatchResult-weaker c.open_measured.result c.open_measured.ensures.opened
    (λ o h. let opened = h c.args.text.now file d whole in (opened.history, opened.of_file, opened.allowed)) (λ e free. free))
    (MatchResult-weaker c.open_measured.result c.open_measured.ensures.refused (λ o free. free) (λ e h. h c.args.text.now file d whole))
    (subst (λ (n : ℕ). Has c.args.text.now n file fault) (sym size) has)

pub returns-clause-taken : goal.returns-clause-taken
returns-clause-taken g c = λ file is allowed.
    let size : length c.in_ok-room.room.items - 5 ≡ c.args.largest = omega (arith, c.in_ok-room.ensures.len, c.in_ok-room.room.ok.0) in
    taken_of c.open_measured.result c.args.text.now (length c.in_ok-room.room.items - 5) file
    (MatchResult-weaker c.open_measured.result c.open_measured.ensures.refused (λ o free. free)
    (λ e h. h c.args.text.now file (c.in_ok-end.ensures.on_disk file is) (c.deref.ensures.value ∙ c.in_ok-whole.ensures)))
    (subst (λ (n : ℕ). HoldsAllowed c.args.text.now n file) (sym size) allowed)

pub returns-clause-untouched : goal.returns-clause-untouched
returns-clause-untouched g c =
    MatchResult-weaker c.open_measured.result c.open_measured.ensures.untouched (λ o free. free)
    (λ e left. elim left [
      | inl free ↦ inl free
      | inr quiet ↦ inr (quiet-then (g.D.Disk.told c.args.disk.now) (g.D.Disk.told c.measure.new.disk) (g.D.Disk.told c.open_measured.new.disk) c.measure.ensures.quiet quiet)
    ])

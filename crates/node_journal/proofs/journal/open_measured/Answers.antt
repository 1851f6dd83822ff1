use Rattle.std.proofs.Common.{◌≡◌, ◌⊎◌, ℕ, List, [], ◌-◌, drop, length, length-take, length-drop, inl, inr, ap, subst, sym, ◌∙◌, arith}
use Rattle.std.specs.Prelude.{IfSome}
use Rattle.std.proofs.lemmas.Result.{err_from_is_err_and, MatchResult-weaker}
use Rattle.disk_calls.proofs.Calling.{at-file}
use Rattle.disk_calls.proofs.Moments.{goes_further, leaves-weaker}
use Rattle.row_model.specs.Entries.{Entry}
use Rattle.journal_format.specs.Files.{IsOwnFor}
use Rattle.journal_format.specs.States.{IsIn}
use Rattle.node_journal.proofs.Runs.{reaches-known, quiet-then, still, still_settled}
use Rattle.journal_format.proofs.OwnFiles.{own_kept, unborn_empty}
use Rattle.node_journal.proofs.Openings.{tail_is, headed_is, any_largest}
use Rattle.node_journal.proofs.journal.open_measured.Goals as goal

pub find_state-requires-clause-short : goal.find_state-requires-clause-short
find_state-requires-clause-short g c = omega (arith, length-take (length c.args.whole.now - 1 - 9) (drop 9 c.args.whole.now), length-drop 9 c.args.whole.now, c.requires.short)

pub find_state-requires-clause-known : goal.find_state-requires-clause-known
find_state-requires-clause-known g c = λ tells.
    let was = c.requires.settled tells in
    let size = at-file (g.D.Disk.told c.args.disk.now).reads was.0 (λ (f : List ℕ). c.args.end ≡ length f) was.1.read c.requires.size in
    reaches-known (g.D.Disk.told c.args.disk.now).reads was.0 c.args.end was.1.read (omega arith)

pub recover-requires-clause-settled : goal.recover-requires-clause-settled
recover-requires-clause-settled g c =
    still_settled (g.D.Disk.told c.args.disk.now) (g.D.Disk.told c.find_state.new.disk) c.find_state.ensures.same_disk c.in_ok-state.ensures.same c.find_state.ensures.quiet c.requires.settled

pub recover-requires-clause-size : goal.recover-requires-clause-size
recover-requires-clause-size g c = subst (λ o. IfSome o (λ (f : List ℕ). c.args.end ≡ length f)) (sym c.in_ok-state.ensures.same) c.requires.size

pub recover-requires-clause-start : goal.recover-requires-clause-start
recover-requires-clause-start g c = omega (arith, c.in_ok-state.ensures.long c.in-Born.version c.in-Born.is)

pub bear-requires-clause-settled : goal.bear-requires-clause-settled
bear-requires-clause-settled g c =
    still_settled (g.D.Disk.told c.args.disk.now) (g.D.Disk.told c.find_state.new.disk) c.find_state.ensures.same_disk c.in_ok-state.ensures.same c.find_state.ensures.quiet c.requires.settled

pub bear-requires-clause-whole : goal.bear-requires-clause-whole
bear-requires-clause-whole g c = omega (arith, ap length c.requires.whole.1)

pub bear-requires-clause-zeroed : goal.bear-requires-clause-zeroed
bear-requires-clause-zeroed g c = λ file reads.
    let was = sym c.in_ok-state.ensures.same ∙ reads in
    let size = at-file (g.D.Disk.told c.args.disk.now).reads file (λ (f : List ℕ). c.args.end ≡ length f) was c.requires.size in
    let state = c.in_ok-state.ensures.state c.requires.whole.0 file was size (tail_is c.requires.whole.0 c.args.whole.now c.requires.whole.1) in
    (subst (IsIn c.requires.whole.0 file) c.in-Unborn.is state).1

pub bear-requires-in-Zeroed-clause-settled : goal.bear-requires-in-Zeroed-clause-settled
bear-requires-in-Zeroed-clause-settled g c =
    still_settled (g.D.Disk.told c.args.disk.now) (g.D.Disk.told c.find_state.new.disk) c.find_state.ensures.same_disk c.in_ok-state.ensures.same c.find_state.ensures.quiet c.requires.settled

pub bear-requires-in-Zeroed-clause-whole : goal.bear-requires-in-Zeroed-clause-whole
bear-requires-in-Zeroed-clause-whole g c = omega (arith, ap length c.requires.whole.1)

pub bear-requires-in-Zeroed-clause-zeroed : goal.bear-requires-in-Zeroed-clause-zeroed
bear-requires-in-Zeroed-clause-zeroed g c = λ file reads.
    let was = sym c.in_ok-state.ensures.same ∙ reads in
    let size = at-file (g.D.Disk.told c.args.disk.now).reads file (λ (f : List ℕ). c.args.end ≡ length f) was c.requires.size in
    let state = c.in_ok-state.ensures.state c.requires.whole.0 file was size (tail_is c.requires.whole.0 c.args.whole.now c.requires.whole.1) in
    (subst (IsIn c.requires.whole.0 file) c.in-Zeroed.is state).1

pub returns-in_err-state-clause-refused : goal.returns-in_err-state-clause-refused
returns-in_err-state-clause-refused g c =
    let p = err_from_is_err_and c.from_residual.result c.from_residual.ensures.1 in
    rw (p.1, p.2)
    (λ text file d is.
    let size = at-file (g.D.Disk.told c.args.disk.now).reads file (λ (f : List ℕ). c.args.end ≡ length f) d.read c.requires.size in
    any_largest text file (length c.args.room.items - 5) c.in_err-state.field-0.0 (c.in_err-state.ensures.state text file d.read size (tail_is text c.args.whole.now is)))

pub returns-in_err-state-clause-any_moment : goal.returns-in_err-state-clause-any_moment
returns-in_err-state-clause-any_moment g c = λ text file list d is own stands.
    let Q : List ℕ → Type 0 = λ k. (g.D.Disk.told c.args.disk.now).may_leave k ⊎ IsOwnFor text list k in
    leaves-weaker (g.D.Disk.told c.args.disk.now) (g.D.Disk.told c.find_state.new.disk) (g.D.Disk.told c.args.disk.now).may_leave Q (λ k now. inl now) c.find_state.ensures.quiet

pub returns-in-Born-clause-opened : goal.returns-in-Born-clause-opened
returns-in-Born-clause-opened g c =
    MatchResult-weaker c.recover.result c.recover.ensures.opened
    (λ o h text file d is.
    let size = at-file (g.D.Disk.told c.args.disk.now).reads file (λ (f : List ℕ). c.args.end ≡ length f) d.read c.requires.size in
    let state = subst (IsIn text file) c.in-Born.is (c.in_ok-state.ensures.state text file d.read size (tail_is text c.args.whole.now is)) in
    let later = still (g.D.Disk.told c.args.disk.now) (g.D.Disk.told c.find_state.new.disk) file c.in_ok-state.ensures.same c.find_state.ensures.quiet d in
    h text file later (headed_is c.in-Born.version text c.args.whole.now file is state)) (λ e free. free)

pub returns-in-Born-clause-refused : goal.returns-in-Born-clause-refused
returns-in-Born-clause-refused g c =
    MatchResult-weaker c.recover.result c.recover.ensures.refused (λ o free. free)
    (λ e h text file d is.
    let size = at-file (g.D.Disk.told c.args.disk.now).reads file (λ (f : List ℕ). c.args.end ≡ length f) d.read c.requires.size in
    let state = subst (IsIn text file) c.in-Born.is (c.in_ok-state.ensures.state text file d.read size (tail_is text c.args.whole.now is)) in
    let later = still (g.D.Disk.told c.args.disk.now) (g.D.Disk.told c.find_state.new.disk) file c.in_ok-state.ensures.same c.find_state.ensures.quiet d in
    h text file later (headed_is c.in-Born.version text c.args.whole.now file is state))

pub returns-in-Born-clause-any_moment : goal.returns-in-Born-clause-any_moment
returns-in-Born-clause-any_moment g c = λ text file list d is own stands.
    let size = at-file (g.D.Disk.told c.args.disk.now).reads file (λ (f : List ℕ). c.args.end ≡ length f) d.read c.requires.size in
    let state = subst (IsIn text file) c.in-Born.is (c.in_ok-state.ensures.state text file d.read size (tail_is text c.args.whole.now is)) in
    let later = still (g.D.Disk.told c.args.disk.now) (g.D.Disk.told c.find_state.new.disk) file c.in_ok-state.ensures.same c.find_state.ensures.quiet d in
    let headed = headed_is c.in-Born.version text c.args.whole.now file is state in
    let Q : List ℕ → Type 0 = λ k. (g.D.Disk.told c.args.disk.now).may_leave k ⊎ IsOwnFor text list k in
    leaves-weaker (g.D.Disk.told c.args.disk.now) (g.D.Disk.told c.recover.new.disk) (g.D.Disk.told c.args.disk.now).may_leave Q (λ k now. inl now)
    (quiet-then (g.D.Disk.told c.args.disk.now) (g.D.Disk.told c.find_state.new.disk) (g.D.Disk.told c.recover.new.disk) c.find_state.ensures.quiet
    (c.recover.ensures.quiet text file list later headed (own_kept c.in-Born.version text (length c.args.whole.now - 1) file list headed own stands)))

pub returns-in-Unborn-clause-opened : goal.returns-in-Unborn-clause-opened
returns-in-Unborn-clause-opened g c =
    MatchResult-weaker c.bear.result c.bear.ensures.opened
    (λ o h text file d is.
    let size = at-file (g.D.Disk.told c.args.disk.now).reads file (λ (f : List ℕ). c.args.end ≡ length f) d.read c.requires.size in
    let state = subst (IsIn text file) c.in-Unborn.is (c.in_ok-state.ensures.state text file d.read size (tail_is text c.args.whole.now is)) in
    let later = still (g.D.Disk.told c.args.disk.now) (g.D.Disk.told c.find_state.new.disk) file c.in_ok-state.ensures.same c.find_state.ensures.quiet d in
    h text file later is state.0) (λ e free. free)

pub returns-in-Unborn-clause-refused : goal.returns-in-Unborn-clause-refused
returns-in-Unborn-clause-refused g c = MatchResult-weaker c.bear.result c.bear.ensures.free (λ o free. free) (λ e h text file d is. inl h)

pub returns-in-Unborn-clause-any_moment : goal.returns-in-Unborn-clause-any_moment
returns-in-Unborn-clause-any_moment g c = λ text file list d is own stands.
    let size = at-file (g.D.Disk.told c.args.disk.now).reads file (λ (f : List ℕ). c.args.end ≡ length f) d.read c.requires.size in
    let state = subst (IsIn text file) c.in-Unborn.is (c.in_ok-state.ensures.state text file d.read size (tail_is text c.args.whole.now is)) in
    let later = still (g.D.Disk.told c.args.disk.now) (g.D.Disk.told c.find_state.new.disk) file c.in_ok-state.ensures.same c.find_state.ensures.quiet d in
    let Q : List ℕ → Type 0 = λ k. (g.D.Disk.told c.args.disk.now).may_leave k ⊎ IsOwnFor text list k in
    goes_further (g.D.Disk.told c.args.disk.now) (g.D.Disk.told c.find_state.new.disk) (g.D.Disk.told c.bear.new.disk) Q
    (leaves-weaker (g.D.Disk.told c.args.disk.now) (g.D.Disk.told c.find_state.new.disk) (g.D.Disk.told c.args.disk.now).may_leave Q (λ k now. inl now) c.find_state.ensures.quiet)
    (leaves-weaker (g.D.Disk.told c.find_state.new.disk) (g.D.Disk.told c.bear.new.disk) (IsOwnFor text []) Q
    (λ k own_now. inr (subst (λ (l : List Entry). IsOwnFor text l k) (sym (unborn_empty text file list state.0 stands)) own_now))
    (c.bear.ensures.any_moment text file later state.0 own is))

pub returns-in-Zeroed-clause-opened : goal.returns-in-Zeroed-clause-opened
returns-in-Zeroed-clause-opened g c =
    MatchResult-weaker c.bear-in-Zeroed.result c.bear-in-Zeroed.ensures.opened
    (λ o h text file d is.
    let size = at-file (g.D.Disk.told c.args.disk.now).reads file (λ (f : List ℕ). c.args.end ≡ length f) d.read c.requires.size in
    let state = subst (IsIn text file) c.in-Zeroed.is (c.in_ok-state.ensures.state text file d.read size (tail_is text c.args.whole.now is)) in
    let later = still (g.D.Disk.told c.args.disk.now) (g.D.Disk.told c.find_state.new.disk) file c.in_ok-state.ensures.same c.find_state.ensures.quiet d in
    h text file later is state.0) (λ e free. free)

pub returns-in-Zeroed-clause-refused : goal.returns-in-Zeroed-clause-refused
returns-in-Zeroed-clause-refused g c = MatchResult-weaker c.bear-in-Zeroed.result c.bear-in-Zeroed.ensures.free (λ o free. free) (λ e h text file d is. inl h)

pub returns-in-Zeroed-clause-any_moment : goal.returns-in-Zeroed-clause-any_moment
returns-in-Zeroed-clause-any_moment g c = λ text file list d is own stands.
    let size = at-file (g.D.Disk.told c.args.disk.now).reads file (λ (f : List ℕ). c.args.end ≡ length f) d.read c.requires.size in
    let state = subst (IsIn text file) c.in-Zeroed.is (c.in_ok-state.ensures.state text file d.read size (tail_is text c.args.whole.now is)) in
    let later = still (g.D.Disk.told c.args.disk.now) (g.D.Disk.told c.find_state.new.disk) file c.in_ok-state.ensures.same c.find_state.ensures.quiet d in
    let Q : List ℕ → Type 0 = λ k. (g.D.Disk.told c.args.disk.now).may_leave k ⊎ IsOwnFor text list k in
    goes_further (g.D.Disk.told c.args.disk.now) (g.D.Disk.told c.find_state.new.disk) (g.D.Disk.told c.bear-in-Zeroed.new.disk) Q
    (leaves-weaker (g.D.Disk.told c.args.disk.now) (g.D.Disk.told c.find_state.new.disk) (g.D.Disk.told c.args.disk.now).may_leave Q (λ k now. inl now) c.find_state.ensures.quiet)
    (leaves-weaker (g.D.Disk.told c.find_state.new.disk) (g.D.Disk.told c.bear-in-Zeroed.new.disk) (IsOwnFor text []) Q
    (λ k own_now. inr (subst (λ (l : List Entry). IsOwnFor text l k) (sym (unborn_empty text file list state.0 stands)) own_now))
    (c.bear-in-Zeroed.ensures.any_moment text file later state.0 own is))

pub returns-in_err-state-clause-untouched : goal.returns-in_err-state-clause-untouched
returns-in_err-state-clause-untouched g c =
    let p = err_from_is_err_and c.from_residual.result c.from_residual.ensures.1 in
    rw (p.1, p.2) (inr c.find_state.ensures.quiet)

pub returns-in-Born-clause-untouched : goal.returns-in-Born-clause-untouched
returns-in-Born-clause-untouched g c =
    MatchResult-weaker c.recover.result c.recover.ensures.untouched (λ o free. free)
    (λ e left. elim left [
      | inl free ↦ inl free
      | inr quiet ↦ inr (quiet-then (g.D.Disk.told c.args.disk.now) (g.D.Disk.told c.find_state.new.disk) (g.D.Disk.told c.recover.new.disk) c.find_state.ensures.quiet quiet)
    ])

pub returns-in-Unborn-clause-untouched : goal.returns-in-Unborn-clause-untouched
returns-in-Unborn-clause-untouched g c = MatchResult-weaker c.bear.result c.bear.ensures.free (λ o free. free) (λ e h. inl h)

pub returns-in-Zeroed-clause-untouched : goal.returns-in-Zeroed-clause-untouched
returns-in-Zeroed-clause-untouched g c = MatchResult-weaker c.bear-in-Zeroed.result c.bear-in-Zeroed.ensures.free (λ o free. free) (λ e h. inl h)

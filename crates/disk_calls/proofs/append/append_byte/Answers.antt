use Rattle.std.proofs.Common.{◌≡◌, ◌≤◌, ℕ, List, [], ◌∷◌, ◌++◌, length, inl, inr, refl, arith, rules}
use Rattle.std.proofs.lemmas.List.{append-nil}
use Rattle.disk_calls.specs.Disks.{DiskTold, Torn, Only, IsSameOrLonger, LeavesBy, LeavesNothingNew, Elapses, LeavesOnly}
use Rattle.disk_calls.proofs.Calling.{at-file}
use Rattle.disk_calls.proofs.Moments.{started, goes_on-kept, goes_on-behind, now-has}
use Rattle.disk_calls.proofs.append.append_byte.Goals as goal

-- at most one byte behind the file
one_more : (file rest : List ℕ) → length rest ≤ 1 → IsSameOrLonger file (file ++ rest)
one_more file [] le = inl (append-nil file)
one_more file (byte ∷ []) le = inr (byte, refl)
one_more file (byte ∷ next ∷ rest) le = absurd (omega arith)

-- the file is measured
measured : (old mid : DiskTold) (file : List ℕ) → Only file old.may_leave → Elapses old mid → LeavesNothingNew old mid → LeavesOnly old mid (λ c. c ≡ file)
measured old mid file only call crash = goes_on-kept old old mid (λ c. c ≡ file) (started old (λ c. c ≡ file) only) call crash

-- and a byte written behind it
appended : (old mid new : DiskTold) (file : List ℕ) (end : ℕ) → Only file old.may_leave → Elapses old mid → LeavesNothingNew old mid → end ≡ length file → Elapses mid new
    → LeavesBy (Torn end 1) mid new → LeavesOnly old new (IsSameOrLonger file)
appended old mid new file end only first kept at_end second torn =
    goes_on-behind old mid new (IsSameOrLonger file) file end 1
    (goes_on-kept old old mid (IsSameOrLonger file) (started old (IsSameOrLonger file) (λ c now. inl (only c now))) first kept) second torn
    (now-has old mid (λ c. c ≡ file) (measured old mid file only first kept)) at_end (one_more file)

pub returns-in_err-end-clause-any_moment : goal.returns-in_err-end-clause-any_moment
returns-in_err-end-clause-any_moment g c = λ file is only.
    let old = g.D.Disk.told c.args.disk.now in
    goes_on-kept old old (g.D.Disk.told c.len.new.self) (IsSameOrLonger file) (started old (IsSameOrLonger file) (λ k now. inl (only k now))) c.len.ensures.goes_on.time c.len.ensures.crash

pub returns-in_err-write_at-clause-any_moment : goal.returns-in_err-write_at-clause-any_moment
returns-in_err-write_at-clause-any_moment g c = λ file is only.
    let old = g.D.Disk.told c.args.disk.now in
    let at_end = at-file old.reads file (λ f. c.in_ok-end.end ≡ length f) is c.in_ok-end.ensures.length in
    appended old (g.D.Disk.told c.len.new.self) (g.D.Disk.told c.write_at.new.self) file c.in_ok-end.end only c.len.ensures.goes_on.time c.len.ensures.crash at_end
    c.write_at.ensures.goes_on.time c.write_at.ensures.crash

pub returns-clause-any_moment : goal.returns-clause-any_moment
returns-clause-any_moment g c = λ file is only.
    let old = g.D.Disk.told c.args.disk.now in
    let at_end = at-file old.reads file (λ f. c.in_ok-end.end ≡ length f) is c.in_ok-end.ensures.length in
    let wrote = appended old (g.D.Disk.told c.len.new.self) (g.D.Disk.told c.write_at.new.self) file c.in_ok-end.end only c.len.ensures.goes_on.time c.len.ensures.crash at_end
    c.write_at.ensures.goes_on.time c.write_at.ensures.crash in
    goes_on-kept old (g.D.Disk.told c.write_at.new.self) _ (IsSameOrLonger file) wrote (search rules) (search rules)

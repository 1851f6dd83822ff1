use Rattle.std.proofs.Common.{◌≡◌, ◌⊎◌, ◌-◌, max, ℕ, List, length, inl, inr, refl, ap, subst, sym, arith}
use Rattle.std.specs.Prelude.{IfSome}
use Rattle.std.proofs.lemmas.Result.{err_from_is_err_and}
use Rattle.disk_calls.proofs.Calling.{at-file}
use Rattle.journal_format.specs.Faults.{IsFree}
use Rattle.journal_format.specs.Records.{IsBadBehind}
use Rattle.node_journal.specs.Journals.{Ready}
use Rattle.node_journal.specs.Found.{IsFoundFrom}
use Rattle.node_journal.proofs.Runs.{reaches-known, quiet-then, still, still_settled}
use Rattle.node_journal.proofs.Openings.{recovered, refused-least, gate_there, found-least}
use Rattle.node_journal.proofs.journal.recover.Goals as goal

pub read_records-requires-clause-known : goal.read_records-requires-clause-known
read_records-requires-clause-known g c = λ tells.
    let was = c.requires.settled tells in
    let size = at-file (g.D.Disk.told c.args.disk.now).reads was.0 (λ (f : List ℕ). c.args.end ≡ length f) was.1.read c.requires.size in
    reaches-known (g.D.Disk.told c.args.disk.now).reads was.0 c.args.end was.1.read (omega arith)

pub shut-requires-clause-settled : goal.shut-requires-clause-settled
shut-requires-clause-settled g c =
    still_settled (g.D.Disk.told c.args.disk.now) (g.D.Disk.told c.read_records.new.disk) c.read_records.ensures.same_disk c.in_ok-found.ensures.same c.read_records.ensures.quiet c.requires.settled

pub shut-requires-clause-size : goal.shut-requires-clause-size
shut-requires-clause-size g c = subst (λ o. IfSome o (λ (f : List ℕ). c.args.end ≡ length f)) (sym c.in_ok-found.ensures.same) c.requires.size

pub at-requires : goal.at-requires
at-requires g c =
    let reached = c.in_ok-found.ensures.reached in
    record { near = omega (arith, reached, c.requires.end); framed = c.requires.room.framed; small = c.requires.room.small }

pub returns-in_err-found-clause-refused : goal.returns-in_err-found-clause-refused
returns-in_err-found-clause-refused g c =
    let p = err_from_is_err_and c.from_residual-in_err-found.result c.from_residual-in_err-found.ensures.1 in
    rw (p.1, p.2)
    (λ text file d headed.
    let size = at-file (g.D.Disk.told c.args.disk.now).reads file (λ (f : List ℕ). c.args.end ≡ length f) d.read c.requires.size in
    let same : length c.as_mut_slice.result.now ≡ max (length c.args.room.items - 5) 1 = omega (arith, c.as_mut_slice.ensures.len, c.in_ok-payload.ensures.len, c.max.ensures, c.len.ensures, c.args.room.ok.0) in
    refused-least c.args.version text c.args.start (length c.args.room.items - 5) file headed c.in_err-found.field-0.0
    (subst (λ (n : ℕ). IsFree c.in_err-found.field-0.0 ⊎ IsBadBehind c.args.version n c.args.start file c.in_err-found.field-0.0) same (c.in_err-found.ensures.bad file d.read size)))

pub returns-in_err-found-clause-quiet : goal.returns-in_err-found-clause-quiet
returns-in_err-found-clause-quiet g c = λ text file list d headed kept. c.read_records.ensures.quiet

pub returns-in_err-shut-clause-refused : goal.returns-in_err-shut-clause-refused
returns-in_err-shut-clause-refused g c =
    let p = err_from_is_err_and c.from_residual-in_err-shut.result c.from_residual-in_err-shut.ensures.1 in
    rw (p.1, p.2) (λ text file d headed. inl (inl refl))

pub returns-in_err-shut-clause-quiet : goal.returns-in_err-shut-clause-quiet
returns-in_err-shut-clause-quiet g c = λ text file list d headed kept.
    let size = at-file (g.D.Disk.told c.args.disk.now).reads file (λ (f : List ℕ). c.args.end ≡ length f) d.read c.requires.size in
    let read = c.in_ok-found.ensures.read file d.read size in
    let there = gate_there c.args.version text c.args.start (length c.as_mut_slice.result.now) file headed list c.in_ok-found.found kept read.0 read.1 in
    quiet-then (g.D.Disk.told c.args.disk.now) (g.D.Disk.told c.read_records.new.disk) (g.D.Disk.told c.shut.new.disk)
    c.read_records.ensures.quiet (c.shut.ensures.quiet (omega (arith, there, size)))

pub returns-clause-opened : goal.returns-clause-opened
returns-clause-opened g c = λ text file d headed.
    let size = at-file (g.D.Disk.told c.args.disk.now).reads file (λ (f : List ℕ). c.args.end ≡ length f) d.read c.requires.size in
    let read = c.in_ok-found.ensures.read file d.read size in
    let same : length c.as_mut_slice.result.now ≡ max (length c.args.room.items - 5) 1 = omega (arith, c.as_mut_slice.ensures.len, c.in_ok-payload.ensures.len, c.max.ensures, c.len.ensures, c.args.room.ok.0) in
    let found = found-least c.args.version (length c.args.room.items - 5) c.args.start file c.in_ok-found.found
    (subst (λ (n : ℕ). IsFoundFrom c.args.version n c.args.start file c.in_ok-found.found) same read.0) in
    let mid = still (g.D.Disk.told c.args.disk.now) (g.D.Disk.told c.read_records.new.disk) file c.in_ok-found.ensures.same c.read_records.ensures.quiet d in
    let done = c.in_ok-shut.ensures.on_disk file mid size read.1 in
    recovered c.args.version text c.args.start (length c.args.room.items - 5) file headed c.in_ok-found.found done.0 c.at.result.next
    (g.D.Disk.told c.shut.new.disk) found read.1 done.1 done.2 done.3 (ap (λ (r : Ready). r.next) c.at.ensures)

pub returns-clause-quiet : goal.returns-clause-quiet
returns-clause-quiet g c = λ text file list d headed kept.
    let size = at-file (g.D.Disk.told c.args.disk.now).reads file (λ (f : List ℕ). c.args.end ≡ length f) d.read c.requires.size in
    let read = c.in_ok-found.ensures.read file d.read size in
    let there = gate_there c.args.version text c.args.start (length c.as_mut_slice.result.now) file headed list c.in_ok-found.found kept read.0 read.1 in
    quiet-then (g.D.Disk.told c.args.disk.now) (g.D.Disk.told c.read_records.new.disk) (g.D.Disk.told c.shut.new.disk)
    c.read_records.ensures.quiet (c.shut.ensures.quiet (omega (arith, there, size)))

pub returns-in_err-found-clause-untouched : goal.returns-in_err-found-clause-untouched
returns-in_err-found-clause-untouched g c =
    let p = err_from_is_err_and c.from_residual-in_err-found.result c.from_residual-in_err-found.ensures.1 in
    rw (p.1, p.2) (inr c.read_records.ensures.quiet)

pub returns-in_err-shut-clause-untouched : goal.returns-in_err-shut-clause-untouched
returns-in_err-shut-clause-untouched g c =
    let p = err_from_is_err_and c.from_residual-in_err-shut.result c.from_residual-in_err-shut.ensures.1 in
    rw (p.1, p.2) (inl (inl refl))

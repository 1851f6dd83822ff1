use Rattle.std.proofs.Common.{◌≡◌, ◌≤◌, inr, List, ℕ, length, vec_len, Err, refl, sym, ap, subst, arith, rules}
use Rattle.std.proofs.lemmas.Result.{err_from_is_err_and}
use Rattle.shelf_calls.specs.Files.{HasFile}
use Rattle.run_status.proofs.Quiet.{quiet_behind}
use Rattle.job_commands.specs.Handed.{most_jobs}
use Rattle.gather_command.proofs.Saying.{says-in, unsaid-in, unsaid-shelf}
use Rattle.gather_command.proofs.answers.answers_in.Goals as goal

pub returns-clause-says : goal.returns-clause-says
returns-clause-says g c =
    let room : length c.in_ok-bytes.bytes.items ≡ vec_len c.in_ok-bytes.bytes = search rules in
    let short : length c.in_ok-bytes.bytes.items ≤ most_jobs = omega (arith, room, c.in_ok-bytes.ensures.short) in
    says-in (g.S.Shelf.told c.args.shelf.now).files c.args.name.now c.deref.result.now c.said_by.result
    (subst (λ (b : List ℕ). HasFile (g.S.Shelf.told c.args.shelf.now).files c.args.name.now b) (sym c.deref.ensures.value) c.in_ok-bytes.ensures.found)
    (subst (λ (b : List ℕ). length b ≤ most_jobs) (sym c.deref.ensures.value) short) c.said_by.ensures.say

pub returns-clause-unsaid : goal.returns-clause-unsaid
returns-clause-unsaid g c = unsaid-in c.args.name.now (g.S.Shelf.told c.args.shelf.now) (g.S.Shelf.told c.read_all.new.self) c.said_by.result c.said_by.ensures.memory

pub returns-clause-quiet : goal.returns-clause-quiet
returns-clause-quiet g c = quiet_behind c.in_ok-bytes.ensures.quiet (inr refl)

pub returns-in_err-bytes-clause-unsaid : goal.returns-in_err-bytes-clause-unsaid
returns-in_err-bytes-clause-unsaid g c =
    let p = err_from_is_err_and c.from_residual.result c.from_residual.ensures.1 in
    rw (p.1, p.2) (unsaid-shelf c.args.name.now (g.S.Shelf.told c.args.shelf.now) (g.S.Shelf.told c.read_all.new.self) c.in_err-bytes.field-0.0
    (λ e. c.in_err-bytes.ensures.failed (ap (λ f. Err f) e)) (λ e. c.in_err-bytes.ensures.too_long (ap (λ f. Err f) e)))

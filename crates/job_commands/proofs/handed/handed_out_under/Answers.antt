use Rattle.std.proofs.Common.{◌≡◌, ◌≤◌, inr, List, ℕ, length, vec_len, Err, refl, sym, ap, subst, ◌∙◌, arith, rules}
use Rattle.shelf_calls.specs.Files.{HasFile}
use Rattle.pool_model.specs.Network.{net_of}
use Rattle.run_status.proofs.Quiet.{failed_told, quiet_behind}
use Rattle.job_commands.specs.Handed.{most_jobs, unhanded_by}
use Rattle.job_commands.proofs.JobFiles.{handed-in, unhanded-in, unhanded-shelf}
use Rattle.job_commands.proofs.handed.handed_out_under.Goals as goal

pub returns-in-Ok-clause-handed : goal.returns-in-Ok-clause-handed
returns-in-Ok-clause-handed g c =
    let room : length c.in-Ok.bytes.items ≡ vec_len c.in-Ok.bytes = search rules in
    let short : length c.in-Ok.bytes.items ≤ most_jobs = omega (arith, room, c.in-Ok.ensures.short) in
    handed-in (g.S.Shelf.told c.args.shelf.now).files c.args.name.now c.deref.result.now (net_of c.args.net.now) c.handed_out.result
    (subst (λ (b : List ℕ). HasFile (g.S.Shelf.told c.args.shelf.now).files c.args.name.now b) (sym c.deref.ensures.value) c.in-Ok.ensures.found)
    (subst (λ (b : List ℕ). length b ≤ most_jobs) (sym c.deref.ensures.value) short) c.handed_out.ensures.handed

pub returns-in-Ok-clause-unhanded : goal.returns-in-Ok-clause-unhanded
returns-in-Ok-clause-unhanded g c =
    let room : length c.in-Ok.bytes.items ≡ vec_len c.in-Ok.bytes = search rules in
    let short : length c.in-Ok.bytes.items ≤ most_jobs = omega (arith, room, c.in-Ok.ensures.short) in
    unhanded-in (net_of c.args.net.now) c.args.name.now c.deref.result.now (g.S.Shelf.told c.args.shelf.now) (g.S.Shelf.told c.read_all.new.self) c.handed_out.result
    (subst (λ (b : List ℕ). HasFile (g.S.Shelf.told c.args.shelf.now).files c.args.name.now b) (sym c.deref.ensures.value) c.in-Ok.ensures.found)
    (subst (λ (b : List ℕ). length b ≤ most_jobs) (sym c.deref.ensures.value) short) c.handed_out.ensures.refused

pub returns-in-Ok-clause-quiet : goal.returns-in-Ok-clause-quiet
returns-in-Ok-clause-quiet g c = quiet_behind c.in-Ok.ensures.quiet (inr refl)

pub returns-in-Err-clause-unhanded : goal.returns-in-Err-clause-unhanded
returns-in-Err-clause-unhanded g c =
    unhanded-shelf (net_of c.args.net.now) c.args.name.now (g.S.Shelf.told c.args.shelf.now) (g.S.Shelf.told c.read_all.new.self) c.in-Err.fault c.from.result c.from.ensures
    (λ e. c.in-Err.ensures.failed (ap (λ f. Err f) e)) (λ e. c.in-Err.ensures.too_long (ap (λ f. Err f) e))

pub returns-in-Err-clause-quiet : goal.returns-in-Err-clause-quiet
returns-in-Err-clause-quiet g c = failed_told (λ e. ap (λ why. Err why) (c.from.ensures ∙ ap unhanded_by e)) c.in-Err.ensures.quiet

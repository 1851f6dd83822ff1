use Rattle.std.proofs.Common.{◌≡◌, ◌≤◌, inr, List, ℕ, length, vec_len, Err, refl, sym, ap, subst, ◌∙◌, arith, rules}
use Rattle.shelf_calls.specs.Files.{HasFile}
use Rattle.cert_lengths.specs.Lengths.{most_bytes}
use Rattle.pool_model.specs.Network.{net_of}
use Rattle.run_status.proofs.Quiet.{failed_told, quiet_behind}
use Rattle.tight_commands.specs.Certified.{uncertified_by}
use Rattle.tight_commands.proofs.Certificates.{err-took, err-uncertified, ok-certified, uncertified-shelf}
use Rattle.tight_commands.proofs.certified.certified_under.Goals as goal

pub returns-in-Ok-clause-certified : goal.returns-in-Ok-clause-certified
returns-in-Ok-clause-certified g c =
    let room : length c.in-Ok.bytes.items ≡ vec_len c.in-Ok.bytes = search rules in
    let short : length c.in-Ok.bytes.items ≤ most_bytes = omega (arith, room, c.in-Ok.ensures.short) in
    ok-certified (g.S.Shelf.told c.args.shelf.now).files c.args.name.now (net_of c.args.net.now) c.deref.result.now
    (subst (λ (b : List ℕ). HasFile (g.S.Shelf.told c.args.shelf.now).files c.args.name.now b) (sym c.deref.ensures.value) c.in-Ok.ensures.found)
    (subst (λ (b : List ℕ). length b ≤ most_bytes) (sym c.deref.ensures.value) short) c.certified.result c.certified.ensures.certified

pub returns-in-Ok-clause-uncertified : goal.returns-in-Ok-clause-uncertified
returns-in-Ok-clause-uncertified g c =
    let room : length c.in-Ok.bytes.items ≡ vec_len c.in-Ok.bytes = search rules in
    let short : length c.in-Ok.bytes.items ≤ most_bytes = omega (arith, room, c.in-Ok.ensures.short) in
    err-uncertified c.args.name.now (net_of c.args.net.now) c.deref.result.now (g.S.Shelf.told c.args.shelf.now) (g.S.Shelf.told c.read_all.new.self)
    (subst (λ (b : List ℕ). HasFile (g.S.Shelf.told c.args.shelf.now).files c.args.name.now b) (sym c.deref.ensures.value) c.in-Ok.ensures.found)
    (subst (λ (b : List ℕ). length b ≤ most_bytes) (sym c.deref.ensures.value) short) c.certified.result c.certified.ensures.refused

pub returns-in-Ok-clause-took : goal.returns-in-Ok-clause-took
returns-in-Ok-clause-took g c =
    let room : length c.in-Ok.bytes.items ≡ vec_len c.in-Ok.bytes = search rules in
    let short : length c.in-Ok.bytes.items ≤ most_bytes = omega (arith, room, c.in-Ok.ensures.short) in
    err-took (g.S.Shelf.told c.args.shelf.now).files c.args.name.now (net_of c.args.net.now) c.deref.result.now
    (subst (λ (b : List ℕ). HasFile (g.S.Shelf.told c.args.shelf.now).files c.args.name.now b) (sym c.deref.ensures.value) c.in-Ok.ensures.found)
    (subst (λ (b : List ℕ). length b ≤ most_bytes) (sym c.deref.ensures.value) short) (g.K.Sink.taken c.args.out.now) (g.K.Sink.taken c.certified.new.out)
    c.certified.result c.certified.ensures.took

pub returns-in-Ok-clause-quiet : goal.returns-in-Ok-clause-quiet
returns-in-Ok-clause-quiet g c = quiet_behind c.in-Ok.ensures.quiet (inr refl)

pub returns-in-Err-clause-uncertified : goal.returns-in-Err-clause-uncertified
returns-in-Err-clause-uncertified g c =
    uncertified-shelf (net_of c.args.net.now) c.args.name.now (g.S.Shelf.told c.args.shelf.now) (g.S.Shelf.told c.read_all.new.self) c.in-Err.fault c.from.result c.from.ensures
    (λ e. c.in-Err.ensures.failed (ap (λ f. Err f) e)) (λ e. c.in-Err.ensures.too_long (ap (λ f. Err f) e))

pub returns-in-Err-clause-quiet : goal.returns-in-Err-clause-quiet
returns-in-Err-clause-quiet g c = failed_told (λ e. ap (λ why. Err why) (c.from.ensures ∙ ap uncertified_by e)) c.in-Err.ensures.quiet

use Rattle.std.proofs.Common.{◌≡◌, ◌≤◌, inr, List, ℕ, length, vec_len, Err, refl, sym, ap, subst, arith, rules}
use Rattle.shelf_calls.specs.Files.{HasFile}
use Rattle.pool_model.specs.Network.{net_of}
use Rattle.cert_format.specs.Views.{shown_cert}
use Rattle.run_status.proofs.Quiet.{failed_told, quiet_behind}
use Rattle.tight_commands.specs.Marked.{most_text}
use Rattle.tight_commands.specs.CheckTightEnds.{MarksLineOn, TextIn, check_tight_status, unread_text_status}
use Rattle.tight_commands.specs.TextEnds.{TextLineIn}
use Rattle.tight_commands.proofs.CheckDone.{failed-is, judged-ends, judged-not-read, took-text, took-unread, unread-ends, unread-not-written}
use Rattle.tight_commands.proofs.checking.check_text.Goals as goal

pub returns-in-Ok-clause-took : goal.returns-in-Ok-clause-took
returns-in-Ok-clause-took g c =
    let room : length c.in-Ok.bytes.items ≡ vec_len c.in-Ok.bytes = search rules in
    let short : length c.in-Ok.bytes.items ≤ most_text = omega (arith, room, c.in-Ok.ensures.short) in
    let file : TextIn (g.S.Shelf.told c.args.shelf.now).files c.args.tight.now c.in-Ok.bytes.items = record { file = c.in-Ok.ensures.found; short = short } in
    took-text (g.S.Shelf.told c.args.shelf.now).files c.args.tight.now (net_of c.args.network.now) (shown_cert c.args.certificate.now) c.deref.result.now
    (check_tight_status c.judge_text.result) (g.K.Sink.taken c.args.out.now) (g.K.Sink.taken c.judge_text.new.out)
    (subst (λ (b : List ℕ). TextIn (g.S.Shelf.told c.args.shelf.now).files c.args.tight.now b) (sym c.deref.ensures.value) file) c.judge_text.ensures.took

pub returns-in-Ok-clause-ends : goal.returns-in-Ok-clause-ends
returns-in-Ok-clause-ends g c =
    let room : length c.in-Ok.bytes.items ≡ vec_len c.in-Ok.bytes = search rules in
    let short : length c.in-Ok.bytes.items ≤ most_text = omega (arith, room, c.in-Ok.ensures.short) in
    let file : TextIn (g.S.Shelf.told c.args.shelf.now).files c.args.tight.now c.in-Ok.bytes.items = record { file = c.in-Ok.ensures.found; short = short } in
    judged-ends (g.S.Shelf.told c.args.shelf.now).files c.args.tight.now (net_of c.args.network.now) (shown_cert c.args.certificate.now) c.deref.result.now
    (g.S.Shelf.told c.args.shelf.now).taken (g.S.Shelf.told c.read_all.new.self).taken c.judge_text.result
    (subst (λ (b : List ℕ). TextIn (g.S.Shelf.told c.args.shelf.now).files c.args.tight.now b) (sym c.deref.ensures.value) file) c.judge_text.ensures.ends

pub returns-in-Ok-clause-read_fault : goal.returns-in-Ok-clause-read_fault
returns-in-Ok-clause-read_fault g c = λ e.
    absurd (judged-not-read (net_of c.args.network.now) (shown_cert c.args.certificate.now) c.deref.result.now c.judge_text.result c.judge_text.ensures.ends e)

pub returns-in-Ok-clause-quiet : goal.returns-in-Ok-clause-quiet
returns-in-Ok-clause-quiet g c = quiet_behind c.in-Ok.ensures.quiet (inr refl)

pub returns-in-Err-clause-took : goal.returns-in-Err-clause-took
returns-in-Err-clause-took g c =
    took-unread (TextLineIn (g.S.Shelf.told c.args.shelf.now).files c.args.tight.now (net_of c.args.network.now) (shown_cert c.args.certificate.now)) c.in-Err.fault (g.K.Sink.taken c.args.out.now)

pub returns-in-Err-clause-ends : goal.returns-in-Err-clause-ends
returns-in-Err-clause-ends g c =
    unread-ends (g.S.Shelf.told c.args.shelf.now).files c.args.tight.now (net_of c.args.network.now) (shown_cert c.args.certificate.now) (g.S.Shelf.told c.args.shelf.now).taken
    (g.S.Shelf.told c.read_all.new.self).taken c.in-Err.fault (λ e. c.in-Err.ensures.too_long (ap (λ f. Err f) e))

pub returns-in-Err-clause-read_fault : goal.returns-in-Err-clause-read_fault
returns-in-Err-clause-read_fault g c = λ e. c.in-Err.ensures.failed (ap (λ f. Err f) (failed-is c.in-Err.fault e))

pub returns-in-Err-clause-quiet : goal.returns-in-Err-clause-quiet
returns-in-Err-clause-quiet g c = failed_told (λ e. ap unread_text_status e) c.in-Err.ensures.quiet

pub returns-in-Err-clause-write_fault : goal.returns-in-Err-clause-write_fault
returns-in-Err-clause-write_fault g c = λ e. absurd (unread-not-written c.in-Err.fault e)

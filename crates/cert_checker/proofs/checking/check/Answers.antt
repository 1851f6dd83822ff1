-- The check of a text is that of a file that holds it.
use Rattle.std.proofs.Common.{◌≡◌, List, ℕ, Some, Ok, Err, length, ap, subst, arith}
use Rattle.pool_model.specs.Network.{net_of}
use Rattle.proof_lines.specs.declared.stream_refusal.StreamRefusal.{StreamRefusal}
use Rattle.cert_checker.specs.Streams.{IsAnswer, IsStreamedAs}
use Rattle.cert_checker.proofs.Texts.{text-answer, never-refused}
use Rattle.cert_checker.proofs.checking.check.Goals as goal

pub returns-in-Ok-clause-accepted : goal.returns-in-Ok-clause-accepted
returns-in-Ok-clause-accepted c =
    let told : Some c.new-shelf.result.rest.now ≡ Some c.args.bytes.now = ap (λ (x : List ℕ). Some x) c.new-shelf.ensures.rest in
    (text-answer (net_of c.args.net.now) c.args.bytes.now (Some c.new-shelf.result.rest.now) (length c.args.bytes.now) (Ok c.in-Ok.claim) told c.in-Ok.ensures.checked).0

pub returns-in-Ok-clause-follows : goal.returns-in-Ok-clause-follows
returns-in-Ok-clause-follows c =
    let told : Some c.new-shelf.result.rest.now ≡ Some c.args.bytes.now = ap (λ (x : List ℕ). Some x) c.new-shelf.ensures.rest in
    (text-answer (net_of c.args.net.now) c.args.bytes.now (Some c.new-shelf.result.rest.now) (length c.args.bytes.now) (Ok c.in-Ok.claim) told c.in-Ok.ensures.checked).1

pub returns-in-Ok-clause-valid : goal.returns-in-Ok-clause-valid
returns-in-Ok-clause-valid c = λ cert spelled valid.
    c.in-Ok.ensures.valid c.args.bytes.now cert (ap (λ (x : List ℕ). Some x) c.new-shelf.ensures.rest) (omega arith) spelled valid

pub returns-in-Err-Refused-clause-refused : goal.returns-in-Err-Refused-clause-refused
returns-in-Err-Refused-clause-refused c =
    let told : Some c.new-shelf.result.rest.now ≡ Some c.args.bytes.now = ap (λ (x : List ℕ). Some x) c.new-shelf.ensures.rest in
    let answer = text-answer (net_of c.args.net.now) c.args.bytes.now (Some c.new-shelf.result.rest.now) (length c.args.bytes.now)
    (Err c.in-Err-Refused.field-0) told c.in-Err-Refused.ensures.checked in
    (subst (λ (s : StreamRefusal). IsAnswer (net_of c.args.net.now) c.args.bytes.now (length c.args.bytes.now) (Err s)) c.in-Err-Refused.field-0-is answer).0

pub returns-in-Err-Refused-clause-valid : goal.returns-in-Err-Refused-clause-valid
returns-in-Err-Refused-clause-valid c = λ cert spelled valid.
    absurd (never-refused cert.claim c.in-Err-Refused.refusal (subst (λ (s : StreamRefusal). IsStreamedAs cert.claim (Err s)) c.in-Err-Refused.field-0-is
    (c.in-Err-Refused.ensures.valid c.args.bytes.now cert (ap (λ (x : List ℕ). Some x) c.new-shelf.ensures.rest) (omega arith) spelled valid)))

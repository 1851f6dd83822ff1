use Rattle.std.proofs.Common.{◌≡◌, ◌-◌, false, List, ℕ, length, drop, Ok, Err, sym, ap, subst, arith}
use Rattle.cert_text.specs.declared.fault.Stop.{Stop}
use Rattle.cert_text.specs.Reading.{At, Stops}
use Rattle.cert_items.specs.Items.{shown_item, next_at}
use Rattle.cert_stream.specs.Streams.{Reader, MayFollow, at_of}
use Rattle.cert_stream.proofs.Steps.{IsFull, alone, item-lines, step-kept, step-gives, step-faults}
use Rattle.cert_stream.proofs.cert_reader.CertReader.step.Goals as goal

pub keep_last-requires : goal.keep_last-requires
keep_last-requires c =
    let i = c.self.inside in
    let r : Reader = record { state = i.state; line = i.line; held = i.held; left = i.left; ended = i.ended } in
    let b : At = record { line = c.read_item.new.src.line; rest = c.read_item.new.src.rest.now } in
    let e : next_at r.state (alone r) ≡ Ok ((shown_item c.in-Ok.item, c.in-Ok.state), b) = rw (c.resume-src.ensures.line, c.resume-src.ensures.rest, c.as_slice.ensures) at c.in-Ok.ensures in
    omega (arith, ap length c.rest-count.ensures, (item-lines r (shown_item c.in-Ok.item, c.in-Ok.state) b e).0)

pub invariant_of-self : goal.invariant_of-self
invariant_of-self c =
    let i = c.self.inside in
    let r : Reader = record { state = i.state; line = i.line; held = i.held; left = i.left; ended = i.ended } in
    let b : At = record { line = c.read_item.new.src.line; rest = c.read_item.new.src.rest.now } in
    let e : next_at r.state (alone r) ≡ Ok ((shown_item c.in-Ok.item, c.in-Ok.state), b) = rw (c.resume-src.ensures.line, c.resume-src.ensures.rest, c.as_slice.ensures) at c.in-Ok.ensures in
    let held : c.keep_last.new.self ≡ drop (length i.held - length b.rest) i.held = rw c.rest-count.ensures at c.keep_last.ensures in
    let kept : c.keep_last.new.self ≡ b.rest = step-kept r (shown_item c.in-Ok.item, c.in-Ok.state) b c.keep_last.new.self e held in
    omega (arith, c.self.invariant, c.line-line.ensures, ap length kept, (item-lines r (shown_item c.in-Ok.item, c.in-Ok.state) b e).1)

pub returns-in-Ok-clause-item : goal.returns-in-Ok-clause-item
returns-in-Ok-clause-item c =
    let i = c.self.inside in
    let r : Reader = record { state = i.state; line = i.line; held = i.held; left = i.left; ended = i.ended } in
    let s : Reader = record { state = c.in-Ok.state; line = c.line-line.result; held = c.keep_last.new.self; left = i.left; ended = i.ended } in
    let b : At = record { line = c.read_item.new.src.line; rest = c.read_item.new.src.rest.now } in
    let e : next_at r.state (alone r) ≡ Ok ((shown_item c.in-Ok.item, c.in-Ok.state), b) = rw (c.resume-src.ensures.line, c.resume-src.ensures.rest, c.as_slice.ensures) at c.in-Ok.ensures in
    let held : c.keep_last.new.self ≡ drop (length i.held - length b.rest) i.held = rw c.rest-count.ensures at c.keep_last.ensures in
    let full : IsFull r = subst (λ (q : Reader). IsFull q) (sym c.self.view_is) c.requires in
    subst (λ (q : Reader). (more : List ℕ) → MayFollow q more → next_at q.state (at_of q more) ≡ Ok ((shown_item c.in-Ok.item, s.state), at_of s more)) c.self.view_is
    (step-gives r s (shown_item c.in-Ok.item) b full e c.line-line.ensures held)

pub returns-in-Ok-clause-some : goal.returns-in-Ok-clause-some
returns-in-Ok-clause-some c =
    let i = c.self.inside in
    let r : Reader = record { state = i.state; line = i.line; held = i.held; left = i.left; ended = i.ended } in
    let b : At = record { line = c.read_item.new.src.line; rest = c.read_item.new.src.rest.now } in
    let e : next_at r.state (alone r) ≡ Ok ((shown_item c.in-Ok.item, c.in-Ok.state), b) = rw (c.resume-src.ensures.line, c.resume-src.ensures.rest, c.as_slice.ensures) at c.in-Ok.ensures in
    let held : c.keep_last.new.self ≡ drop (length i.held - length b.rest) i.held = rw c.rest-count.ensures at c.keep_last.ensures in
    let kept : c.keep_last.new.self ≡ b.rest = step-kept r (shown_item c.in-Ok.item, c.in-Ok.state) b c.keep_last.new.self e held in
    omega (arith, ap (λ (q : Reader). length q.held) c.self.view_is, ap length kept, (item-lines r (shown_item c.in-Ok.item, c.in-Ok.state) b e).0)

pub returns-in-Err-Text-clause-fault : goal.returns-in-Err-Text-clause-fault
returns-in-Err-Text-clause-fault c =
    let i = c.self.inside in
    let r : Reader = record { state = i.state; line = i.line; held = i.held; left = i.left; ended = i.ended } in
    let full : IsFull r = subst (λ (q : Reader). IsFull q) (sym c.self.view_is) c.requires in
    let h : Stops c.in-Err-Text.field-0 false (next_at r.state (alone r)) = rw (c.resume-src.ensures.line, c.resume-src.ensures.rest, c.as_slice.ensures) at c.in-Err-Text.ensures in
    let e : next_at r.state (alone r) ≡ Err c.in-Err-Text.fault.line = subst (λ (x : Stop). Stops x false (next_at r.state (alone r))) c.in-Err-Text.field-0-is h in
    rw c.in-Err-Text.field-0-is (subst (λ (q : Reader). (more : List ℕ) → MayFollow q more → next_at q.state (at_of q more) ≡ Err c.in-Err-Text.fault.line) c.self.view_is
    (step-faults r c.in-Err-Text.fault.line full e))

use Rattle.std.proofs.Common.{◌≡◌, List, map, Some, None, IsTrue, ap, ◌∙◌}
use Rattle.pool_model.specs.Network.{net_of}
use Rattle.row_model.specs.Multipliers.{Proof}
use Rattle.row_book.specs.Views.{shown_value}
use Rattle.box_space.specs.Views.{shown_box, shown_part, shown_proof}
use Rattle.linear_program.specs.declared.multipliers.Part.{Part}
use Rattle.dual_rounding.specs.Programs.{has_row}
use Rattle.dual_rounding.specs.Tried.{tried}
use Rattle.dual_rounding.proofs.FormRows.{All-unmap}
use Rattle.dual_rounding.proofs.Leading.{answer-none, answer-some, known-none, known-some, not-true, not-false, price-known}
use Rattle.dual_rounding.proofs.NamedRows.{answer-named}
use Rattle.dual_rounding.proofs.rounding.Rounding.round.Goals as goal

pub returns-then-not-lead-clause-price : goal.returns-then-not-lead-clause-price
returns-then-not-lead-clause-price c =
    let n = net_of c.args.net.now in
    let b = shown_box c.args.v.now in
    let fallback = shown_value c.args.fallback in
    price-known n b c.args.lp.now c.args.advice.now fallback None c.in_ok-lead.ensures.limited c.requires.view.proper
    (answer-none n b (tried n c.args.lp.now c.args.advice.now) fallback c.in_ok-lead.lead (shown_proof c.try_all.new.self.best) c.in_ok-lead.ensures.leads
    (not-true c.in_ok-lead.lead.is_proved c.if-not-lead.true))

pub returns-clause-price : goal.returns-clause-price
returns-clause-price c =
    let n = net_of c.args.net.now in
    let b = shown_box c.args.v.now in
    let fallback = shown_value c.args.fallback in
    let scale = c.try_all.new.self.best.scale in
    let p : Proof = record { scale = scale; parts = map shown_part c.in_ok-parts.parts.items } in
    let same : p ≡ shown_proof c.try_all.new.self.best =
    ap (λ (parts : List Part). record { scale = scale; parts = map shown_part parts }) (c.in_ok-parts.ensures.items ∙ c.as_slice.ensures.value) in
    price-known n b c.args.lp.now c.args.advice.now fallback (Some p) c.in_ok-lead.ensures.limited c.requires.view.proper
    (answer-some n b (tried n c.args.lp.now c.args.advice.now) fallback c.in_ok-lead.lead (shown_proof c.try_all.new.self.best) c.in_ok-lead.ensures.leads
    (not-false c.in_ok-lead.lead.is_proved c.if-not-lead.false) p same)

pub returns-clause-form : goal.returns-clause-form
returns-clause-form c = λ form e.
    let n = net_of c.args.net.now in
    let b = shown_box c.args.v.now in
    let fallback = shown_value c.args.fallback in
    let scale = c.try_all.new.self.best.scale in
    let p : Proof = record { scale = scale; parts = map shown_part c.in_ok-parts.parts.items } in
    let same : p ≡ shown_proof c.try_all.new.self.best =
    ap (λ (parts : List Part). record { scale = scale; parts = map shown_part parts }) (c.in_ok-parts.ensures.items ∙ c.as_slice.ensures.value) in
    All-unmap (λ q. IsTrue (has_row n form q.row)) shown_part c.in_ok-parts.parts.items
    (answer-named n form b c.args.lp.now c.args.advice.now fallback p e
    (answer-some n b (tried n c.args.lp.now c.args.advice.now) fallback c.in_ok-lead.lead (shown_proof c.try_all.new.self.best) c.in_ok-lead.ensures.leads
    (not-false c.in_ok-lead.lead.is_proved c.if-not-lead.false) p same))

pub returns-then-not-lead-clause-known : goal.returns-then-not-lead-clause-known
returns-then-not-lead-clause-known c =
    let n = net_of c.args.net.now in
    known-none n (shown_box c.args.v.now) (tried n c.args.lp.now c.args.advice.now) (shown_value c.args.fallback) c.in_ok-lead.lead (shown_proof c.try_all.new.self.best)
    c.in_ok-lead.ensures.leads (not-true c.in_ok-lead.lead.is_proved c.if-not-lead.true)

pub returns-clause-known : goal.returns-clause-known
returns-clause-known c =
    let n = net_of c.args.net.now in
    let scale = c.try_all.new.self.best.scale in
    let p : Proof = record { scale = scale; parts = map shown_part c.in_ok-parts.parts.items } in
    let same : p ≡ shown_proof c.try_all.new.self.best =
    ap (λ (parts : List Part). record { scale = scale; parts = map shown_part parts }) (c.in_ok-parts.ensures.items ∙ c.as_slice.ensures.value) in
    known-some n (shown_box c.args.v.now) (tried n c.args.lp.now c.args.advice.now) (shown_value c.args.fallback) c.in_ok-lead.lead (shown_proof c.try_all.new.self.best)
    c.in_ok-lead.ensures.leads (not-false c.in_ok-lead.lead.is_proved c.if-not-lead.false) p same

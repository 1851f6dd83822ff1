use Rattle.std.proofs.Common.{List, [], ◌∷◌, ◌∙◌, subst}
use Rattle.pool_model.specs.Network.{net_of}
use Rattle.row_model.specs.Multipliers.{Proof}
use Rattle.row_book.specs.Views.{shown_value}
use Rattle.box_space.specs.Views.{shown_box, shown_proof}
use Rattle.dual_rounding.specs.Leads.{Leads}
use Rattle.dual_rounding.proofs.Leading.{leads-start, tried-each}
use Rattle.dual_rounding.proofs.rounding.Rounding.try_all.Goals as goal

pub returns-clause-leads : goal.returns-clause-leads
returns-clause-leads c =
    let n = net_of c.args.net.now in
    let b = shown_box c.args.v.now in
    let fallback = shown_value c.args.fallback in
    let p = shown_proof c.copy.new.into in
    let q = shown_proof c.write_advised.new.proof in
    let r = shown_proof c.write_advised-2.new.proof in
    let s = shown_proof c.write_advised-3.new.proof in
    let t = shown_proof c.write_advised-4.new.proof in
    let first = c.keep_better-lead.ensures.leads fallback [] (leads-start n b c.args.fallback (shown_proof c.args.self.now.best)) in
    let second = c.keep_better-lead-2.ensures.leads fallback (p ∷ []) first in
    let third = c.keep_better-lead-3.ensures.leads fallback (p ∷ q ∷ []) second in
    let fourth = c.keep_better-lead-4.ensures.leads fallback (p ∷ q ∷ r ∷ []) third in
    let fifth = c.keep_better.ensures.leads fallback (p ∷ q ∷ r ∷ s ∷ []) fourth in
    subst (λ (ps : List Proof). Leads n b ps fallback c.keep_better.result (shown_proof c.keep_better.new.self.best))
    (tried-each n c.args.lp.now c.args.advice.now p q r s t (c.in_ok-copy.ensures ∙ c.requires.serves.price)
    c.in_ok-write_advised.ensures c.in_ok-write_advised-2.ensures c.in_ok-write_advised-3.ensures c.in_ok-write_advised-4.ensures)
    fifth

use Rattle.std.proofs.Common.{◌≡◌, ◌∷◌, ◌++◌, [], true, ap, subst, sym}
use Rattle.pool_model.specs.Network.{net_of}
use Rattle.row_model.specs.Multipliers.{Proof}
use Rattle.row_book.specs.Views.{shown_value}
use Rattle.box_space.specs.Views.{shown_box, shown_proof}
use Rattle.dual_rounding.specs.Answers.{IsBelow}
use Rattle.dual_rounding.specs.Leads.{Leads}
use Rattle.dual_rounding.proofs.Leading.{leads-refused, leads-no_more, leads-better}
use Rattle.dual_rounding.proofs.rounding.Rounding.keep_better.Goals as goal

pub returns-in_default-clause-leads : goal.returns-in_default-clause-leads
returns-in_default-clause-leads c =
    leads-refused (net_of c.args.net.now) (shown_box c.args.v.now) c.args.lead (shown_proof c.args.self.now.best) (shown_proof c.args.self.now.tried)
    c.in_default.field-0 c.in_default.ensures.fault

pub returns-then-not-is_above-clause-leads : goal.returns-then-not-is_above-clause-leads
returns-then-not-is_above-clause-leads c =
    let no_more : ¬ IsBelow (shown_value c.args.lead.shown) (shown_value c.in-Ok.shown) =
    λ h. let yes : c.is_above.result ≡ true = c.is_above.ensures.1 h in cc in
    leads-no_more (net_of c.args.net.now) (shown_box c.args.v.now) c.args.lead (shown_proof c.args.self.now.best) (shown_proof c.args.self.now.tried)
    c.in-Ok.shown c.in-Ok.ensures.ok.1 no_more

pub returns-clause-leads : goal.returns-clause-leads
returns-clause-leads c = λ fallback tried h.
    let n = net_of c.args.net.now in
    let b = shown_box c.args.v.now in
    let q = shown_proof c.args.self.now.tried in
    subst (λ (p : Proof). Leads n b (tried ++ q ∷ []) fallback record { shown = c.in-Ok.shown; is_proved = true } p) (sym (ap shown_proof c.swap.ensures.y_after))
    (leads-better n b c.args.lead (shown_proof c.args.self.now.best) q c.in-Ok.shown c.in-Ok.ensures.ok.0 c.in-Ok.ensures.ok.1
    (c.is_above.ensures.0 c.if-not-is_above.false) fallback tried h)

-- What is claimed before its numbers.
use Rattle.std.proofs.Common.{◌≡◌, ℕ, ℤ, [], ◌∷◌, refl, sym, ap, subst, ◌∙◌}
use Rattle.pool_model.specs.Network.{Net, counts_of}
use Rattle.pool_model.specs.Claim.{with_gap}
use Rattle.cert_writing.specs.declared.certificate.Claim.TheVariants as claims
use Rattle.plan_core.specs.Views.{shown_plan}
use Rattle.plan_core.specs.declared.plan.Cost.{Cost}
use Rattle.plan_core.specs.declared.plan.WrittenPlan.{WrittenPlan}
use Rattle.cert_format.specs.declared.reading.Kind.{Kind}
use Rattle.cert_items.specs.declared.items.State.TheVariants as states
use Rattle.cert_stream.specs.Items.{cost_is, bound_is, gap_is, shaped_state}
use Rattle.cert_checker.specs.declared.opening.Opening.{Opening}
use Rattle.cert_checker.specs.declared.opening.Opening.TheVariants as openings
use Rattle.proof_lines.specs.Parts.{IsTaken}
use Rattle.cert_checker.specs.Parts.{opening_kind, opening_items, IsPlanned, IsOpening, IsClaimRead, IsClaimOf}
use Rattle.proof_lines.specs.Runs.{Moment, Run, IsReady}
use Rattle.proof_lines.proofs.Running.{run-none}

-- ---- what is opened

-- nothing is read where no plan is claimed
pub opens-bare : (n : Net) (k : Kind) (m : Moment) (o : Opening) → k ≡ opening_kind o → IsPlanned n o → [] ≡ opening_items o
    → shaped_state (opening_kind o) (counts_of n) ≡ states.Splits (opening_kind o) → IsReady m (shaped_state k (counts_of n)) → IsTaken (IsOpening n k) m m o
opens-bare n k m o e planned none next ready = record {
  items = [];
  state = states.Splits k;
  run = run-none m ready.used_up;
  ready = subst (IsReady m) (ap (λ (j : Kind). shaped_state j (counts_of n)) e ∙ next ∙ ap states.Splits (sym e)) ready;
  is = record { items_are = none; kind_is = sym e; planned = planned; next_is = refl };
}

-- ---- the numbers of a claim

pub claims-gap : (o : Opening) (plan : WrittenPlan) (cost : Cost) (m j : Moment) (num : ℤ) (base : ℕ) (bound gap : ℤ) → o ≡ openings.Gap plan cost
    → Run m j (cost_is num base ∷ bound_is bound ∷ gap_is gap base ∷ [])
    → IsReady j states.End → IsClaimRead o m j (claims.Gap plan num base bound gap)
claims-gap o plan cost m j num base bound gap e run ready = record { run = run; ready = ready; is = subst (λ (x : Opening). IsClaimOf x (with_gap (shown_plan plan) num base bound gap)) (sym e) refl }

-- What is known of a box while proofs are tried.
use Rattle.std.proofs.Common.{◌≡◌, ◌^◌, List, [], ◌∷◌, ◌++◌, Bool, true, false, not, if◌then◌else◌, Option, Some, None, refl, sym, ap, subst, ◌∙◌}
use Rattle.std.proofs.lemmas.List.Elements.{All-nil, All-head}
use Rattle.pool_model.specs.Network.{Net, IsLimited}
use Rattle.row_model.specs.Boxes.{Box, IsProper}
use Rattle.row_model.specs.Multipliers.{Proof, IsInOrder, Shown, shown_by}
use Rattle.row_book.specs.Faults.{IsFirstFault}
use Rattle.row_book.specs.Views.{shown_value}
use Rattle.row_book.specs.declared.fault.ProofFault.{ProofFault}
use Rattle.row_book.specs.declared.shown.Shown as declared
use Rattle.row_book.proofs.AgreedFaults.{no-fault}
use Rattle.linear_program.specs.declared.lp.Lp.{Lp}
use Rattle.linear_program.specs.declared.advice.Advice.{Advice}
use Rattle.dual_rounding.specs.declared.rounding.Lead.{Lead}
use Rattle.dual_rounding.specs.Price.{price_proof}
use Rattle.dual_rounding.specs.Tried.{advised_proof, tried}
use Rattle.dual_rounding.specs.Answers.{IsBelow, IsAtMost, ShowsAtMost, IsRounded, known_by}
use Rattle.dual_rounding.specs.Leads.{Leads, best_of}
use Rattle.dual_rounding.proofs.Rounded.{at_most-not_below, rounded-better, rounded-same, tried-at_most}
use Rattle.dual_rounding.proofs.PriceInOrder.{price-in_order}

-- before anything was tried
pub leads-start : (n : Net) (b : Box) (fallback : declared.Shown) (best : Proof) → Leads n b [] (shown_value fallback) record { shown = fallback; is_proved = false } best
leads-start n b fallback best = record { rounded = All-nil (ShowsAtMost n b (shown_value fallback)); known = refl }

module _ (n : Net) (b : Box) (lead : Lead) (best q : Proof) where
  -- a proof that shows more
  pub leads-better : (shown : declared.Shown) → IsInOrder n b q → shown_value shown ≡ shown_by n b q → IsBelow (shown_value lead.shown) (shown_value shown)
      → (fallback : Shown) (tried : List Proof) → Leads n b tried fallback lead best → Leads n b (tried ++ q ∷ []) fallback record { shown = shown; is_proved = true } q
  leads-better shown is e more fallback tried h = record {
    rounded = rounded-better n b fallback tried (best_of lead best) q h.rounded is
        (subst (λ s. IsBelow s (shown_by n b q)) h.known (subst (λ s. IsBelow (shown_value lead.shown) s) e more));
    known = e;
  }

  leads-same : ShowsAtMost n b (shown_value lead.shown) q → (fallback : Shown) (tried : List Proof) → Leads n b tried fallback lead best → Leads n b (tried ++ q ∷ []) fallback lead best
  leads-same most fallback tried h = record {
    rounded = rounded-same n b fallback tried (best_of lead best) q h.rounded (subst (λ s. ShowsAtMost n b s q) h.known most);
    known = h.known;
  }

  -- a proof that shows no more
  pub leads-no_more : (shown : declared.Shown) → shown_value shown ≡ shown_by n b q → ¬ IsBelow (shown_value lead.shown) (shown_value shown)
      → (fallback : Shown) (tried : List Proof) → Leads n b tried fallback lead best → Leads n b (tried ++ q ∷ []) fallback lead best
  leads-no_more shown e no_more = leads-same
      (λ is. subst (λ s. IsAtMost s (shown_value lead.shown)) e (at_most-not_below (shown_value shown) (shown_value lead.shown) no_more))

  -- a proof that is not in order
  pub leads-refused : (fault : ProofFault) → IsFirstFault n b q fault
      → (fallback : Shown) (tried : List Proof) → Leads n b tried fallback lead best → Leads n b (tried ++ q ∷ []) fallback lead best
  leads-refused fault h = leads-same (λ is. absurd (no-fault n b q fault is h.holds))

-- ---- after all were tried

-- the tried proofs, one after another
pub tried-each : (n : Net) (lp : Lp) (advice : Advice) (p q r s t : Proof) → p ≡ price_proof n → q ≡ advised_proof lp advice 1 → r ≡ advised_proof lp advice (2 ^ 10)
    → s ≡ advised_proof lp advice (2 ^ 20) → t ≡ advised_proof lp advice (2 ^ 30) → p ∷ q ∷ r ∷ s ∷ t ∷ [] ≡ tried n lp advice
tried-each n lp advice p q r s t e f g h k = λ i. e i ∷ f i ∷ g i ∷ h i ∷ k i ∷ []

pub not-true : (t : Bool) → not t ≡ true → t ≡ false
not-true true h = absurd (cc)
not-true false h = refl

pub not-false : (t : Bool) → not t ≡ false → t ≡ true
not-false true h = refl
not-false false h = absurd (cc)

module _ (n : Net) (b : Box) (tried : List Proof) (fallback : Shown) (lead : Lead) (best : Proof) (h : Leads n b tried fallback lead best) where
  pub answer-none : lead.is_proved ≡ false → IsRounded n b tried fallback None
  answer-none e = subst (λ (o : Option Proof). IsRounded n b tried fallback o) (ap (λ (t : Bool). if t then Some best else None) e) h.rounded

  pub answer-some : lead.is_proved ≡ true → (p : Proof) → p ≡ best → IsRounded n b tried fallback (Some p)
  answer-some e p is = subst (λ (o : Option Proof). IsRounded n b tried fallback o) (ap (λ (t : Bool). if t then Some best else None) e ∙ ap Some (sym is)) h.rounded

  -- what is known then, with no proof and with one
  pub known-none : lead.is_proved ≡ false → shown_value lead.shown ≡ known_by n b fallback None
  known-none e = h.known ∙ ap (λ (o : Option Proof). known_by n b fallback o) (ap (λ (t : Bool). if t then Some best else None) e)

  pub known-some : lead.is_proved ≡ true → (p : Proof) → p ≡ best → shown_value lead.shown ≡ known_by n b fallback (Some p)
  known-some e p is = h.known ∙ ap (λ (o : Option Proof). known_by n b fallback o) (ap (λ (t : Bool). if t then Some best else None) e ∙ ap Some (sym is))

-- at least what the price proof shows is known
pub price-known : (n : Net) (b : Box) (lp : Lp) (advice : Advice) (fallback : Shown) (o : Option Proof) → IsLimited n → IsProper n b
    → IsRounded n b (tried n lp advice) fallback o → IsAtMost (shown_by n b (price_proof n)) (known_by n b fallback o)
price-known n b lp advice fallback o limited proper h =
    All-head (ShowsAtMost n b (known_by n b fallback o)) (price_proof n)
    (advised_proof lp advice 1 ∷ advised_proof lp advice (2 ^ 10) ∷ advised_proof lp advice (2 ^ 20) ∷ advised_proof lp advice (2 ^ 30) ∷ [])
    (tried-at_most n b fallback (tried n lp advice) o h) (price-in_order n b limited proper)

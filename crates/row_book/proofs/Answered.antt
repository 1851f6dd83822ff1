-- What the number of a proof in order says, once its weight is known to be narrow.
use Rattle.std.proofs.Common.{◌≡◌, ◌^◌, ◌≤◌, ℤ, pos, ◌*ℤ◌, ◌<ℤ◌, ◌≤ℤ◌, Result, Ok, Err, IfOk, IfErr, sym, ap, subst, ◌∙◌}
use Rattle.pool_model.specs.Network.{IsLimited, Net}
use Rattle.pool_model.specs.Plan.{Obeys, Plan, cost_of}
use Rattle.row_model.specs.Boxes.{Box, LiesIn}
use Rattle.row_model.proofs.Duality.{proof-holds}
use Rattle.row_model.specs.Multipliers as multipliers
use Rattle.row_book.specs.Faults.{IsFirstFault}
use Rattle.row_book.specs.PartSums.{AreInOrder, weight_of, number_of}
use Rattle.row_book.specs.Views as results
use Rattle.row_book.specs.declared.fault.ProofFault.{ProofFault}
use Rattle.row_book.specs.declared.fault.ProofFault.TheVariants.{ShowsNothing}
use Rattle.row_book.specs.declared.shown.Shown.{Shown}
use Rattle.row_book.specs.declared.shown.Shown.TheVariants.{Bound, NoPlan}
use Rattle.row_book.proofs.FirstFaults.{number-same, no_fault, first-nothing}

module _ (n : Net) (b : Box) (proof : multipliers.Proof) (z : ℤ) (order : AreInOrder n b proof) (narrow : weight_of n b proof ≤ 2 ^ 126) (is : z ≡ number_of n b proof) where
  number_is : z ≡ multipliers.number n b proof
  number_is = is ∙ sym (number-same n b proof)

  pub answer-ok : (r : Result Shown ProofFault) → IfOk r (λ s. results.shown_value s ≡ results.shown_at proof.scale z) → IfOk r (λ _. proof.scale ≡ 0 → pos 0 <ℤ z)
      → IfOk r (λ s. multipliers.IsInOrder n b proof × (results.shown_value s ≡ multipliers.shown_by n b proof))
  answer-ok (Ok s) shown above =
      let P : ℤ → Type 0 = λ x. pos 0 <ℤ x in
      (no_fault n b proof order narrow (λ none. subst P number_is (above none)), shown ∙ ap (results.shown_at proof.scale) number_is)
  answer-ok (Err f) shown above = tt

  pub answer-fault : (r : Result Shown ProofFault) → IfErr r (λ f. f ≡ ShowsNothing) → IfErr r (λ _. (proof.scale ≡ 0) × (z ≤ℤ pos 0)) → IfErr r (IsFirstFault n b proof)
  answer-fault (Ok s) fault nothing = tt
  answer-fault (Err f) fault nothing =
      let P : ℤ → Type 0 = λ x. x ≤ℤ pos 0 in
      subst (IsFirstFault n b proof) (sym fault) (first-nothing n b proof order narrow nothing.0 (subst P number_is nothing.1))

-- ---- what an answer means for every plan that obeys and lies in the box

-- an answer is that of a proof in order
abbrev pub IsAnswer : Net → Box → multipliers.Proof → Result Shown ProofFault → Type 0
IsAnswer n b proof r = IfOk r (λ s. multipliers.IsInOrder n b proof × (results.shown_value s ≡ multipliers.shown_by n b proof))

answer-holds : (n : Net) (b : Box) (proof : multipliers.Proof) (r : Result Shown ProofFault) (s : Shown) → IsLimited n → IsAnswer n b proof r
    → r ≡ Ok s → multipliers.HoldsIn n b (results.shown_value s)
answer-holds n b proof r s limited answer e =
    let a : IsAnswer n b proof (Ok s) = subst (IsAnswer n b proof) e answer in
    subst (multipliers.HoldsIn n b) (sym a.1) (proof-holds n b proof limited a.0)

pub bound-holds : (n : Net) (b : Box) (proof : multipliers.Proof) (r : Result Shown ProofFault) → IsLimited n → IsAnswer n b proof r
    → (z : ℤ) → r ≡ Ok (Bound z) → (p : Plan) → Obeys n p → LiesIn n p b → (z *ℤ pos p.base) ≤ℤ cost_of n p
bound-holds n b proof r limited answer z e = answer-holds n b proof r (Bound z) limited answer e

pub no-plan-holds : (n : Net) (b : Box) (proof : multipliers.Proof) (r : Result Shown ProofFault) → IsLimited n → IsAnswer n b proof r → r ≡ Ok NoPlan → (p : Plan) → Obeys n p → ¬ LiesIn n p b
no-plan-holds n b proof r limited answer e = answer-holds n b proof r NoPlan limited answer e

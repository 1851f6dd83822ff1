-- What `value` answers of a view of ends, said of any box whose ends they are.
use Rattle.std.proofs.Common.{◌≡◌, get_or, pos, sym, subst, ◌∙◌}
use Rattle.std.specs.Prelude.{Result, Ok, Err, IfOk, IfErr}
use Rattle.pool_model.specs.Network.{Net, IsLimited}
use Rattle.row_model.specs.Boxes.{Box, Agree}
use Rattle.row_model.specs.Multipliers.{Proof, IsInOrder, shown_by}
use Rattle.row_model.proofs.Agreement.{in_order-same, shown-same}
use Rattle.box_space.specs.Views.{shown_box, shown_box_ends, AreEndsOf}
use Rattle.box_space.specs.declared.boxes.BoxView.{BoxView}
use Rattle.box_space.specs.declared.boxes.BoxEnds.{BoxEnds}
use Rattle.row_book.proofs.AgreedFaults.{fault-same}
use Rattle.row_book.specs.Faults.{IsFirstFault}
use Rattle.row_book.specs.Views.{shown_value}
use Rattle.row_book.specs.declared.fault.ProofFault.{ProofFault}
use Rattle.row_book.specs.declared.shown.Shown.{Shown}

module _ (n : Net) (v : BoxView) (e : BoxEnds) (proof : Proof) (limited : IsLimited n) (low : v.low.now ≡ e.low.items) (high : v.high.now ≡ e.high.items) where
  agreed : (b : Box) → AreEndsOf n b e → Agree n (shown_box v) b
  agreed b is =
      let same : shown_box_ends e ≡ shown_box v = λ i. record { low = λ c. get_or (sym low i) c (pos 0); high = λ c. get_or (sym high i) c (pos 0) } in
      subst (λ (z : Box). Agree n z b) same is.agree

  pub in_order-agreed : (r : Result Shown ProofFault)
      → IfOk r (λ s. IsInOrder n (shown_box v) proof × (shown_value s ≡ shown_by n (shown_box v) proof)) → (b : Box) → AreEndsOf n b e → IfOk r (λ _. IsInOrder n b proof)
  in_order-agreed (Ok s) is b ends = in_order-same n (shown_box v) b proof limited (agreed b ends) is.0
  in_order-agreed (Err f) is b ends = tt

  pub shown-agreed : (r : Result Shown ProofFault) → IfOk r (λ s. IsInOrder n (shown_box v) proof × (shown_value s ≡ shown_by n (shown_box v) proof)) → (b : Box) → AreEndsOf n b e
      → IfOk r (λ s. shown_value s ≡ shown_by n b proof)
  shown-agreed (Ok s) is b ends = is.1 ∙ shown-same n (shown_box v) b proof limited (agreed b ends)
  shown-agreed (Err f) is b ends = tt

  pub fault-agreed : (r : Result Shown ProofFault) → IfErr r (IsFirstFault n (shown_box v) proof) → (b : Box) → AreEndsOf n b e → IfErr r (IsFirstFault n b proof)
  fault-agreed (Ok s) is b ends = tt
  fault-agreed (Err f) is b ends = fault-same n (shown_box v) b proof f limited (agreed b ends) is

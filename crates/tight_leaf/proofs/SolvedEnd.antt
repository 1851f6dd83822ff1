-- The point and the proof of a run that ends with a point, in the words of the box.
use Rattle.std.proofs.Common.{◌≡◌, ◌∙◌, ℕ, ◌<◌, ℤ, pos, ◌*ℤ◌, ap}
use Rattle.pool_model.specs.Network.{Net}
use Rattle.row_model.specs.Boxes.{Box}
use Rattle.row_model.specs.Multipliers.{Proof, number}
use Rattle.row_book.specs.PartSums.{AreInOrder}
use Rattle.box_space.specs.declared.coordinates.Form.{Form}
use Rattle.exact_num.specs.Fraction.{Fraction}
use Rattle.exact_run.specs.Programs.{Program}
use Rattle.exact_run.specs.Runs.{IsEmptyMultiplier, IsSolvedMultiplier}
use Rattle.exact_run.specs.States.{State}
use Rattle.exact_run.specs.declared.ends.End.{End}
use Rattle.relaxation_points.specs.Points.{Meets, NamesRowsOf, Point, cost_value}
use Rattle.run_laws.specs.Multipliers as runs
use Rattle.run_laws.specs.Points as points
use Rattle.tight_leaf.specs.Points.{IsPointOf}
use Rattle.tight_leaf.specs.Programs.{IsBoxProgram}
use Rattle.tight_leaf.specs.Proofs.{IsBareProof, IsMultiplier, IsMultiplierPast, IsScaledProof}
use Rattle.tight_leaf.proofs.BoxPoints.{cost-value, meets-box}
use Rattle.tight_leaf.proofs.EndParts.{mult, number-is, over, parts-named, parts-order}

module _ (n : Net) (form : Form) (b : Box) (p : Program) (is : IsBoxProgram n form b p) (s : State) where
  -- ---- the point

  module _ (q : Point) (point : IsPointOf p s q) where
    pub values-over : points.AreValuesOver p s q.base q.value
    values-over v x lt h = point.values v x (lt, h)

    pub point-meets : points.Meets p q.base q.value → Meets n form b q
    point-meets m = meets-box n form b p is q point.base.positive m.low m.high m.at_least m.equal

  -- ---- the proof after a point

  module _ (one : (r : ℕ) (x y : Fraction) → r < p.rows → IsSolvedMultiplier p s r x → IsSolvedMultiplier p s r y → x ≡ y) (proof : Proof) (scaled : IsScaledProof n form (IsMultiplier p s) proof) where
    abbrev pub solved-mult : ℕ → ℤ
    solved-mult = mult n form b p is (IsMultiplier p s) (λ r x h. h.0) (λ r x y h k. one r x y h.0 h.1 k.1) proof.scale scaled.least.positive proof scaled.parts

    pub solved-over : runs.AreSolvedOver p s proof.scale solved-mult
    solved-over r x lt h = over n form b p is (IsMultiplier p s) (λ r x h. h.0) (λ r x y h k. one r x y h.0 h.1 k.1) proof.scale scaled.least.positive proof scaled.parts r x (lt, h)

    pub solved-named : NamesRowsOf n form proof
    solved-named = parts-named n form b p is (IsMultiplier p s) (λ r x h. h.0) (λ r x y h k. one r x y h.0 h.1 k.1) proof.scale scaled.least.positive proof scaled.parts

    pub solved-order : runs.AreSigned p solved-mult → AreInOrder n b proof
    solved-order signs = parts-order n form b p is (IsMultiplier p s) (λ r x h. h.0) (λ r x y h k. one r x y h.0 h.1 k.1) proof.scale scaled.least.positive proof scaled.parts signs

    pub solved-adds : (q : Point) → runs.number p proof.scale solved-mult *ℤ pos q.base ≡ pos proof.scale *ℤ points.cost_value p q.value
        → number n b proof *ℤ pos q.base ≡ pos proof.scale *ℤ cost_value n q
    solved-adds q e =
        ap (λ (z : ℤ). z *ℤ pos q.base) (number-is n form b p is (IsMultiplier p s) (λ r x h. h.0) (λ r x y h k. one r x y h.0 h.1 k.1) proof.scale scaled.least.positive proof scaled.parts)
        ∙ e
        ∙ ap (λ (z : ℤ). pos proof.scale *ℤ z) (cost-value n form b p is q)

  -- ---- the proof where there is none

  module _ (place : ℕ) (side : End)
      (one : (r : ℕ) (x y : Fraction) → r < p.rows → IsEmptyMultiplier p s place side r x → IsEmptyMultiplier p s place side r y → x ≡ y) (proof : Proof)
      (bare : IsBareProof n form (IsMultiplierPast p s place side) proof) where
    abbrev pub empty-mult : ℕ → ℤ
    empty-mult = mult n form b p is (IsMultiplierPast p s place side) (λ r x h. h.0) (λ r x y h k. one r x y h.0 h.1 k.1) bare.times bare.least.positive proof bare.parts

    pub empty-over : runs.AreEmptyOver p s place side bare.times empty-mult
    empty-over r x lt h = over n form b p is (IsMultiplierPast p s place side) (λ r x h. h.0) (λ r x y h k. one r x y h.0 h.1 k.1) bare.times bare.least.positive proof bare.parts r x (lt, h)

    pub empty-named : NamesRowsOf n form proof
    empty-named = parts-named n form b p is (IsMultiplierPast p s place side) (λ r x h. h.0) (λ r x y h k. one r x y h.0 h.1 k.1) bare.times bare.least.positive proof bare.parts

    pub empty-order : runs.AreSigned p empty-mult → AreInOrder n b proof
    empty-order signs = parts-order n form b p is (IsMultiplierPast p s place side) (λ r x h. h.0) (λ r x y h k. one r x y h.0 h.1 k.1) bare.times bare.least.positive proof bare.parts signs

    pub empty-number : number n b proof ≡ runs.number p 0 empty-mult
    empty-number =
        number-is n form b p is (IsMultiplierPast p s place side) (λ r x h. h.0) (λ r x y h k. one r x y h.0 h.1 k.1) bare.times bare.least.positive proof bare.parts
        ∙ ap (λ (k : ℕ). runs.number p k empty-mult) bare.scale

-- An arc and its maximum, as the code reads them.
use Rattle.std.proofs.Common.{◌≡◌, ℕ, ◌*◌, ◌<◌, Option, Some, None, ℤ, pos, unsigned_abs, FitsSigned, arith, refl, sym, ap, ◌∙◌}
use Rattle.std.specs.Prelude.{option_map}
use Rattle.std.proofs.lemmas.Int.{to_z-of_z}
use mir.Syntax.{w64}
use mir.Val.{to_z, of_z}
use Rattle.pool_model.specs.Network.{Net, arc_max}
use Rattle.pool_model.specs.Plan.{Plan, arc_flow}
use Rattle.plan_core.specs.Faults.{IsAboveMaximum}

-- an arc without a maximum
pub no-maximum : (n : Net) (p : Plan) (a : ℕ) → None ≡ option_map pos (arc_max n a) → ¬ IsAboveMaximum n p a
no-maximum n p a read over = none (arc_max n a) over.most read over.is
  where
    none : (o : Option ℕ) (m : ℕ) → None ≡ option_map pos o → o ≡ Some m → ⊥
    none None m e is = cc
    none (Some x) m e is = cc

-- the maximum that is read
read-maximum : (o : Option ℕ) (most : ℤ) → Some most ≡ option_map pos o → (m : ℕ) × (o ≡ Some m) × (most ≡ pos m)
read-maximum None most e = cc
read-maximum (Some m) most e = (m, refl, let same : most ≡ pos m = cc in same)

module _ (n : Net) (p : Plan) (a : ℕ) (most : ℤ) (room flow base : ℕ) (read : Some most ≡ option_map pos (arc_max n a)) (fits : FitsSigned w64 most)
    (whole : base ≡ p.base) (product : room ≡ base * unsigned_abs (to_z w64 (of_z w64 most))) (flows : flow ≡ arc_flow n p a) where
  room-is : (m : ℕ) → most ≡ pos m → room ≡ p.base * m
  room-is m e = product ∙ ap (λ b. b * unsigned_abs (to_z w64 (of_z w64 most))) whole ∙ ap (λ z. p.base * unsigned_abs z) (to_z-of_z w64 most fits ∙ e)

  pub over-maximum : room < flow → IsAboveMaximum n p a
  over-maximum h =
      let at = read-maximum (arc_max n a) most read in
      record { most = at.0; is = at.1; above = omega (arith, h, room-is at.0 at.2, flows) }

  pub maximum-over : IsAboveMaximum n p a → room < flow
  maximum-over over =
      let at = read-maximum (arc_max n a) most read in
      let same : at.0 ≡ over.most = one at.0 over.most (sym at.1 ∙ over.is) in
      omega (arith, over.above, room-is at.0 at.2, flows, ap (λ z. p.base * z) same)
    where
      one : (x y : ℕ) → Some x ≡ Some y → x ≡ y
      one x y e = cc

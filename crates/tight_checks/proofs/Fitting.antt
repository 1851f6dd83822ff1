-- What the answer of `value` leaves out.
use Rattle.std.proofs.Common.{◌≡◌, ◌<ℤ◌, ◌↔◌, ℤ, Bool, true, false, IsTrue, refl, sym, subst, ◌∙◌, arith}
use Rattle.pool_model.specs.Network.{Net}
use Rattle.row_model.specs.Boxes.{Box}
use Rattle.row_model.specs.Multipliers.{Proof, IsInOrder, bound, shown_by}
use Rattle.box_space.specs.declared.coordinates.Form.{Form}
use Rattle.faults.proofs.First.{one-rank}
use Rattle.relaxation_points.specs.Points.{IsWitness, NamesRowsOf}
use Rattle.relaxation_points.specs.Views.{HasShape, shown_point}
use Rattle.relaxation_points.specs.declared.point.RelaxPoint.{RelaxPoint}
use Rattle.row_book.specs.Faults.{Holds, rank, number, IsFirstFault}
use Rattle.row_book.specs.declared.fault.ProofFault.{ProofFault}
use Rattle.row_book.specs.declared.fault.ProofFault.TheVariants.{Order, UnknownRow, Sign, ZeroPart, Wide, ShowsNothing}
use Rattle.leaf_marks.specs.Marks.{IsRaised}
use Rattle.leaf_marks.specs.Views.{IsHeld}

module _ (n : Net) (b : Box) (proof : Proof) where
  one_number : (f g : ProofFault) → rank f ≡ rank g → number f ≡ number g
  one_number f g e = cc

  is_wide : (f : ProofFault) → number f ≡ 5 → f ≡ Wide
  is_wide Wide e = refl
  is_wide Order e = absurd (omega (arith, e))
  is_wide UnknownRow e = absurd (omega (arith, e))
  is_wide Sign e = absurd (omega (arith, e))
  is_wide ZeroPart e = absurd (omega (arith, e))
  is_wide ShowsNothing e = absurd (omega (arith, e))

  -- the first fault is one alone
  pub first_wide : (f : ProofFault) → IsFirstFault n b proof f → IsFirstFault n b proof Wide → f ≡ Wide
  first_wide f h k = is_wide f (one_number f Wide (one-rank rank (Holds n b proof) f Wide h k))

  pub same_bound : (z y : ℤ) → bound z ≡ shown_by n b proof → shown_by n b proof ≡ bound y → z ≡ y
  same_bound z y e h = let x : bound z ≡ bound y = e ∙ h in cc

  -- a proof and a point that were judged are those of a raised bound
  pub raised-by : (form : Form) (low : ℤ) (q : RelaxPoint) (shown : ℤ) (t : Bool) → IsInOrder n b proof → bound shown ≡ shown_by n b proof → low <ℤ shown → NamesRowsOf n form proof
      → (IsTrue t ↔ (HasShape n q × IsWitness n form b shown (shown_point q))) → IsTrue t ↔ IsHeld n (IsRaised n form b low proof) q
  raised-by form low q shown t order e above named h = (
    λ s. let both = h.0 s in record {
      shape = both.0;
      point = record { named = named; ordered = order; shown = shown; shows = sym e; above = above; best = both.1 };
    },
    λ held. h.1 (
      held.shape,
      subst (λ (z : ℤ). IsWitness n form b z (shown_point q)) (sym (same_bound shown held.point.shown e held.point.shows)) held.point.best,
    ),
  )

pub false_not : (t : Bool) → t ≡ false → IsTrue t → ⊥
false_not true e h = cc
false_not false e h = cc

-- What a run's end gives: a point that meets the box, and a proof that shows the least bound above its cost, or that there is no plan.
use Rattle.std.proofs.Common.{◌≡◌, ◌∙◌, ℕ, ◌<◌, All, ℤ, pos, negsuc, ◌+ℤ◌, ◌*ℤ◌, ◌≤ℤ◌, ◌<ℤ◌, sym, subst, refl, arith}
use Rattle.std.specs.Int.{int_div_euclid}
use Rattle.std.proofs.Math.Nat.{div-mul-le_self, lt-div-mul-add}
use Rattle.integers.proofs.AtKey.{chosen, passed}
use Rattle.integers.proofs.Order.{lt-cancel, lt-mul}
use Rattle.integers.proofs.Ring.{add-mul, additive, linear, sorted}
use Rattle.pool_model.specs.Network.{Net}
use Rattle.row_model.specs.Boxes.{Box}
use Rattle.row_model.specs.Multipliers.{IsInOrder, IsSigned, Part, Proof, bound, no_plan, number, shown_by}
use Rattle.row_book.specs.Faults.{Holds, IsFirstFault}
use Rattle.row_book.specs.PartRows.{kind_at}
use Rattle.row_book.specs.PartSums.{AreInOrder}
use Rattle.row_book.specs.declared.fault.ProofFault.{ProofFault}
use Rattle.row_book.specs.declared.fault.ProofFault.TheVariants.{Order, ShowsNothing, Sign, UnknownRow, Wide, ZeroPart}
use Rattle.box_space.specs.declared.coordinates.Form.{Form}
use Rattle.relaxation_points.specs.Points.{IsLight, IsNear, IsWitness, Meets, NamesRowsOf, Point, cost_value}
use Rattle.leaf_marks.specs.Marks.{IsRaised}

-- ---- the number over the scale, rounded down

next-above : (z : ℤ) (d : ℕ) → 0 < d → z <ℤ ((int_div_euclid z (pos d) +ℤ pos 1) *ℤ pos d)
next-above z d h = omega (arith, additive, above z d h, add-mul (int_div_euclid z (pos d)) (pos 1) (pos d))
  where
    above : (z : ℤ) (d : ℕ) → 0 < d → z <ℤ (int_div_euclid z (pos d) *ℤ pos d +ℤ pos d)
    above (pos a) d h = omega (arith, linear, lt-div-mul-add {a = a} h)
    above (negsuc a) d h = omega (arith, linear, div-mul-le_self a d)

same_bound : (x y : ℤ) → bound x ≡ bound y → x ≡ y
same_bound x y e = cc

pub scaled-shows : (n : Net) (b : Box) (proof : Proof) → 0 < proof.scale → shown_by n b proof ≡ bound (int_div_euclid (number n b proof) (pos proof.scale))
scaled-shows n b proof some = passed proof.scale 0 no_plan (bound (int_div_euclid (number n b proof) (pos proof.scale))) (λ e. omega (arith, some, e))

pub bare-none : (n : Net) (b : Box) (proof : Proof) → proof.scale ≡ 0 → shown_by n b proof ≡ no_plan
bare-none n b proof none = chosen proof.scale 0 no_plan (bound (int_div_euclid (number n b proof) (pos proof.scale))) none

-- ---- the one fault that may be left

no-sign : (n : Net) (b : Box) (proof : Proof) → All (λ (q : Part). IsSigned (kind_at n b q.row) q.mult) proof.parts → ¬ Holds n b proof Sign
unfolding kind_at
no-sign n b proof h bad = bad h

-- a proof whose parts are in order, and whose number is above 0 where its scale is 0, has no fault but that it is too wide
pub only-wide : (n : Net) (b : Box) (proof : Proof) (f : ProofFault) → AreInOrder n b proof → (proof.scale ≡ 0 → pos 0 <ℤ number n b proof) → IsFirstFault n b proof f → f ≡ Wide
only-wide n b proof Order order shows h = absurd (h.holds order.rising)
only-wide n b proof UnknownRow order shows h = absurd (h.holds order.known)
only-wide n b proof Sign order shows h = absurd (no-sign n b proof order.signed h.holds)
only-wide n b proof ZeroPart order shows h = absurd (h.holds order.nonzero)
only-wide n b proof Wide order shows h = refl
only-wide n b proof ShowsNothing order shows h = absurd (omega (arith, additive, h.holds.1, shows h.holds.0))

-- ---- a proof that is added up to what a point costs

module _ (n : Net) (form : Form) (b : Box) (proof : Proof) (q : Point) (some : 0 < proof.scale) (adds : number n b proof *ℤ pos q.base ≡ pos proof.scale *ℤ cost_value n q) (met : Meets n form b q)
    (light : IsLight n form b q) where
  turned : (a b c : ℤ) → (a *ℤ b) *ℤ c ≡ b *ℤ (a *ℤ c)
  turned a b c = simp sorted refl

  base-some : pos 0 <ℤ pos q.base
  base-some = omega (arith, additive, met.base)

  scale-some : pos 0 <ℤ pos proof.scale
  scale-some = omega (arith, additive, some)

  swap : (a b : ℤ) → a *ℤ b ≡ b *ℤ a
  swap a b = simp sorted refl

  -- the point is a witness for what the proof shows
  near-shown : (z : ℤ) → shown_by n b proof ≡ bound z → IsNear n z q
  near-shown z e =
      let total = number n b proof in
      let is : z ≡ int_div_euclid total (pos proof.scale) = same_bound z (int_div_euclid total (pos proof.scale)) (sym e ∙ scaled-shows n b proof some) in
      let above : total <ℤ ((z +ℤ pos 1) *ℤ pos proof.scale) = subst (λ (y : ℤ). total <ℤ ((y +ℤ pos 1) *ℤ pos proof.scale)) (sym is) (next-above total proof.scale some) in
      lt-cancel (pos proof.scale) (cost_value n q) ((z +ℤ pos 1) *ℤ pos q.base) scale-some
      (omega (
        arith,
        additive,
        adds,
        lt-mul (pos q.base) total ((z +ℤ pos 1) *ℤ pos proof.scale) base-some above,
        swap (pos q.base) total,
        shuffled (pos q.base) (z +ℤ pos 1) (pos proof.scale),
      ))
    where
      shuffled : (b z s : ℤ) → b *ℤ (z *ℤ s) ≡ s *ℤ (z *ℤ b)
      shuffled b z s = simp sorted refl

  -- where it is none for a bound, the proof shows more
  above-low : (low z : ℤ) → ¬ IsWitness n form b low q → shown_by n b proof ≡ bound z → low <ℤ z
  above-low low z none e =
      let far : ((low +ℤ pos 1) *ℤ pos q.base) ≤ℤ cost_value n q = at_least_of (cost_value n q) ((low +ℤ pos 1) *ℤ pos q.base) (λ near. none record { light = light; meets = met; near = near }) in
      let near : cost_value n q <ℤ ((z +ℤ pos 1) *ℤ pos q.base) = near-shown z e in
      let total = number n b proof in
      let is : z ≡ int_div_euclid total (pos proof.scale) = same_bound z (int_div_euclid total (pos proof.scale)) (sym e ∙ scaled-shows n b proof some) in
      let less : (pos q.base *ℤ (low +ℤ pos 1)) <ℤ (pos q.base *ℤ (z +ℤ pos 1)) = omega (arith, additive, far, near, swap (pos q.base) (low +ℤ pos 1), swap (pos q.base) (z +ℤ pos 1)) in
      omega (arith, additive, lt-cancel (pos q.base) (low +ℤ pos 1) (z +ℤ pos 1) base-some less)
    where
      at_least_of : (a b : ℤ) → ¬ (a <ℤ b) → b ≤ℤ a
      at_least_of a b h = grind (arith, additive)

  pub is-raised : (low z : ℤ) → ¬ IsWitness n form b low q → NamesRowsOf n form proof → IsInOrder n b proof → bound z ≡ shown_by n b proof → IsRaised n form b low proof q
  is-raised low z none named order e = record {
    named = named;
    ordered = order;
    shown = z;
    shows = sym e;
    above = above-low low z none (sym e);
    best = record { light = light; meets = met; near = near-shown z (sym e) };
  }

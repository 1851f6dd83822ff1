-- A proof's first fault, and when it has none.
use Rattle.std.proofs.Common.{◌≡◌, ◌≢◌, ◌^◌, ◌<◌, ◌≤◌, All, pos, ◌≤ℤ◌, ◌<ℤ◌, arith, refl}
use Rattle.pool_model.specs.Network.{Net}
use Rattle.row_model.specs.Boxes.{Box}
use Rattle.row_model.specs.Catalogue.{rows}
use Rattle.row_model.specs.Multipliers as multipliers
use Rattle.row_model.specs.Multipliers.{Proof, IsRising, IsSigned, IsInOrder, weight}
use Rattle.faults.proofs.First.{IsClear, clear-next, lone-first}
use Rattle.row_book.specs.Faults.{Holds, number, IsFirstFault}
use Rattle.row_book.specs.PartRows.{kind_at, coef_at, constant_at}
use Rattle.row_book.specs.PartSums.{AreInOrder, weight_of, number_of}
use Rattle.row_book.specs.declared.fault.ProofFault.{ProofFault}
use Rattle.row_book.specs.declared.fault.ProofFault.TheVariants.{Order, UnknownRow, Sign, ZeroPart, Wide, ShowsNothing}

module _ (n : Net) (b : Box) (proof : Proof) where
  -- ---- what is sealed is the same
  pub number-same : multipliers.number n b proof ≡ number_of n b proof
  unfolding coef_at constant_at
  number-same = refl

  weight-same : weight n b proof ≡ weight_of n b proof
  unfolding coef_at constant_at
  weight-same = refl

  no_sign : All (λ q. IsSigned (kind_at n b q.row) q.mult) proof.parts → ¬ Holds n b proof Sign
  unfolding kind_at
  no_sign h bad = bad h

  sign_holds : ¬ All (λ q. IsSigned (kind_at n b q.row) q.mult) proof.parts → Holds n b proof Sign
  unfolding kind_at
  sign_holds h = h

  no_wide : weight_of n b proof ≤ 2 ^ 126 → ¬ Holds n b proof Wide
  no_wide h bad = absurd (omega (arith, weight-same))

  wide_holds : 2 ^ 126 < weight_of n b proof → Holds n b proof Wide
  wide_holds h = omega (arith, weight-same)

  -- ---- the first fault

  -- no fault of a number below the fourth, the fifth or the sixth
  clear_rows : IsRising proof.parts → All (λ q. q.row < rows n) proof.parts → IsClear number (Holds n b proof) 3
  clear_rows rising known = record { none = none }
    where
      none : (f : ProofFault) → number f < 3 → ¬ Holds n b proof f
      none Order less = λ bad. bad rising
      none UnknownRow less = λ bad. bad known
      none _ less = absurd (omega (arith, less))

  clear_parts : AreInOrder n b proof → IsClear number (Holds n b proof) 5
  clear_parts order = record { none = none }
    where
      none : (f : ProofFault) → number f < 5 → ¬ Holds n b proof f
      none Order less = λ bad. bad order.rising
      none UnknownRow less = λ bad. bad order.known
      none Sign less = no_sign order.signed
      none ZeroPart less = λ bad. bad order.nonzero
      none _ less = absurd (omega (arith, less))

  pub first-order : ¬ IsRising proof.parts → IsFirstFault n b proof Order
  first-order h = lone-first Order refl h record { none = none }
    where
      none : (f : ProofFault) → number f < 1 → ¬ Holds n b proof f
      none Order less = absurd (omega (arith, less))
      none _ less = absurd (omega (arith, less))

  pub first-unknown : IsRising proof.parts → ¬ All (λ q. q.row < rows n) proof.parts → IsFirstFault n b proof UnknownRow
  first-unknown rising h = lone-first UnknownRow refl h record { none = none }
    where
      none : (f : ProofFault) → number f < 2 → ¬ Holds n b proof f
      none Order less = λ bad. bad rising
      none _ less = absurd (omega (arith, less))

  pub first-sign : IsRising proof.parts → All (λ q. q.row < rows n) proof.parts → ¬ All (λ q. IsSigned (kind_at n b q.row) q.mult) proof.parts → IsFirstFault n b proof Sign
  first-sign rising known h = lone-first Sign refl (sign_holds h) (clear_rows rising known)

  pub first-zero : IsRising proof.parts → All (λ q. q.row < rows n) proof.parts → All (λ q. IsSigned (kind_at n b q.row) q.mult) proof.parts
      → ¬ All (λ q. q.mult ≢ pos 0) proof.parts → IsFirstFault n b proof ZeroPart
  first-zero rising known signed h = lone-first ZeroPart refl h (clear-next 3 (clear_rows rising known) none)
    where
      none : (f : ProofFault) → number f ≡ 3 → ¬ Holds n b proof f
      none Sign e = no_sign signed
      none _ e = absurd (omega (arith, e))

  pub first-wide : AreInOrder n b proof → 2 ^ 126 < weight_of n b proof → IsFirstFault n b proof Wide
  first-wide order h = lone-first Wide refl (wide_holds h) (clear_parts order)

  pub first-nothing : AreInOrder n b proof → weight_of n b proof ≤ 2 ^ 126 → proof.scale ≡ 0 → multipliers.number n b proof ≤ℤ pos 0 → IsFirstFault n b proof ShowsNothing
  first-nothing order narrow none low = lone-first ShowsNothing refl (none, low) (clear-next 5 (clear_parts order) wide)
    where
      wide : (f : ProofFault) → number f ≡ 5 → ¬ Holds n b proof f
      wide Wide e = no_wide narrow
      wide _ e = absurd (omega (arith, e))

  -- ---- no fault
  pub no_fault : AreInOrder n b proof → weight_of n b proof ≤ 2 ^ 126 → (proof.scale ≡ 0 → pos 0 <ℤ multipliers.number n b proof) → IsInOrder n b proof
  unfolding kind_at
  no_fault order narrow shows = record {
    rising = order.rising;
    known = order.known;
    signed = order.signed;
    nonzero = order.nonzero;
    narrow = omega (arith, weight-same);
    shows = shows;
  }

-- A rule's first fault is the plan's first fault where the rules before it are kept.
use Rattle.std.proofs.Common.{◌≡◌, ℕ, ◌<◌, inl, inr, arith, refl}
use Rattle.faults.proofs.First.{IsClear, IsKinded, IsNumbered, kinded-first, kinded-next, numbered-first}
use Rattle.pool_model.specs.Network.{Net}
use Rattle.pool_model.specs.Plan.{Written}
use Rattle.plan_core.specs.Faults.{Breaks, KeepsEach, IsFirstBroken, number, about, IsFirstFault, IsFirstQuality}
use Rattle.plan_core.specs.declared.fault.PlanFault.{PlanFault}
use Rattle.plan_core.specs.declared.fault.PlanFault.TheVariants.{Shape, WeightSum, SourceOver, PoolOver, ProductOver, ProductUnder, QualityOver, QualityUnder, ArcOver}
use Rattle.plan_core.proofs.Accepted.{KeepsFlows}

only_over : (g : PlanFault) (j k : ℕ) → number g ≡ 7 → (i : ℕ) × (m : ℕ) × (g ≡ QualityOver i m)
only_over (QualityOver i m) j k e = (i, m, refl)
only_over g j k e = absurd (omega (arith, e))

over : IsKinded number about (λ j. j) QualityOver
over = record { cause = λ j l i k. refl; values = λ j k. refl; only = only_over; same = λ j l e. e }

only_under : (g : PlanFault) (j k : ℕ) → number g ≡ 8 → (i : ℕ) × (m : ℕ) × (g ≡ QualityUnder i m)
only_under (QualityUnder i m) j k e = (i, m, refl)
only_under g j k e = absurd (omega (arith, e))

under : IsKinded number about (λ j. j) QualityUnder
under = record { cause = λ j l i k. refl; values = λ j k. refl; only = only_under; same = λ j l e. e }

only_arc : (g : PlanFault) → number g ≡ 9 → (a : ℕ) × (g ≡ ArcOver a)
only_arc (ArcOver a) e = (a, refl)
only_arc g e = absurd (omega (arith, e))

along : IsNumbered number about ArcOver
along = record { cause = λ a. refl; value = λ a. refl; only = only_arc }

flows_clear : (n : Net) (w : Written) → KeepsFlows n w → IsClear number (Breaks n w) 7
flows_clear n w kept = record { none = none }
  where
    none : (f : PlanFault) → number f < 7 → ¬ Breaks n w f
    none Shape less = λ h. h kept.shaped
    none (WeightSum l) less = kept.sums l
    none (SourceOver i) less = kept.sources i
    none (PoolOver l) less = kept.pools l
    none (ProductOver j) less = kept.most j
    none (ProductUnder j) less = kept.least j
    none _ less = absurd (omega (arith, less))

pub quality_first : (n : Net) (w : Written) (f : PlanFault) → KeepsFlows n w → IsFirstQuality n w f → IsFirstFault n w f
quality_first n w f kept (inl bad) = kinded-first over bad.product (flows_clear n w kept) bad.first (λ k h. h) (λ k h. h) f bad.quality
quality_first n w f kept (inr (most, bad)) = kinded-first under bad.product (kinded-next over 0 (flows_clear n w kept) most) bad.first (λ k h. h) (λ k h. h) f bad.quality

pub arc_first : (n : Net) (w : Written) (f : PlanFault) → KeepsFlows n w → KeepsEach n w (λ j k. QualityOver j k) → KeepsEach n w (λ j k. QualityUnder j k)
    → IsFirstBroken n w (λ a. ArcOver a) f → IsFirstFault n w f
arc_first n w f kept most least bad = numbered-first along (kinded-next under 0 (kinded-next over 0 (flows_clear n w kept) most) least) (λ a h. h) (λ a h. h) f bad

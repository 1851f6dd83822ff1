-- What the code compares with a pool's maximum, and what it finds in the tables of qualities.
use Rattle.std.proofs.Common.{◌≡◌, ℕ, ◌+◌, ◌*◌, ◌<◌, ◌≤◌, List, [], get_or, Option, Some, None, ℤ, pos, ◌*ℤ◌, ◌<ℤ◌, unsigned_abs, FitsSigned, arith, refl, sym, ap, ◌∙◌, subst}
use Rattle.std.proofs.Math.Nat.{mul-le-mul_left}
use Rattle.std.proofs.lemmas.Int.{to_z-of_z}
use mir.Syntax.{w64}
use mir.Val.{to_z, of_z}
use Rattle.pool_model.specs.Network.{Net, IsLimited}
use Rattle.pool_model.specs.Plan.{Written, plan_of, written_outflow, outflow, product_inflow}
use Rattle.plan_core.specs.Faults.{IsShaped, Keeps, KeepsEach, IsFirstBroken, IsAboveMost, IsBelowLeast}
use Rattle.plan_core.specs.Weighed.{AreQualities, written_quality, IsAbove, IsBelow, IsFirstBelow}
use Rattle.plan_core.specs.declared.fault.PlanFault.TheVariants.{QualityOver, QualityUnder}
use Rattle.plan_core.proofs.Blends.{outflow-plan_of, above_most, most_above, below_least, least_below}

-- ---- pools
pub room_is : (room from base max : ℕ) (read : ℤ) → room ≡ from * unsigned_abs (to_z w64 (of_z w64 read)) → from ≡ base → read ≡ pos max → FitsSigned w64 read → room ≡ base * max
room_is room from base max read e f g fits = e ∙ ap (λ z. z * unsigned_abs (to_z w64 (of_z w64 read))) f ∙ ap (λ z. base * unsigned_abs z) (to_z-of_z w64 read fits ∙ g)

pub pool_over : (n : Net) (w : Written) (l room through : ℕ) → room ≡ w.flow_base * n.pool_max l → through ≡ written_outflow n w l → 1 ≤ w.base → room < through
    → (plan_of n w).base * n.pool_max l < outflow n (plan_of n w) l
pool_over n w l room through e f positive h =
    let more : w.flow_base * n.pool_max l + 1 ≤ written_outflow n w l = omega arith in
    omega (arith, outflow-plan_of n w l, mul-le-mul_left w.base more, positive)

pub pool_within : (n : Net) (w : Written) (l room through : ℕ) → room ≡ w.flow_base * n.pool_max l → through ≡ written_outflow n w l → through ≤ room
    → (plan_of n w).base * n.pool_max l < outflow n (plan_of n w) l → ⊥
pool_within n w l room through e f h over =
    let most : written_outflow n w l ≤ w.flow_base * n.pool_max l = omega arith in
    absurd (omega (arith, outflow-plan_of n w l, mul-le-mul_left w.base most, over))

-- ---- qualities, by the tables
same_above : (s : ℤ) (o : Option ℤ) (a b : ℕ) (x y : ℤ) → a ≡ b → x ≡ y → IsAbove s o a x → IsAbove s o b y
same_above s None a b x y e f h = h
same_above s (Some u) a b x y e f h = subst (λ m. (s *ℤ u *ℤ pos m) <ℤ y) e (subst (λ z. (s *ℤ u *ℤ pos a) <ℤ z) f h)

same_below : (s : ℤ) (o : Option ℤ) (a b : ℕ) (x y : ℤ) → a ≡ b → x ≡ y → IsBelow s o a x → IsBelow s o b y
same_below s None a b x y e f h = h
same_below s (Some u) a b x y e f h = subst (λ m. y <ℤ (s *ℤ u *ℤ pos m)) e (subst (λ z. z <ℤ (s *ℤ u *ℤ pos a)) f h)

module _ (n : Net) (w : Written) (j inflow : ℕ) (columns : List (List ℤ)) (limited : IsLimited n) (shaped : IsShaped n w)
    (in_products : j < n.products) (flow : inflow ≡ product_inflow n (plan_of n w) j)
    (are : AreQualities n w columns) where
  over_at : (k : ℕ) → k < n.qualities → IsAbove (pos n.scale) (n.most j k) inflow (get_or (get_or columns k []) j (pos 0)) → IsAboveMost n (plan_of n w) j k
  over_at k lt h = above_most n w j k limited.out_pools shaped.base.0
      (same_above (pos n.scale) (n.most j k) inflow (product_inflow n (plan_of n w) j) (get_or (get_or columns k []) j (pos 0)) (written_quality n w j k) flow (are k lt j in_products) h)

  at_over : (k : ℕ) → k < n.qualities → IsAboveMost n (plan_of n w) j k → IsAbove (pos n.scale) (n.most j k) inflow (get_or (get_or columns k []) j (pos 0))
  at_over k lt h = same_above (pos n.scale) (n.most j k) (product_inflow n (plan_of n w) j) inflow (written_quality n w j k)
      (get_or (get_or columns k []) j (pos 0)) (sym flow) (sym (are k lt j in_products)) (most_above n w j k limited.out_pools shaped.base.0 h)

  under_at : (k : ℕ) → k < n.qualities → IsBelow (pos n.scale) (n.least j k) inflow (get_or (get_or columns k []) j (pos 0)) → IsBelowLeast n (plan_of n w) j k
  under_at k lt h = below_least n w j k limited.out_pools shaped.base.0
      (same_below (pos n.scale) (n.least j k) inflow (product_inflow n (plan_of n w) j) (get_or (get_or columns k []) j (pos 0)) (written_quality n w j k) flow (are k lt j in_products) h)

  at_under : (k : ℕ) → k < n.qualities → IsBelowLeast n (plan_of n w) j k → IsBelow (pos n.scale) (n.least j k) inflow (get_or (get_or columns k []) j (pos 0))
  at_under k lt h = same_below (pos n.scale) (n.least j k) (product_inflow n (plan_of n w) j) inflow (written_quality n w j k)
      (get_or (get_or columns k []) j (pos 0)) (sym flow) (sym (are k lt j in_products)) (least_below n w j k limited.out_pools shaped.base.0 h)

  pub first_over : (k : ℕ) → IsFirstBelow (λ k. IsAbove (pos n.scale) (n.most j k) inflow (get_or (get_or columns k []) j (pos 0))) n.qualities (Some k) → IsFirstBroken n w (λ k. QualityOver j k) (QualityOver j k)
  first_over k h = record { at = k; is = refl; has = (in_products, h.0, over_at k h.0 h.1); first = λ m lt broken. h.2 m lt (at_over m broken.1 broken.2) }

  pub none_over : IsFirstBelow (λ k. IsAbove (pos n.scale) (n.most j k) inflow (get_or (get_or columns k []) j (pos 0))) n.qualities None → Keeps n w (λ k. QualityOver j k)
  none_over h = λ k broken. h k broken.1 (at_over k broken.1 broken.2)

  pub first_under : (k : ℕ) → IsFirstBelow (λ k. IsBelow (pos n.scale) (n.least j k) inflow (get_or (get_or columns k []) j (pos 0))) n.qualities (Some k)
      → IsFirstBroken n w (λ k. QualityUnder j k) (QualityUnder j k)
  first_under k h = record { at = k; is = refl; has = (in_products, h.0, under_at k h.0 h.1); first = λ m lt broken. h.2 m lt (at_under m broken.1 broken.2) }

  pub none_under : IsFirstBelow (λ k. IsBelow (pos n.scale) (n.least j k) inflow (get_or (get_or columns k []) j (pos 0))) n.qualities None → Keeps n w (λ k. QualityUnder j k)
  none_under h = λ k broken. h k broken.1 (at_under k broken.1 broken.2)

-- at all products
pub all_over : (n : Net) (w : Written) (p : ℕ) → n.products ≤ p → ((j : ℕ) → j < p → Keeps n w (λ k. QualityOver j k)) → KeepsEach n w (λ j k. QualityOver j k)
all_over n w p le kept j k broken = kept j (omega (arith, broken.0)) k broken

pub all_under : (n : Net) (w : Written) (p : ℕ) → n.products ≤ p → ((j : ℕ) → j < p → Keeps n w (λ k. QualityUnder j k)) → KeepsEach n w (λ j k. QualityUnder j k)
all_under n w p le kept j k broken = kept j (omega (arith, broken.0)) k broken

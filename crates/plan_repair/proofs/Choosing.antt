-- The choice among judged plans: what it gives is a gain, no dearer than the plain plan.
use Rattle.std.proofs.Common.{◌≡◌, ℕ, ◌*◌, ◌<◌, Bool, true, false, if◌then◌else◌, Option, Some, None, ℤ, pos, ◌*ℤ◌, ◌≤ℤ◌, ◌<ℤ◌, arith, refl, sym, subst, ap, ◌∙◌}
use Rattle.std.proofs.lemmas.Int.{ints}
use Rattle.std.proofs.lemmas.Option.{none-some}
use Rattle.std.specs.Prelude.{IfSome, IfNone, IsSomeAnd, unwrap_or, int_lt}
use Rattle.std.specs.Option.{ForSome}
use Rattle.integers.proofs.Ring.{additive, mul_comm_ℤ, mul_left_comm_ℤ}
use Rattle.integers.proofs.Order.{le-mul, lt-mul, lt-cancel}
use Rattle.pool_model.specs.Network.{Net}
use Rattle.pool_model.specs.Plan.{Written, plan_of, cost_of}
use Rattle.pool_model.proofs.ArcCosts.{keeps-by_number}
use Rattle.row_model.specs.Entries.{IsCheaper}
use Rattle.plan_core.specs.Faults.{Breaks, IsCostOf}
use Rattle.plan_core.specs.Views.{shown_plan}
use Rattle.plan_core.specs.declared.plan.Cost.{Cost}
use Rattle.plan_core.specs.declared.plan.WrittenPlan.{WrittenPlan}
use Rattle.plan_core.specs.declared.fault.PlanFault.{PlanFault}
use Rattle.plan_core.specs.declared.fault.PlanFault.TheVariants.{Shape, WeightSum, SourceOver, PoolOver, ProductOver, ProductUnder, QualityOver, QualityUnder, ArcOver}
use Rattle.plan_repair.specs.Choices.{IsLimit, is_less, is_below, cheapest, gained}
use Rattle.plan_repair.specs.Repairs.{IsAccepted, IsGain, IsNoDearer}
use Rattle.plan_repair.specs.declared.judging.Judged.{Judged}

-- a plan that breaks a rule is not accepted
pub broken : (n : Net) (w : Written) (f : PlanFault) → Breaks n w f → ¬ IsAccepted n w
broken n w Shape h is = h record { base = is.written.base; flow_base = is.written.flow_base; weights = is.written.weights; outflows = is.written.outflows; direct = is.written.direct }
broken n w (WeightSum l) h is = h.1 (is.written.weight_sums l h.0)
broken n w (SourceOver i) h is = let keeps = is.obeys.carries.sources i h.0 in omega (arith, keeps, h.1)
broken n w (PoolOver l) h is = let keeps = is.obeys.carries.pools l h.0 in omega (arith, keeps, h.1)
broken n w (ProductOver j) h is = let keeps = is.obeys.carries.at_most j h.0 in omega (arith, keeps, h.1)
broken n w (ProductUnder j) h is = let keeps = is.obeys.carries.at_least j h.0 in omega (arith, keeps, h.1)
broken n w (QualityOver j k) h is = let keeps = is.obeys.blends.at_most j k h.2.most h.0 h.1 h.2.is in omega (arith, additive, keeps, h.2.above)
broken n w (QualityUnder j k) h is = let keeps = is.obeys.blends.at_least j k h.2.least h.0 h.1 h.2.is in omega (arith, additive, keeps, h.2.below)
broken n w (ArcOver a) h is = let keeps = keeps-by_number n (plan_of n w) is.obeys.carries.arcs a h.1.most h.0 h.1.is in omega (arith, keeps, h.1.above)

pub accepted-is : (n : Net) (w : Written) (c : Cost) → IsCostOf n w c → IsAccepted n w
accepted-is n w c is = record { written = is.written; obeys = is.obeys }

pub some_at : {X : Type 0} (P : X → Type 0) (x : X) → P x → ForSome (Some x) P
some_at P x h y e = subst P (ap (λ o. unwrap_or o y) e) h

-- ---- the order of costs, and of plans

less : (x y : ℤ) → int_lt x y ≡ true → x <ℤ y
less x y h = grind (arith, ints, h)

not_less : (x y : ℤ) → int_lt x y ≡ false → y ≤ℤ x
not_less x y h = grind (arith, ints, h)

is_less-true : (x y : ℤ) → x <ℤ y → int_lt x y ≡ true
is_less-true x y h = grind (arith, ints, h)

cheaper-is : (n : Net) (w other : Written) (a b : Cost) → IsCostOf n w a → IsCostOf n other b → is_less a b ≡ true → IsCheaper n w other
cheaper-is n w other a b is_a is_b h =
    subst (λ (z : ℤ). (pos (other.flow_base * other.base) *ℤ cost_of n (plan_of n w)) <ℤ z) (mul_comm_ℤ (pos (w.flow_base * w.base)) (cost_of n (plan_of n other)))
    (subst (λ (m : ℕ). (pos m *ℤ cost_of n (plan_of n w)) <ℤ (pos (w.flow_base * w.base) *ℤ cost_of n (plan_of n other))) is_b.base
    (subst (λ (m : ℕ). (pos b.base *ℤ cost_of n (plan_of n w)) <ℤ (pos m *ℤ cost_of n (plan_of n other))) is_a.base
    (subst (λ (z : ℤ). (pos b.base *ℤ z) <ℤ (pos a.base *ℤ cost_of n (plan_of n other))) is_a.num
    (subst (λ (z : ℤ). (pos b.base *ℤ a.num) <ℤ (pos a.base *ℤ z)) is_b.num (less (pos b.base *ℤ a.num) (pos a.base *ℤ b.num) h)))))

less-is : (n : Net) (w other : Written) (a b : Cost) → IsCostOf n w a → IsCostOf n other b → IsCheaper n w other → is_less a b ≡ true
less-is n w other a b is_a is_b h =
    is_less-true (pos b.base *ℤ a.num) (pos a.base *ℤ b.num)
    (subst (λ (z : ℤ). (pos b.base *ℤ a.num) <ℤ (pos a.base *ℤ z)) (sym is_b.num)
    (subst (λ (z : ℤ). (pos b.base *ℤ z) <ℤ (pos a.base *ℤ cost_of n (plan_of n other))) (sym is_a.num)
    (subst (λ (m : ℕ). (pos b.base *ℤ cost_of n (plan_of n w)) <ℤ (pos m *ℤ cost_of n (plan_of n other))) (sym is_a.base)
    (subst (λ (m : ℕ). (pos m *ℤ cost_of n (plan_of n w)) <ℤ (pos (w.flow_base * w.base) *ℤ cost_of n (plan_of n other))) (sym is_b.base)
    (subst (λ (z : ℤ). (pos (other.flow_base * other.base) *ℤ cost_of n (plan_of n w)) <ℤ z) (sym (mul_comm_ℤ (pos (w.flow_base * w.base)) (cost_of n (plan_of n other)))) h)))))

-- a is no more than b: the written plans compare as their costs
no_dearer-is : (n : Net) (w other : Written) (a b : Cost) → IsCostOf n w a → IsCostOf n other b → (pos b.base *ℤ a.num) ≤ℤ (pos a.base *ℤ b.num) → IsNoDearer n w other
no_dearer-is n w other a b is_a is_b h =
    subst (λ (m : ℕ). (pos m *ℤ cost_of n (plan_of n w)) ≤ℤ (pos (w.flow_base * w.base) *ℤ cost_of n (plan_of n other))) is_b.base
    (subst (λ (m : ℕ). (pos b.base *ℤ cost_of n (plan_of n w)) ≤ℤ (pos m *ℤ cost_of n (plan_of n other))) is_a.base
    (subst (λ (z : ℤ). (pos b.base *ℤ z) ≤ℤ (pos a.base *ℤ cost_of n (plan_of n other))) is_a.num
    (subst (λ (z : ℤ). (pos b.base *ℤ a.num) ≤ℤ (pos a.base *ℤ z)) is_b.num h)))

-- what is no more than what is less than a limit is less than the limit
below_both : (w p b : ℕ) (cost_w cost_p cost_b : ℤ) → 0 < w → 0 < p → (pos p *ℤ cost_w) ≤ℤ (pos w *ℤ cost_p) → (pos b *ℤ cost_p) <ℤ (cost_b *ℤ pos p) → (pos b *ℤ cost_w) <ℤ (cost_b *ℤ pos w)
below_both w p b cost_w cost_p cost_b some_w some_p no_dearer cheaper =
    lt-cancel (pos p) (pos b *ℤ cost_w) (cost_b *ℤ pos w) (omega (arith, ints, some_p))
    (omega (
      arith,
      additive,
      le-mul (pos b) (pos p *ℤ cost_w) (pos w *ℤ cost_p) (omega (arith, ints)) no_dearer,
      lt-mul (pos w) (pos b *ℤ cost_p) (cost_b *ℤ pos p) (omega (arith, ints, some_w)) cheaper,
      mul_left_comm_ℤ (pos p) (pos b) cost_w,
      mul_left_comm_ℤ (pos w) (pos b) cost_p,
      mul_left_comm_ℤ (pos w) cost_b (pos p),
      mul_left_comm_ℤ (pos p) cost_b (pos w),
      ap (λ (z : ℤ). cost_b *ℤ z) (mul_comm_ℤ (pos w) (pos p)),
    ))

cheaper-both : (n : Net) (w plain other : Written) → IsAccepted n w → IsAccepted n plain → IsNoDearer n w plain → IsCheaper n plain other → IsCheaper n w other
cheaper-both n w plain other is plain_is no_dearer cheaper =
    below_both (w.flow_base * w.base) (plain.flow_base * plain.base) (other.flow_base * other.base) (cost_of n (plan_of n w)) (cost_of n (plan_of n plain)) (cost_of n (plan_of n other))
    is.obeys.denominator plain_is.obeys.denominator no_dearer cheaper

-- ---- what is judged

-- the plan that was judged, as it is written
pub same-plan : (plan : WrittenPlan) (w : Written) (o : Option Judged) → shown_plan plan ≡ w → IfSome o (λ j. j.plan ≡ plan) → IfSome o (λ j. shown_plan j.plan ≡ w)
same-plan plan w None same is = tt
same-plan plan w (Some j) same is = ap shown_plan is ∙ same

pub limit-is : (n : Net) (best : Written) (o : Option Cost) → IsSomeAnd o (IsCostOf n best) → IsLimit n (Some best) o
limit-is n best None is = absurd is
limit-is n best (Some c) is = is

-- ---- the choice

-- what is chosen obeys, and is no dearer than the plain plan; nothing is chosen only where the plain plan is refused
pub record IsChoice (n : Net) (plain : Written) (o : Option Judged) : Type 0 where
  pub cost : IfSome o (λ j. IsCostOf n (shown_plan j.plan) j.cost)
  pub no_dearer : IfSome o (λ j. IsAccepted n plain → IsNoDearer n (shown_plan j.plan) plain)
  pub refused : IfNone o (¬ IsAccepted n plain)

module _ (n : Net) (plain : Written) where
  -- the second plan, which is the plain one, where it is cheaper, and else the first
  chosen-of : (a b : Judged) (t : Bool) → is_less b.cost a.cost ≡ t → IsCostOf n (shown_plan a.plan) a.cost → IsCostOf n (shown_plan b.plan) b.cost → shown_plan b.plan ≡ plain
      → IsChoice n plain (if t then Some b else Some a)
  chosen-of a b true e is_a is_b same = record {
    cost = is_b;
    no_dearer = λ _. subst (λ (w : Written). IsNoDearer n (shown_plan b.plan) w) same (omega (arith, additive));
    refused = tt;
  }
  chosen-of a b false e is_a is_b same = record {
    cost = is_a;
    no_dearer = λ _. no_dearer-is n (shown_plan a.plan) plain a.cost b.cost is_a (subst (λ (w : Written). IsCostOf n w b.cost) same is_b)
        (not_less (pos a.cost.base *ℤ b.cost.num) (pos b.cost.base *ℤ a.cost.num) e);
    refused = tt;
  }

  pub chosen : (m p : Option Judged) → IfSome m (λ j. IsCostOf n (shown_plan j.plan) j.cost) → IfSome p (λ j. IsCostOf n (shown_plan j.plan) j.cost) → IfSome p (λ j. shown_plan j.plan ≡ plain)
      → IfNone p (¬ IsAccepted n plain) → IsChoice n plain (cheapest m p)
  chosen None None m_is p_is same refused = record { cost = tt; no_dearer = tt; refused = refused }
  chosen None (Some b) m_is p_is same refused = record {
    cost = p_is;
    no_dearer = λ _. subst (λ (w : Written). IsNoDearer n (shown_plan b.plan) w) same (omega (arith, additive));
    refused = tt;
  }
  chosen (Some a) None m_is p_is same refused = record { cost = m_is; no_dearer = λ is. absurd (refused is); refused = tt }
  chosen (Some a) (Some b) m_is p_is same refused = chosen-of a b (is_less b.cost a.cost) refl m_is p_is same

  -- ---- against the limit

  module _ (best : Option Written) where
    cheaper_below : (w : Written) (a : Cost) (best : Option Written) (limit : Option Cost) → IsCostOf n w a → IsLimit n best limit → is_below a limit ≡ true → ForSome best (IsCheaper n w)
    cheaper_below w a None None is lim h b e = absurd (none-some b e)
    cheaper_below w a None (Some l) is lim h b e = absurd lim
    cheaper_below w a (Some o) None is lim h b e = absurd lim
    cheaper_below w a (Some o) (Some l) is lim h b e = some_at (IsCheaper n w) o (cheaper-is n w o a l is lim h) b e

    not_below : (w : Written) (a : Cost) (best : Option Written) (limit : Option Cost) → IsCostOf n w a → IsLimit n best limit → is_below a limit ≡ false → ¬ ForSome best (IsCheaper n w)
    not_below w a None None is lim h all = cc
    not_below w a None (Some l) is lim h all = absurd lim
    not_below w a (Some o) None is lim h all = absurd lim
    not_below w a (Some o) (Some l) is lim h all = let t = less-is n w o a l is lim (all o refl) in cc

    -- a plan that is no dearer than a gain is cheaper than the best one too
    cheaper_both : (w : Written) → IsAccepted n w → IsAccepted n plain → IsNoDearer n w plain → ForSome best (IsCheaper n plain) → ForSome best (IsCheaper n w)
    cheaper_both w is plain_is no_dearer all b e = cheaper-both n w plain b is plain_is no_dearer (all b e)

    -- what is answered
    pub record IsAnswer (o : Option WrittenPlan) : Type 0 where
      pub gain : IfSome o (λ w. IsGain n best (shown_plan w))
      pub no_dearer : IfSome o (λ w. IsAccepted n plain → IsNoDearer n (shown_plan w) plain)
      pub none : IfNone o (¬ IsGain n best plain)

    answered-of : (j : Judged) (limit : Option Cost) (t : Bool) → is_below j.cost limit ≡ t → IsChoice n plain (Some j) → IsLimit n best limit → IsAnswer (if t then Some j.plan else None)
    answered-of j limit true e choice lim = record {
      gain = record { accepted = accepted-is n (shown_plan j.plan) j.cost choice.cost; cheaper = cheaper_below (shown_plan j.plan) j.cost best limit choice.cost lim e };
      no_dearer = choice.no_dearer;
      none = tt;
    }
    answered-of j limit false e choice lim = record {
      gain = tt;
      no_dearer = tt;
      none = λ is. not_below (shown_plan j.plan) j.cost best limit choice.cost lim e
          (cheaper_both (shown_plan j.plan) (accepted-is n (shown_plan j.plan) j.cost choice.cost) is.accepted (choice.no_dearer is.accepted) is.cheaper);
    }

    pub answered : (o : Option Judged) (limit : Option Cost) → IsChoice n plain o → IsLimit n best limit → IsAnswer (gained o limit)
    answered None limit choice lim = record { gain = tt; no_dearer = tt; none = λ is. choice.refused is.accepted }
    answered (Some j) limit choice lim = answered-of j limit (is_below j.cost limit) refl choice lim

-- Starting plans and the best plan.
use Rattle.std.proofs.Common.{◌≡◌, ℕ, ◌*◌, ◌≤◌, inl, inr, Option, Some, None, ℤ, pos, ◌*ℤ◌, ◌≤ℤ◌, ◌<ℤ◌, arith, refl, sym, ap, subst, ◌∙◌}
use Rattle.std.specs.Option.{ForSome}
use Rattle.std.proofs.lemmas.Option.{none-some}
use Rattle.std.proofs.lemmas.Int.{ints}
use Rattle.integers.proofs.Ring.{sorted, additive}
use Rattle.integers.proofs.Order.{le-mul, lt-mul, lt-cancel}
use Rattle.pool_model.specs.Network.{Net}
use Rattle.pool_model.specs.Plan.{Written, IsWritten, Obeys, plan_of, cost_of}
use Rattle.pool_model.specs.Starting.{IsStarting, IsCheapestStart, Way, through, straight, simple_plan}
use Rattle.pool_model.proofs.StartOrder.{start_at-starting}
use Rattle.row_model.specs.Entries.{Searched, improve, after, IsCheaper}
use Rattle.search_core.specs.Searches.{Costed, IsStartOf}
use Rattle.search_core.specs.Cases.{HasNoBetterStart}
use Rattle.search_run.specs.Found.{CoversStarts}

-- ---- starting plans are over 1

abbrev base_of : Written → ℕ
base_of w = w.flow_base * w.base

way_over_one : (n : Net) (way : Way) → base_of (simple_plan n way) ≡ 1
way_over_one n (through e o) = refl
way_over_one n (straight e) = refl

pub start-over-one : (n : Net) (w : Written) → IsStarting n w → base_of w ≡ 1
start-over-one n w (inl is) = ap (λ (v : Written). base_of v) is
start-over-one n w (inr (way, there, is)) = ap (λ (v : Written). base_of v) is ∙ way_over_one n way

pub cheapest-starts : (n : Net) (w : Written) → IsCheapestStart n w → IsStarting n w
cheapest-starts n w c = subst (IsStarting n) (sym c.is) (start_at-starting n c.number c.there)

-- ---- what is cheaper

below : (b a c o : ℤ) → pos 0 ≤ℤ b → a ≤ℤ c → (b *ℤ c) <ℤ o → (b *ℤ a) <ℤ o
below b a c o h k less = omega (arith, ints, le-mul b a c h k)

-- where a starting plan that obeys is cheaper than a plan, the cheapest one is
cheapest-too : (n : Net) (w v other : Written) → IsCheapestStart n w → IsStarting n v → Obeys n (plan_of n v) → IsCheaper n v other → IsCheaper n w other
cheapest-too n w v other c starting obeys less =
    let base = pos (base_of other) in
    let cost = cost_of n (plan_of n other) in
    subst (λ (m : ℕ). (base *ℤ cost_of n (plan_of n w)) <ℤ (cost *ℤ pos m)) (start-over-one n v starting ∙ sym (start-over-one n w (cheapest-starts n w c)))
    (below base (cost_of n (plan_of n w)) (cost_of n (plan_of n v)) (cost *ℤ pos (base_of v)) (omega (arith, ints)) (c.no_dearer v starting obeys) less)

-- no plan is cheaper than itself
not-less : (b a : ℤ) → ¬ ((b *ℤ a) <ℤ (a *ℤ b))
not-less b a h = omega (arith, ints, simp sorted at h)

-- a over x is less than b over y, and that less than c over z
pub lt-then-lt : (a x b y c z : ℤ) → pos 0 <ℤ x → pos 0 <ℤ y → pos 0 <ℤ z → (y *ℤ a) <ℤ (b *ℤ x) → (z *ℤ b) <ℤ (c *ℤ y) → (z *ℤ a) <ℤ (c *ℤ x)
lt-then-lt a x b y c z p q r h k =
    lt-cancel y (z *ℤ a) (c *ℤ x) q (simp sorted (omega (arith, additive, simp sorted at (lt-mul z (y *ℤ a) (b *ℤ x) r h), simp sorted at (lt-mul x (z *ℤ b) (c *ℤ y) p k))))

pub written-base : (n : Net) (w : Written) → IsWritten n w → pos 0 <ℤ pos (base_of w)
written-base n w is = omega (arith, ints, product w.flow_base w.base is.flow_base.0 is.base.0)
  where
    product : (a b : ℕ) → 1 ≤ a → 1 ≤ b → 1 ≤ a * b
    product a b h k = grind arith

start-base : (n : Net) (w : Written) → IsStarting n w → pos 0 <ℤ pos (base_of w)
start-base n w is = subst (λ (m : ℕ). pos 0 <ℤ pos m) (sym (start-over-one n w is)) (omega (arith, ints))

-- ---- the best plan

same : (x y : Written) → Some x ≡ Some y → x ≡ y
same x y e = cc

some_at : (P : Written → Type 0) (x : Written) → P x → ForSome (Some x) P
some_at P x h y f = subst P (same x y f) h

pub covers : (n : Net) (start : Option Costed) (s : Searched) → IsStartOf n start → HasNoBetterStart n s → CoversStarts n s.best
covers n start s is none = by start s.best refl is
  where
    by : (start : Option Costed) (best : Option Written) → s.best ≡ best → IsStartOf n start → CoversStarts n best
    by None None e is = is
    by None (Some plan) e is = λ w starting obeys cheaper. is w starting obeys
    by (Some c) None e is = λ w starting obeys. none c.plan record { cheapest = is.0; cheaper = λ x f. absurd (none-some x (sym e ∙ f)) }
    by (Some c) (Some plan) e is = λ w starting obeys cheaper. none c.plan record {
      cheapest = is.0;
      cheaper = subst (λ (b : Option Written). ForSome b (IsCheaper n c.plan)) (sym e) (some_at (IsCheaper n c.plan) plan (cheapest-too n c.plan w plan is.0 starting obeys cheaper));
    }

-- once the cheapest starting plan is taken, no starting plan is better
pub none-after-start : (n : Net) (s : Searched) (w : Written) → IsCheapestStart n w → HasNoBetterStart n (after s (improve w))
none-after-start n s w c v better =
    not-less (pos (base_of w)) (cost_of n (plan_of n w))
    (cheapest-too n w v w c (cheapest-starts n v better.cheapest) better.cheapest.obeys (better.cheaper w refl))

-- nor where none was, and a cheaper plan is taken
pub none-after-plan : (n : Net) (s : Searched) (w : Written) → ForSome s.best (IsWritten n) → IsWritten n w → ForSome s.best (IsCheaper n w) → HasNoBetterStart n s
    → HasNoBetterStart n (after s (improve w))
none-after-plan n s w known written cheaper none v better = none v record {
  cheapest = better.cheapest;
  cheaper = λ b e. lt-then-lt (cost_of n (plan_of n v)) (pos (base_of v)) (cost_of n (plan_of n w)) (pos (base_of w)) (cost_of n (plan_of n b)) (pos (base_of b))
      (start-base n v (cheapest-starts n v better.cheapest)) (written-base n w written) (written-base n b (known b e)) (better.cheaper w refl) (cheaper b e);
}

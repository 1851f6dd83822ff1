-- A cost that is at most a gap above a bound.
use Rattle.std.proofs.Common.{◌≡◌, ℕ, ◌^◌, ◌↔◌, Bool, IsTrue, ℤ, pos, ◌+ℤ◌, ◌-ℤ◌, ◌*ℤ◌, ◌≤ℤ◌, Option, Some, None, FitsSigned, arith, refl, sym, ap, subst, ◌∙◌}
use Rattle.std.proofs.lemmas.Int.{ints, by_lt_z}
use mir.Syntax.{w128}
use Rattle.std.proofs.lemmas.Option.{none-some}
use Rattle.integers.proofs.Ring.{add-mul, additive}
use Rattle.integers.proofs.Order.{le-mul}
use Rattle.pool_model.specs.Network.{Net}
use Rattle.pool_model.specs.Plan.{Written, plan_of, cost_of}
use Rattle.plan_core.specs.declared.plan.Cost.{Cost}
use Rattle.plan_core.specs.Faults.{IsCostOf}
use Rattle.row_model.specs.Trees.{tree_bound}
use Rattle.box_tree.specs.Kept.{Kept, searched_of, IsKeptCost}
use Rattle.search_core.specs.Cases.{IsNear, IsClosed}

-- a cost over a base is at most a gap above a bound
abbrev pub IsWithinGap : Cost → ℤ → ℤ → Type 0
IsWithinGap c least gap = (c.num -ℤ least *ℤ pos c.base) ≤ℤ (gap *ℤ pos c.base)

-- it is so where the cost is at most bound and gap together, times the base
pub near-from : (num least gap base most : ℤ) → most ≡ least +ℤ gap → num ≤ℤ (most *ℤ base) → (num -ℤ least *ℤ base) ≤ℤ (gap *ℤ base)
near-from num least gap base most e h = let s : most *ℤ base ≡ least *ℤ base +ℤ gap *ℤ base = ap (λ (z : ℤ). z *ℤ base) e ∙ add-mul least gap base in omega (arith, additive, s, h)

pub near-to : (num least gap base most : ℤ) → most ≡ least +ℤ gap → (num -ℤ least *ℤ base) ≤ℤ (gap *ℤ base) → num ≤ℤ (most *ℤ base)
near-to num least gap base most e h = let s : most *ℤ base ≡ least *ℤ base +ℤ gap *ℤ base = ap (λ (z : ℤ). z *ℤ base) e ∙ add-mul least gap base in omega (arith, additive, s, h)

-- what passes all numbers passes each cost
at-least-one : (a b : ℤ) → pos 1 ≤ℤ b → pos 0 ≤ℤ a → a ≤ℤ (a *ℤ b)
at-least-one a b h k = let m = le-mul a (pos 1) b k h in omega (arith, ints, m)

pub far-above : (num least gap base : ℤ) → num ≤ℤ (least +ℤ gap) → pos 0 ≤ℤ (least +ℤ gap) → pos 1 ≤ℤ base → (num -ℤ least *ℤ base) ≤ℤ (gap *ℤ base)
far-above num least gap base h k one =
    near-from num least gap base (least +ℤ gap) refl (let m = at-least-one (least +ℤ gap) base one k in omega (arith, additive, h, m))

-- where a bound and a gap together pass 128 bits, they pass each number of 128 bits
pub passes-all : (num least gap : ℤ) → FitsSigned w128 num → FitsSigned w128 least → pos 0 ≤ℤ gap → ¬ FitsSigned w128 (least +ℤ gap) → (num ≤ℤ (least +ℤ gap)) × (pos 0 ≤ℤ (least +ℤ gap))
passes-all num least gap f g h out =
    by_lt_z (least +ℤ gap) (pos (2 ^ 127)) (λ lt. absurd (out (omega (arith, ints)))) (λ le. (omega (arith, ints), omega (arith, ints)))

-- ---- the best plan and what it costs

module _ (n : Net) (gap least : ℤ) where
  near-plan : (w : Written) (c : Cost) → IsCostOf n w c → IsWithinGap c least gap → IsNear n gap least w
  near-plan w c is h =
      subst (λ (m : ℕ). (cost_of n (plan_of n w) -ℤ least *ℤ pos m) ≤ℤ (gap *ℤ pos m)) is.base
      (subst (λ (z : ℤ). (z -ℤ least *ℤ pos c.base) ≤ℤ (gap *ℤ pos c.base)) is.num h)

  near-cost : (w : Written) (c : Cost) → IsCostOf n w c → IsNear n gap least w → IsWithinGap c least gap
  near-cost w c is h =
      subst (λ (z : ℤ). (z -ℤ least *ℤ pos c.base) ≤ℤ (gap *ℤ pos c.base)) (sym is.num)
      (subst (λ (m : ℕ). (cost_of n (plan_of n w) -ℤ least *ℤ pos m) ≤ℤ (gap *ℤ pos m)) (sym is.base) h)

  some-same : {X : Type 0} (a b : X) → Some a ≡ Some b → a ≡ b
  some-same a b e = cc

  pub closed-from : (k : Kept) (c : Cost) → IsKeptCost n k.best k.cost → k.cost ≡ Some c → tree_bound n (searched_of k).tree ≡ Some least → IsWithinGap c least gap → IsClosed n gap (searched_of k)
  closed-from k c kept at bounded h = from k.best k.cost refl kept at
    where
      from : (best : Option Written) (cost : Option Cost) → k.best ≡ best → IsKeptCost n best cost → cost ≡ Some c → IsClosed n gap (searched_of k)
      from None None e is at = absurd (none-some c at)
      from None (Some d) e is at = absurd is
      from (Some w) None e is at = absurd is
      from (Some w) (Some d) e is at = record {
        plan = w;
        best = e;
        least = least;
        bounded = bounded;
        near = near-plan w d is (subst (λ (x : Cost). IsWithinGap x least gap) (sym (some-same d c at)) h);
      }

  pub closed-to : (k : Kept) (c : Cost) → IsKeptCost n k.best k.cost → k.cost ≡ Some c → tree_bound n (searched_of k).tree ≡ Some least → IsClosed n gap (searched_of k) → IsWithinGap c least gap
  closed-to k c kept at bounded is = from k.best k.cost refl kept at
    where
      from : (best : Option Written) (cost : Option Cost) → k.best ≡ best → IsKeptCost n best cost → cost ≡ Some c → IsWithinGap c least gap
      from None None e of at = absurd (none-some c at)
      from None (Some d) e of at = absurd of
      from (Some w) None e of at = absurd of
      from (Some w) (Some d) e of at =
          let plan : w ≡ is.plan = some-same w is.plan (sym e ∙ is.best) in
          let bound : is.least ≡ least = some-same is.least least (sym is.bounded ∙ bounded) in
          subst (λ (x : Cost). IsWithinGap x least gap) (some-same d c at)
          (near-cost w d of (subst (λ (z : ℤ). IsNear n gap z w) bound (subst (λ (v : Written). IsNear n gap is.least v) (sym plan) is.near)))

-- both ways, where there is a plan
pub closed-where : (n : Net) (gap least : ℤ) (k : Kept) (c : Cost) (b : Bool) → IsKeptCost n k.best k.cost → k.cost ≡ Some c → tree_bound n (searched_of k).tree ≡ Some least
    → (IsTrue b ↔ IsWithinGap c least gap) → (IsTrue b ↔ IsClosed n gap (searched_of k))
closed-where n gap least k c b kept at bounded h = (λ t. closed-from n gap least k c kept at bounded (h.0 t), λ is. h.1 (closed-to n gap least k c kept at bounded is))

-- a gap that may be asked for fits 128 bits
pub gap-fits : (gap : ℤ) → pos 0 ≤ℤ gap → gap ≤ℤ pos (10 ^ 24) → FitsSigned w128 gap
gap-fits gap h k = omega (arith, ints)

-- The point of a plan meets the box that the plan lies in, and costs what the plan costs.
use Rattle.std.proofs.Common.{◌≡◌, ℕ, ◌<◌, ◌∙◌, ℤ, pos, ◌+ℤ◌, ◌*ℤ◌, ◌≤ℤ◌, ◌<ℤ◌, sym, ap, subst, refl, arith}
use Rattle.std.proofs.Math.IntN.{*ℤ-zero}
use Rattle.integers.specs.Sums.{int_sum_below, product_below}
use Rattle.integers.proofs.Ring.{additive, sorted, mul_comm_ℤ}
use Rattle.integers.proofs.Order.{le-cancel, same-cancel}
use Rattle.integers.proofs.ByIndex.{int_sum_below-mul, int_sum_below-same}
use Rattle.pool_model.specs.Network.{Net}
use Rattle.pool_model.specs.Plan.{Plan, cost_of, factor}
use Rattle.row_model.specs.Boxes.{Box}
use Rattle.row_model.specs.Catalogue.{Kind, at_least, equal, row_at, rows}
use Rattle.row_model.specs.Lift.{HoldsAt, IsMet, lift, lift_base}
use Rattle.row_model.specs.Variables.{by_number, costs, dot, highs, lows, variables}
use Rattle.row_model.proofs.Numbering.{by_number-dot}
use Rattle.box_space.specs.declared.coordinates.Form.{Form}
use Rattle.row_book.specs.PartRows.{coef_at, constant_at, kind_at}
use Rattle.relaxation_points.specs.Points.{Meets, Point, cost_value, row_value}
use Rattle.tight_leaf.specs.PlanPoints.{IsPlanPoint}

module _ (n : Net) (b : Box) (p : Plan) (q : Point) (is : IsPlanPoint n p q) (some : pos 0 <ℤ pos (product_below (factor n p) n.pools)) where
  abbrev all : ℤ
  all = pos (product_below (factor n p) n.pools)

  -- an end over the point's base
  over-low : (v : ℕ) (z : ℤ) → v < variables n → (z *ℤ pos (lift_base n p)) ≤ℤ by_number n (lift n p) v → (z *ℤ pos q.base) ≤ℤ q.value v
  over-low v z lt h =
      le-cancel all (z *ℤ pos q.base) (q.value v) some
      (omega (arith, additive, h, is.value v lt, mul_comm_ℤ all (q.value v), base-over z))
    where
      turned : (z d a : ℤ) → a *ℤ (z *ℤ d) ≡ z *ℤ (d *ℤ a)
      turned z d a = simp sorted refl

      base-over : (z : ℤ) → all *ℤ (z *ℤ pos q.base) ≡ z *ℤ pos (lift_base n p)
      base-over z = ap (λ (k : ℕ). all *ℤ (z *ℤ pos k)) is.base ∙ turned z (pos p.base) all

  over-high : (v : ℕ) (z : ℤ) → v < variables n → by_number n (lift n p) v ≤ℤ (z *ℤ pos (lift_base n p)) → q.value v ≤ℤ (z *ℤ pos q.base)
  over-high v z lt h =
      le-cancel all (q.value v) (z *ℤ pos q.base) some
      (omega (arith, additive, h, is.value v lt, mul_comm_ℤ all (q.value v), base-over z))
    where
      turned : (z d a : ℤ) → a *ℤ (z *ℤ d) ≡ z *ℤ (d *ℤ a)
      turned z d a = simp sorted refl

      base-over : (z : ℤ) → all *ℤ (z *ℤ pos q.base) ≡ z *ℤ pos (lift_base n p)
      base-over z = ap (λ (k : ℕ). all *ℤ (z *ℤ pos k)) is.base ∙ turned z (pos p.base) all

  -- a sum over the variables at the point, times the factors of all pools
  sum-over : (f : ℕ → ℤ) → int_sum_below (λ v. f v *ℤ by_number n (lift n p) v) (variables n) ≡ all *ℤ int_sum_below (λ v. f v *ℤ q.value v) (variables n)
  sum-over f =
      int_sum_below-same (λ v. f v *ℤ by_number n (lift n p) v) (λ v. all *ℤ (f v *ℤ q.value v)) (variables n)
      (λ v lt. ap (λ (z : ℤ). f v *ℤ z) (sym (is.value v lt)) ∙ turned (f v) (q.value v) all)
      ∙ int_sum_below-mul all (λ v. f v *ℤ q.value v) (variables n)
    where
      turned : (c v a : ℤ) → c *ℤ (v *ℤ a) ≡ a *ℤ (c *ℤ v)
      turned c v a = simp sorted refl

  row-over : (id : ℕ) → dot n (row_at n b id).coefs (lift n p) +ℤ (row_at n b id).constant *ℤ pos (lift_base n p)
      ≡ all *ℤ (int_sum_below (λ v. by_number n (row_at n b id).coefs v *ℤ q.value v) (variables n) +ℤ (row_at n b id).constant *ℤ pos q.base)
  row-over id =
      ap (λ (z : ℤ). z +ℤ (row_at n b id).constant *ℤ pos (lift_base n p)) (sym (by_number-dot n (row_at n b id).coefs (lift n p)) ∙ sum-over (by_number n (row_at n b id).coefs))
      ∙ joined all (int_sum_below (λ v. by_number n (row_at n b id).coefs v *ℤ q.value v) (variables n)) (row_at n b id).constant (pos p.base)
      ∙ ap (λ (k : ℕ). all *ℤ (int_sum_below (λ v. by_number n (row_at n b id).coefs v *ℤ q.value v) (variables n) +ℤ (row_at n b id).constant *ℤ pos k)) (sym is.base)
    where
      joined : (a s c d : ℤ) → a *ℤ s +ℤ c *ℤ (d *ℤ a) ≡ a *ℤ (s +ℤ c *ℤ d)
      joined a s c d = simp sorted (omega (arith, additive))

  met-over : (kind : Kind) (z y : ℤ) → y ≡ all *ℤ z → IsMet kind y → IsMet kind z
  met-over at_least z y e h = le-cancel all (pos 0) z some (omega (arith, additive, e, h, *ℤ-zero all))
  met-over equal z y e h = same-cancel all z (pos 0) some (sym e ∙ h ∙ sym (*ℤ-zero all))

  row-met : (id : ℕ) → HoldsAt n p (row_at n b id) → IsMet (kind_at n b id) (row_value n b q id)
  unfolding kind_at coef_at constant_at
  row-met id h =
      met-over (row_at n b id).kind (int_sum_below (λ v. by_number n (row_at n b id).coefs v *ℤ q.value v) (variables n) +ℤ (row_at n b id).constant *ℤ pos q.base)
      (dot n (row_at n b id).coefs (lift n p) +ℤ (row_at n b id).constant *ℤ pos (lift_base n p)) (row-over id) h

  -- where the plan's lift lies between all ends and meets all rows, so does its point
  pub meets : 0 < p.base → ((v : ℕ) → v < variables n → (by_number n (lows n b) v *ℤ pos (lift_base n p)) ≤ℤ by_number n (lift n p) v)
      → ((v : ℕ) → v < variables n → by_number n (lift n p) v ≤ℤ (by_number n (highs n b) v *ℤ pos (lift_base n p)))
      → ((id : ℕ) → id < rows n → HoldsAt n p (row_at n b id)) → (form : Form) → Meets n form b q
  meets positive low high held form = record {
    base = subst (λ (k : ℕ). 0 < k) (sym is.base) positive;
    ends = λ v lt. record { low = over-low v (by_number n (lows n b) v) lt (low v lt); high = over-high v (by_number n (highs n b) v) lt (high v lt) };
    rows = λ id h. row-met id (held id h.0);
  }

  -- it costs what the plan costs
  pub point-cost : int_sum_below (λ v. by_number n (costs n) v *ℤ by_number n (lift n p) v) (variables n) ≡ all *ℤ cost_of n p → cost_value n q ≡ cost_of n p
  point-cost e = same-cancel all (cost_value n q) (cost_of n p) some (sym (sum-over (by_number n (costs n))) ∙ e)

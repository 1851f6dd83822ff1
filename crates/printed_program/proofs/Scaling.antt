-- Rows and costs at numbers that are multiples of others: what a row says does not rest on the denominator.
use Rattle.std.proofs.Common.{◌≡◌, ℕ, ◌*◌, ◌<◌, ℤ, pos, ◌+ℤ◌, ◌*ℤ◌, ◌<ℤ◌, arith, refl, sym, ap, ◌∙◌}
use Rattle.std.proofs.Math.IntN.{*ℤ-zero, zero-*ℤ}
use Rattle.integers.specs.Sums.{int_sum_below, product_below}
use Rattle.integers.proofs.Ring.{additive, linear, sorted, mul_left_comm_ℤ}
use Rattle.integers.proofs.Order.{nonneg-mul, same-cancel}
use Rattle.integers.proofs.ByIndex.{int_sum_below-same, int_sum_below-mul}
use Rattle.pool_model.specs.Network.{Net}
use Rattle.pool_model.specs.Plan.{Plan, cost_of, factor}
use Rattle.row_model.specs.Variables.{PerVariable, none, path_count, variables, by_number, dot, costs}
use Rattle.row_model.specs.Catalogue.{Kind, at_least, equal, Row}
use Rattle.row_model.specs.Lift.{IsMet, lift, value_over, MeetsRow}
use Rattle.row_model.proofs.Numbering.{by_number-dot}
use Rattle.program_model.proofs.Means.{positive-factors}

-- a coefficient times a number is k times the coefficient times another number
abbrev pub IsTimes : ℤ → ℤ → ℤ → ℤ → Type 0
IsTimes k c w v = c *ℤ w ≡ k *ℤ (c *ℤ v)

pub times-number : (k c w v : ℤ) → w ≡ k *ℤ v → IsTimes k c w v
times-number k c w v e = ap (λ z. c *ℤ z) e ∙ mul_left_comm_ℤ c k v

pub times-nothing : (k c w v : ℤ) → c ≡ pos 0 → IsTimes k c w v
times-nothing k c w v e = ap (λ z. z *ℤ w) e ∙ zero-*ℤ w ∙ sym (*ℤ-zero k) ∙ ap (λ z. k *ℤ z) (sym (zero-*ℤ v) ∙ ap (λ z. z *ℤ v) (sym e))

-- for each variable
pub record AreTimes (n : Net) (k : ℤ) (c a b : PerVariable) : Type 0 where
  pub x : (e : ℕ) → e < n.feeds → IsTimes k (c.x e) (a.x e) (b.x e)
  pub y : (o : ℕ) → o < n.outs → IsTimes k (c.y o) (a.y o) (b.y o)
  pub z : (e : ℕ) → e < n.directs → IsTimes k (c.z e) (a.z e) (b.z e)
  pub w : (q : ℕ) → q < path_count n → IsTimes k (c.w q) (a.w q) (b.w q)
  pub proportion : (e : ℕ) → e < n.feeds → IsTimes k (c.proportion e) (a.proportion e) (b.proportion e)
  pub quality : (l k' : ℕ) → l < n.pools → k' < n.qualities → IsTimes k (c.quality l k') (a.quality l k') (b.quality l k')
  pub mixed : (o k' : ℕ) → o < n.outs → k' < n.qualities → IsTimes k (c.mixed o k') (a.mixed o k') (b.mixed o k')

sum-times : (k : ℤ) (c w v : ℕ → ℤ) (m : ℕ) → ((i : ℕ) → i < m → IsTimes k (c i) (w i) (v i)) → int_sum_below (λ i. c i *ℤ w i) m ≡ k *ℤ int_sum_below (λ i. c i *ℤ v i) m
sum-times k c w v m h = int_sum_below-same (λ i. c i *ℤ w i) (λ i. k *ℤ (c i *ℤ v i)) m h ∙ int_sum_below-mul k (λ i. c i *ℤ v i) m

sums-times : (k : ℤ) (c w v : ℕ → ℕ → ℤ) (m q : ℕ) → ((i j : ℕ) → i < m → j < q → IsTimes k (c i j) (w i j) (v i j))
    → int_sum_below (λ i. int_sum_below (λ j. c i j *ℤ w i j) q) m ≡ k *ℤ int_sum_below (λ i. int_sum_below (λ j. c i j *ℤ v i j) q) m
sums-times k c w v m q h =
    int_sum_below-same (λ i. int_sum_below (λ j. c i j *ℤ w i j) q) (λ i. k *ℤ int_sum_below (λ j. c i j *ℤ v i j) q) m (λ i lt. sum-times k (c i) (w i) (v i) q (λ j lj. h i j lt lj))
    ∙ int_sum_below-mul k (λ i. int_sum_below (λ j. c i j *ℤ v i j) q) m

pub dot-times : (n : Net) (k : ℤ) (c w v : PerVariable) → AreTimes n k c w v → dot n c w ≡ k *ℤ dot n c v
dot-times n k c w v h =
    omega (
      arith,
      additive,
      sum-times k c.x w.x v.x n.feeds h.x,
      sum-times k c.y w.y v.y n.outs h.y,
      sum-times k c.z w.z v.z n.directs h.z,
      sum-times k c.w w.w v.w (path_count n) h.w,
      sum-times k c.proportion w.proportion v.proportion n.feeds h.proportion,
      sums-times k c.quality w.quality v.quality n.pools n.qualities h.quality,
      sums-times k c.mixed w.mixed v.mixed n.outs n.qualities h.mixed,
      seven k (int_sum_below (λ e. c.x e *ℤ v.x e) n.feeds) (int_sum_below (λ o. c.y o *ℤ v.y o) n.outs) (int_sum_below (λ e. c.z e *ℤ v.z e) n.directs)
          (int_sum_below (λ a. c.w a *ℤ v.w a) (path_count n)) (int_sum_below (λ e. c.proportion e *ℤ v.proportion e) n.feeds)
          (int_sum_below (λ l. int_sum_below (λ j. c.quality l j *ℤ v.quality l j) n.qualities) n.pools)
          (int_sum_below (λ o. int_sum_below (λ j. c.mixed o j *ℤ v.mixed o j) n.qualities) n.outs),
    )
  where
    seven : (k a b c d e f g : ℤ) → k *ℤ (a +ℤ b +ℤ c +ℤ d +ℤ e +ℤ f +ℤ g) ≡ k *ℤ a +ℤ k *ℤ b +ℤ k *ℤ c +ℤ k *ℤ d +ℤ k *ℤ e +ℤ k *ℤ f +ℤ k *ℤ g
    seven k a b c d e f g = simp sorted (omega (arith, additive))

-- ---- rows

met-times : (kind : Kind) (k : ℕ) (z : ℤ) → IsMet kind z → IsMet kind (pos k *ℤ z)
met-times at_least k z h = nonneg-mul (pos k) z (omega (arith, linear)) h
met-times equal k z h = ap (λ t. pos k *ℤ t) h ∙ *ℤ-zero (pos k)

pub row-times : (n : Net) (k base : ℕ) (r : Row) (w v : PerVariable) → AreTimes n (pos k) r.coefs w v → MeetsRow n v base r → MeetsRow n w (base * k) r
row-times n k base r w v h met =
    let e : value_over n w (base * k) r ≡ pos k *ℤ value_over n v base r =
    ap (λ z. z +ℤ r.constant *ℤ pos (base * k)) (dot-times n (pos k) r.coefs w v h) ∙ out (pos k) (dot n r.coefs v) r.constant (pos base) in
    rw e (met-times r.kind k (value_over n v base r) met)
  where
    out : (k d c b : ℤ) → k *ℤ d +ℤ c *ℤ (b *ℤ k) ≡ k *ℤ (d +ℤ c *ℤ b)
    out k d c b = simp sorted (omega (arith, additive))

-- ---- costs

-- the flows of a plan, and no other number
abbrev pub plain : Plan → PerVariable
plain p = record none { x = λ e. pos (p.feed e); y = λ o. pos (p.out o); z = λ e. pos (p.direct e) }

-- flows that are a multiple of a plan's cost that multiple
pub costs-times : (n : Net) (k : ℤ) (w : PerVariable) (p : Plan) → ((e : ℕ) → e < n.feeds → w.x e ≡ k *ℤ pos (p.feed e)) → ((o : ℕ) → o < n.outs → w.y o ≡ k *ℤ pos (p.out o))
    → ((e : ℕ) → e < n.directs → w.z e ≡ k *ℤ pos (p.direct e)) → dot n (costs n) w ≡ k *ℤ dot n (costs n) (plain p)
costs-times n k w p hx hy hz = dot-times n k (costs n) w (plain p) record {
  x = λ e lt. times-number k ((costs n).x e) (w.x e) (pos (p.feed e)) (hx e lt);
  y = λ o lt. times-number k ((costs n).y o) (w.y o) (pos (p.out o)) (hy o lt);
  z = λ e lt. times-number k ((costs n).z e) (w.z e) (pos (p.direct e)) (hz e lt);
  w = λ a lt. times-nothing k (pos 0) (w.w a) (pos 0) refl;
  proportion = λ e lt. times-nothing k (pos 0) (w.proportion e) (pos 0) refl;
  quality = λ l j lt lj. times-nothing k (pos 0) (w.quality l j) (pos 0) refl;
  mixed = λ o j lt lj. times-nothing k (pos 0) (w.mixed o j) (pos 0) refl;
}

-- The cost of a plan is that of its flows: it is so, times a number above 0, at the plan's point.
pub plain-cost : (n : Net) (p : Plan)
    → int_sum_below (λ v. by_number n (costs n) v *ℤ by_number n (lift n p) v) (variables n) ≡ pos (product_below (factor n p) n.pools) *ℤ cost_of n p
    → dot n (costs n) (plain p) ≡ cost_of n p
plain-cost n p lifted_cost =
    let m = product_below (factor n p) n.pools in
    let lifted = costs-times n (pos m) (lift n p) p (λ e lt. refl) (λ o lt. refl) (λ e lt. refl) in
    same-cancel (pos m) (dot n (costs n) (plain p)) (cost_of n p) (positive m (positive-factors n p)) (sym lifted ∙ sym (by_number-dot n (costs n) (lift n p)) ∙ lifted_cost)
  where
    positive : (m : ℕ) → 0 < m → pos 0 <ℤ pos m
    positive m h = omega (arith, linear)

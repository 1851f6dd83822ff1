-- Form P: the point of a plan that obeys is a point of it, and the flows of a point are a plan that obeys.
use Rattle.std.proofs.Common.{◌≡◌, ℕ, ◌*◌, ◌<◌, ℤ, pos, ◌+ℤ◌, ◌*ℤ◌, ◌≤ℤ◌, arith, refl, sym, ap, ◌∙◌}
use Rattle.std.proofs.Math.Nat.{mul-le-mul}
use Rattle.integers.specs.Sums.{product_but, int_sum_at}
use Rattle.integers.proofs.Ring.{additive, linear, sorted, mul_comm_ℤ, mul-add, mul_assoc_ℤ, mul_left_comm_ℤ}
use Rattle.integers.proofs.Order.{le-mul}
use Rattle.integers.proofs.AtKey.{int_sum_at-same, int_sum_at-mul, pos-sum_at, product_but_is}
use Rattle.pool_model.specs.Network.{Net, IsLimited}
use Rattle.pool_model.specs.Plan.{Plan, Obeys, outflow, limit_room, mix, direct_mix, factor}
use Rattle.row_model.specs.Boxes.{place, qual, root_low, root_high}
use Rattle.row_model.specs.Lift.{others}
use Rattle.row_model.proofs.RootBox.{quality-low, quality-high}
use Rattle.row_model.proofs.Shares.{quality-out}
use Rattle.program_model.specs.Points.{QualityPoint, quality_flows}
use Rattle.program_model.specs.Programs.{IsPointOfP, mixed_inflow}
use Rattle.program_model.specs.Lifted.{factors, quality_point}
use Rattle.program_model.proofs.Means.{HasQualities, BlendsByMeans, mean_inflow, positive-factors, blends-by_means}
use Rattle.program_model.proofs.Scaled.{carries-scaled}
use Rattle.program_model.proofs.LiftedFlows.{mixed_inflow-lifted, mixing-lifted, room-lifted}

-- ---- the point of a plan
products-lifted : (n : Net) (p : Plan) (o k : ℕ) → o < n.outs
    → (quality_point n p).mixed o k *ℤ pos (factors n p) ≡ (quality_point n p).quality (n.out_pool o) k *ℤ pos (factors n p * p.out o)
products-lifted n p o k lt =
    let l = n.out_pool o in
    let b = others n p l in
    let m = pos (factors n p) in
    first b (mix n p l k *ℤ pos (p.out o)) m
    ∙ ap (λ z. (b *ℤ m) *ℤ z) (sym (quality-out n p o k lt))
    ∙ last b m (place n p (qual l k)) (pos (p.out o))
  where
    first : (b z m : ℤ) → (b *ℤ z) *ℤ m ≡ (b *ℤ m) *ℤ z
    first b z m = simp sorted refl

    last : (b m q y : ℤ) → (b *ℤ m) *ℤ (q *ℤ y) ≡ (b *ℤ q) *ℤ (m *ℤ y)
    last b m q y = simp sorted refl

-- an end of a pool's quality over all factors
end-lifted : (n : Net) (p : Plan) (l : ℕ) (end : ℤ) → l < n.pools → end *ℤ pos (factors n p) ≡ others n p l *ℤ (end *ℤ pos (factor n p l))
end-lifted n p l end lt =
    let b = product_but l (factor n p) n.pools in
    ap (λ z. end *ℤ pos z) (sym (product_but_is l (factor n p) n.pools lt)) ∙ turned end (pos b) (pos (factor n p l))
  where
    turned : (e b f : ℤ) → e *ℤ (b *ℤ f) ≡ b *ℤ (e *ℤ f)
    turned e b f = simp sorted refl

nonneg : (b : ℕ) → pos 0 ≤ℤ pos b
nonneg b = omega (arith, linear)

pub lifted-point_of_p : (n : Net) (p : Plan) → IsLimited n → Obeys n p → IsPointOfP n (quality_point n p)
lifted-point_of_p n p lim o =
    record {
      base = mul-le-mul o.denominator (positive-factors n p);
      qual_base = positive-factors n p;
      carries = carries-scaled n (factors n p) p o.carries;
      mixing = λ l k lt lk. mixing-lifted n p l k lim o.carries lt;
      at_most = λ j k u product lk set. omega (arith, additive, mixed_inflow-lifted n p j k, room-lifted n p j u, o.blends.at_most j k u product lk set);
      at_least = λ j k u product lk set. omega (arith, additive, mixed_inflow-lifted n p j k, room-lifted n p j u, o.blends.at_least j k u product lk set);
      products = λ a k lt lk. products-lifted n p a k lt;
      low = λ l k lt lk.
          omega (
            arith,
            additive,
            end-lifted n p l (root_low n (qual l k)) lt,
            le-mul (others n p l) (root_low n (qual l k) *ℤ pos (factor n p l)) (place n p (qual l k)) (nonneg (product_but l (factor n p) n.pools)) (quality-low n p l k lim o.carries lt),
          );
      high = λ l k lt lk.
          omega (
            arith,
            additive,
            end-lifted n p l (root_high n (qual l k)) lt,
            le-mul (others n p l) (place n p (qual l k)) (root_high n (qual l k) *ℤ pos (factor n p l)) (nonneg (product_but l (factor n p) n.pools)) (quality-high n p l k lim o.carries lt),
          );
    }

-- ---- the flows of a point

-- what a pool retains of the point's quality
abbrev pub retained_quality : Net → QualityPoint → ℕ → ℕ → ℤ
retained_quality n q l k = pos (n.retained l k) *ℤ q.quality l k

-- a pool's mean quality is the point's
mean-of_p : (n : Net) (q : QualityPoint) (l k : ℕ) → IsPointOfP n q → l < n.pools → k < n.qualities
    → pos q.qual_base *ℤ mix n (quality_flows q) l k ≡ q.quality l k *ℤ pos (outflow n (quality_flows q) l)
mean-of_p n q l k h lt lk =
    let r = pos q.qual_base in
    ap (λ z. r *ℤ z) (h.mixing l k lt lk)
    ∙ sym (int_sum_at-mul n.out_pool l r (λ o. q.mixed o k) n.outs)
    ∙ int_sum_at-same n.out_pool l (λ o. r *ℤ q.mixed o k) (λ o. q.quality l k *ℤ pos (q.out o)) n.outs
    (λ o lo is. mul_comm_ℤ r (q.mixed o k) ∙ h.products o k lo lk ∙ ap (λ i. q.quality i k *ℤ pos (q.out o)) is)
    ∙ int_sum_at-mul n.out_pool l (q.quality l k) (λ o. pos (q.out o)) n.outs
    ∙ ap (λ z. q.quality l k *ℤ z) (pos-sum_at n.out_pool l q.out n.outs)

pub has_qualities-of_p : (n : Net) (q : QualityPoint) → IsLimited n → IsPointOfP n q → HasQualities n (quality_flows q) q.qual_base (retained_quality n q)
has_qualities-of_p n q lim h = record {
  each = λ l k lt lk.
      let r = pos (n.retained l k) in
      mul_left_comm_ℤ (pos q.qual_base) r (mix n (quality_flows q) l k)
      ∙ ap (λ z. r *ℤ z) (mean-of_p n q l k h lt lk)
      ∙ sym (mul_assoc_ℤ r (q.quality l k) (pos (outflow n (quality_flows q) l)));
}

-- what reaches a product by the pools' qualities is what mixed variables bring
pub mean_inflow-of_p : (n : Net) (q : QualityPoint) (j k : ℕ) → IsPointOfP n q → k < n.qualities
    → mean_inflow n (quality_flows q) q.qual_base (retained_quality n q) j k ≡ pos q.qual_base *ℤ mixed_inflow n q j k
mean_inflow-of_p n q j k h lk =
    let r = pos q.qual_base in
    let retained = λ (o : ℕ). pos (n.retained (n.out_pool o) k) in
    ap (λ z. z +ℤ r *ℤ direct_mix n (quality_flows q) j k)
    (int_sum_at-same n.out_product j (λ o. retained_quality n q (n.out_pool o) k *ℤ pos (q.out o)) (λ o. r *ℤ (retained o *ℤ q.mixed o k)) n.outs
    (λ o lo is.
    mul_assoc_ℤ (retained o) (q.quality (n.out_pool o) k) (pos (q.out o))
    ∙ ap (λ z. retained o *ℤ z) (sym (h.products o k lo lk))
    ∙ turned (retained o) (q.mixed o k) r)
    ∙ int_sum_at-mul n.out_product j r (λ o. retained o *ℤ q.mixed o k) n.outs)
    ∙ sym (mul-add r (int_sum_at n.out_product j (λ o. retained o *ℤ q.mixed o k) n.outs) (direct_mix n (quality_flows q) j k))
  where
    turned : (t m r : ℤ) → t *ℤ (m *ℤ r) ≡ r *ℤ (t *ℤ m)
    turned t m r = simp sorted refl

pub means-of_p : (n : Net) (q : QualityPoint) → IsPointOfP n q → BlendsByMeans n (quality_flows q) q.qual_base (retained_quality n q)
means-of_p n q h = record {
  at_most = λ j k u product lk set.
      rw (mean_inflow-of_p n q j k h lk)
      (le-mul (pos q.qual_base) (mixed_inflow n q j k) (limit_room n (quality_flows q) j u) (nonneg q.qual_base) (h.at_most j k u product lk set));
  at_least = λ j k u product lk set.
      rw (mean_inflow-of_p n q j k h lk)
      (le-mul (pos q.qual_base) (limit_room n (quality_flows q) j u) (mixed_inflow n q j k) (nonneg q.qual_base) (h.at_least j k u product lk set));
}

pub point_of_p-obeys : (n : Net) (q : QualityPoint) → IsLimited n → IsPointOfP n q → Obeys n (quality_flows q)
point_of_p-obeys n q lim h = record {
  denominator = h.base;
  carries = h.carries;
  blends = blends-by_means n (quality_flows q) q.qual_base (retained_quality n q) lim h.qual_base (has_qualities-of_p n q lim h) (means-of_p n q h);
}

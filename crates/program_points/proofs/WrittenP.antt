-- The point of a written plan that obeys is a point of form P, and how large its numbers are.
use Rattle.std.proofs.Common.{◌≡◌, ℕ, ◌*◌, ◌<◌, ◌≤◌, ◌^◌, ℤ, pos, ◌+ℤ◌, ◌*ℤ◌, ◌≤ℤ◌, ◌<ℤ◌, unsigned_abs, arith, refl, sym, ap, subst, ◌∙◌}
use Rattle.std.proofs.Math.Nat.{mul-le-mul}
use Rattle.std.proofs.lemmas.Int.{ints}
use Rattle.integers.specs.Sums.{int_sum_at, sum_at}
use Rattle.integers.proofs.Ring.{linear, sorted, mul_comm_ℤ, mul-add}
use Rattle.integers.proofs.Order.{le-cancel, abs-mul-le}
use Rattle.integers.proofs.Means.{mean-low, mean-high}
use Rattle.integers.proofs.AtKey.{int_sum_at-same, int_sum_at-mul, sum_at-mul, pos-sum_at, term-le-sum_at}
use Rattle.integers.proofs.ByNode.{abs-int_sum_at}
use Rattle.pool_model.specs.Network.{Net, IsLimited, IsWithin}
use Rattle.pool_model.specs.Plan.{Written, weight, written_out, written_outflow, IsWritten, plan_of, Obeys, limit_room, mix, direct_mix}
use Rattle.row_model.specs.Boxes.{qual, root_low, root_high}
use Rattle.row_model.proofs.RootBox.{root_low-quality, root_high-quality}
use Rattle.program_model.specs.Programs.{IsPointOfP, mixed_inflow}
use Rattle.program_model.proofs.Means.{mean_inflow, by_means-blends}
use Rattle.plan_core.specs.Weighed.{weighed}
use Rattle.program_points.specs.Written.{written_qualities}
use Rattle.program_points.proofs.WrittenQ.{has_qualities-written, retained_weighed}

-- the quality that flows into a pool flows out of it
mixing-written : (n : Net) (w : Written) (l k : ℕ) → mix n (plan_of n w) l k ≡ int_sum_at n.out_pool l (λ o. (written_qualities n w).mixed o k) n.outs
mixing-written n w l k =
    let quality = λ (e : ℕ). n.source_quality (n.feed_source e) k in
    let t = written_outflow n w l in
    int_sum_at-same n.feed_pool l (λ e. quality e *ℤ pos (weight w e * written_outflow n w (n.feed_pool e))) (λ e. pos t *ℤ (quality e *ℤ pos (weight w e))) n.feeds
    (λ e le is. ap (λ i. quality e *ℤ pos (weight w e * written_outflow n w i)) is ∙ turned (quality e) (pos (weight w e)) (pos t))
    ∙ int_sum_at-mul n.feed_pool l (pos t) (λ e. quality e *ℤ pos (weight w e)) n.feeds
    ∙ mul_comm_ℤ (pos t) (weighed n w l k)
    ∙ ap (λ z. weighed n w l k *ℤ z) (sym (pos-sum_at n.out_pool l (written_out w) n.outs))
    ∙ sym (int_sum_at-mul n.out_pool l (weighed n w l k) (λ o. pos (written_out w o)) n.outs)
    ∙ int_sum_at-same n.out_pool l (λ o. weighed n w l k *ℤ pos (written_out w o)) (λ o. (written_qualities n w).mixed o k) n.outs
    (λ o lo is. sym (ap (λ i. weighed n w i k *ℤ pos (written_out w o)) is))
  where
    turned : (q r t : ℤ) → q *ℤ (r *ℤ t) ≡ t *ℤ (q *ℤ r)
    turned q r t = simp sorted refl

-- what reaches a product by the weights is what mixed variables bring
mean_inflow-mixed : (n : Net) (w : Written) (j k : ℕ)
    → mean_inflow n (plan_of n w) w.base (retained_weighed n w) j k ≡ pos w.base *ℤ mixed_inflow n (written_qualities n w) j k
mean_inflow-mixed n w j k =
    let r = pos w.base in
    let retained = λ (o : ℕ). pos (n.retained (n.out_pool o) k) in
    let mixed = λ (o : ℕ). retained o *ℤ (written_qualities n w).mixed o k in
    let d = direct_mix n (plan_of n w) j k in
    ap (λ z. z +ℤ r *ℤ d)
    (int_sum_at-same n.out_product j (λ o. retained_weighed n w (n.out_pool o) k *ℤ pos (w.base * written_out w o)) (λ o. r *ℤ mixed o) n.outs
    (λ o lo is. turned (retained o) (weighed n w (n.out_pool o) k) r (pos (written_out w o)))
    ∙ int_sum_at-mul n.out_product j r mixed n.outs)
    ∙ sym (mul-add r (int_sum_at n.out_product j mixed n.outs) d)
  where
    turned : (t q r y : ℤ) → (t *ℤ q) *ℤ (r *ℤ y) ≡ r *ℤ (t *ℤ (q *ℤ y))
    turned t q r y = simp sorted refl

positive-ℤ : (m : ℕ) → 1 ≤ m → pos 0 <ℤ pos m
positive-ℤ m h = omega (arith, linear)

pub written-point_of_p : (n : Net) (w : Written) → IsLimited n → IsWritten n w → Obeys n (plan_of n w) → IsPointOfP n (written_qualities n w)
written-point_of_p n w lim written o =
    let more = written.base.0 in
    let means = by_means-blends n (plan_of n w) w.base (retained_weighed n w) lim (omega (arith, more)) (has_qualities-written n w) o.blends in
    record {
      base = o.denominator;
      qual_base = omega (arith, more);
      carries = o.carries;
      mixing = λ l k lt lk. mixing-written n w l k;
      at_most = λ j k u product lk set.
          le-cancel (pos w.base) (mixed_inflow n (written_qualities n w) j k) (limit_room n (plan_of n w) j u) (positive-ℤ w.base more)
          (rw (mean_inflow-mixed n w j k) at (means.at_most j k u product lk set));
      at_least = λ j k u product lk set.
          le-cancel (pos w.base) (limit_room n (plan_of n w) j u) (mixed_inflow n (written_qualities n w) j k) (positive-ℤ w.base more)
          (rw (mean_inflow-mixed n w j k) at (means.at_least j k u product lk set));
      products = λ a k lt lk. turned (weighed n w (n.out_pool a) k) (pos (written_out w a)) (pos w.base);
      low = λ l k lt lk.
          subst (λ (s : ℕ). (root_low n (qual l k) *ℤ pos s) ≤ℤ weighed n w l k) (written.weight_sums l lt)
          (mean-low n.feed_pool l (root_low n (qual l k)) (λ e. n.source_quality (n.feed_source e) k) (weight w) n.feeds (λ e le is. root_low-quality n l k e le is));
      high = λ l k lt lk.
          subst (λ (s : ℕ). weighed n w l k ≤ℤ (root_high n (qual l k) *ℤ pos s)) (written.weight_sums l lt)
          (mean-high n.feed_pool l (root_high n (qual l k)) (λ e. n.source_quality (n.feed_source e) k) (weight w) n.feeds (λ e le is. root_high-quality n l k e le is));
    }
  where
    turned : (q y r : ℤ) → (q *ℤ y) *ℤ r ≡ q *ℤ (r *ℤ y)
    turned q y r = simp sorted refl

-- ---- sizes

within-abs : (size : ℕ) (z : ℤ) → IsWithin size z → unsigned_abs z ≤ size
within-abs size z h = omega (arith, ints, h)

-- a pool's quality by its weights is at most the greatest quality times the base
pub weighed-small : (n : Net) (w : Written) (l k : ℕ) → IsLimited n → IsWritten n w → l < n.pools → k < n.qualities → unsigned_abs (weighed n w l k) ≤ 2 ^ 57
weighed-small n w l k lim written lt lk =
    let most : unsigned_abs (weighed n w l k) ≤ sum_at n.feed_pool l (λ e. 10 ^ 11 * weight w e) n.feeds =
    abs-int_sum_at n.feed_pool l (λ e. n.source_quality (n.feed_source e) k *ℤ pos (weight w e)) (λ e. 10 ^ 11 * weight w e) n.feeds
    (λ e le. abs-mul-le (n.source_quality (n.feed_source e) k) (pos (weight w e)) (10 ^ 11) (weight w e)
    (within-abs (10 ^ 11) (n.source_quality (n.feed_source e) k) (lim.source_qualities (n.feed_source e) k (lim.feed_sources e le) lk)) (omega arith)) in
    omega (arith, most, sum_at-mul n.feed_pool l (10 ^ 11) (weight w) n.feeds, written.weight_sums l lt, written.base)

-- what an out carries is at most its product's maximum
pub out-small : (n : Net) (w : Written) (o : ℕ) → IsLimited n → IsWritten n w → Obeys n (plan_of n w) → o < n.outs → written_out w o ≤ 2 ^ 56
out-small n w o lim written obeys lt =
    let j = n.out_product o in
    let carried : w.base * written_out w o ≤ w.flow_base * w.base * n.product_max j = omega (
      arith,
      term-le-sum_at n.out_product j (plan_of n w).out n.outs o lt refl,
      obeys.carries.at_most j (lim.out_products o lt),
    ) in
    small w.base (written_out w o) w.flow_base (n.product_max j) (written.base.0) (written.flow_base.1) (lim.product_maxima j (lim.out_products o lt)) carried
  where
    small : (r y d m : ℕ) → 1 ≤ r → d ≤ 65536 → m ≤ 10 ^ 12 → r * y ≤ d * r * m → y ≤ 2 ^ 56
    small r y d m h hd hm c =
        let less : (pos r *ℤ pos y) ≤ℤ (pos r *ℤ pos (d * m)) = omega (arith, linear, c) in
        let below : pos y ≤ℤ pos (d * m) = le-cancel (pos r) (pos y) (pos (d * m)) (positive-ℤ r h) less in
        omega (arith, linear, below, mul-le-mul hd hm)

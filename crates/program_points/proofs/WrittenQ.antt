-- The point of a written plan that obeys is a point of form Q.
use Rattle.std.proofs.Common.{◌≡◌, ℕ, ◌*◌, ◌<◌, ◌≤◌, ℤ, pos, ◌+ℤ◌, ◌*ℤ◌, ◌<ℤ◌, arith, refl, sym, ap, ◌∙◌}
use Rattle.integers.specs.Sums.{int_sum_at, sum_at}
use Rattle.integers.proofs.Ring.{linear, sorted, mul-add, mul_assoc_ℤ, mul_left_comm_ℤ}
use Rattle.integers.proofs.Order.{le-cancel}
use Rattle.integers.proofs.AtKey.{int_sum_at-same, int_sum_at-mul, sum_at-mul}
use Rattle.integers.proofs.ByNode.{sum_at-same_key}
use Rattle.pool_model.specs.Network.{Net, IsLimited}
use Rattle.pool_model.specs.Plan.{Written, weight, written_out, written_outflow, IsWritten, plan_of, Obeys, outflow, limit_room, mix, direct_mix}
use Rattle.row_model.specs.Variables.{path_count, path_feed, path_out}
use Rattle.row_model.specs.Catalogue.{path_quality}
use Rattle.row_model.proofs.PathSums.{paths_at_key, natural_paths_at_feed}
use Rattle.program_model.specs.Programs.{IsPointOfQ, path_inflow}
use Rattle.program_model.proofs.Means.{HasQualities, mean_inflow, by_means-blends}
use Rattle.plan_core.specs.Weighed.{weighed}
use Rattle.plan_core.proofs.Blends.{outflow-plan_of}
use Rattle.program_points.specs.Written.{written_path_flow, written_proportions}

-- what a pool retains of the quality of its weights
abbrev pub retained_weighed : Net → Written → ℕ → ℕ → ℤ
retained_weighed n w l k = pos (n.retained l k) *ℤ weighed n w l k

-- the mean quality of what enters a pool is that of its weights
mean-written : (n : Net) (w : Written) (l k : ℕ) → pos w.base *ℤ mix n (plan_of n w) l k ≡ weighed n w l k *ℤ pos (outflow n (plan_of n w) l)
mean-written n w l k =
    let quality = λ (e : ℕ). n.source_quality (n.feed_source e) k in
    let t = written_outflow n w l in
    ap (λ z. pos w.base *ℤ z)
    (int_sum_at-same n.feed_pool l (λ e. quality e *ℤ pos (weight w e * written_outflow n w (n.feed_pool e))) (λ e. pos t *ℤ (quality e *ℤ pos (weight w e))) n.feeds
    (λ e le is. ap (λ i. quality e *ℤ pos (weight w e * written_outflow n w i)) is ∙ turned (quality e) (pos (weight w e)) (pos t))
    ∙ int_sum_at-mul n.feed_pool l (pos t) (λ e. quality e *ℤ pos (weight w e)) n.feeds)
    ∙ last (pos w.base) (pos t) (weighed n w l k)
    ∙ ap (λ z. weighed n w l k *ℤ pos z) (sym (outflow-plan_of n w l))
  where
    turned : (q r t : ℤ) → q *ℤ (r *ℤ t) ≡ t *ℤ (q *ℤ r)
    turned q r t = simp sorted refl

    last : (b t q : ℤ) → b *ℤ (t *ℤ q) ≡ q *ℤ (b *ℤ t)
    last b t q = simp sorted refl

-- what leaves a pool has the part of it that the pool retains
pub has_qualities-written : (n : Net) (w : Written) → HasQualities n (plan_of n w) w.base (retained_weighed n w)
has_qualities-written n w = record {
  each = λ l k lt lk.
      let r = pos (n.retained l k) in
      mul_left_comm_ℤ (pos w.base) r (mix n (plan_of n w) l k)
      ∙ ap (λ z. r *ℤ z) (mean-written n w l k)
      ∙ sym (mul_assoc_ℤ r (weighed n w l k) (pos (outflow n (plan_of n w) l)));
}

-- what a feed brings goes along its paths
feeds-written : (n : Net) (w : Written) (e : ℕ) → IsLimited n → e < n.feeds → (plan_of n w).feed e ≡ sum_at (path_feed n) e (written_path_flow n w) (path_count n)
feeds-written n w e lim lt =
    sym (sum_at-same_key (path_feed n) e (written_path_flow n w) (λ a. weight w e * written_out w (path_out n a)) (path_count n) (λ a la is. ap (λ i. weight w i * written_out w (path_out n a)) is)
    ∙ sum_at-mul (path_feed n) e (weight w e) (λ a. written_out w (path_out n a)) (path_count n)
    ∙ ap (λ z. weight w e * z) (natural_paths_at_feed n (written_out w) e record { each = lim.feed_pools } lt))

-- what reaches a product by the weights is what flows along paths bring
mean_inflow-written : (n : Net) (w : Written) (j k : ℕ) → IsLimited n
    → mean_inflow n (plan_of n w) w.base (retained_weighed n w) j k ≡ pos w.base *ℤ path_inflow n (written_proportions n w) j k
mean_inflow-written n w j k lim =
    let r = pos w.base in
    let quality = λ (e : ℕ). n.source_quality (n.feed_source e) k in
    let retained = λ (o : ℕ). pos (n.retained (n.out_pool o) k) in
    let of_pair = λ (e o : ℕ). (retained o *ℤ quality e) *ℤ (pos (weight w e) *ℤ pos (written_out w o)) in
    let key = λ (a : ℕ). n.out_product (path_out n a) in
    let along = λ (a : ℕ). path_quality n a k *ℤ pos (written_path_flow n w a) in
    let d = direct_mix n (plan_of n w) j k in
    ap (λ z. z +ℤ r *ℤ d)
    (int_sum_at-same n.out_product j (λ o. retained_weighed n w (n.out_pool o) k *ℤ pos (w.base * written_out w o))
    (λ o. r *ℤ int_sum_at n.feed_pool (n.out_pool o) (λ e. of_pair e o) n.feeds) n.outs
    (λ o lo is.
    first (retained o) (weighed n w (n.out_pool o) k) r (pos (written_out w o))
    ∙ ap (λ z. r *ℤ z) (sym (int_sum_at-mul n.feed_pool (n.out_pool o) (retained o *ℤ pos (written_out w o)) (λ e. quality e *ℤ pos (weight w e)) n.feeds)
    ∙ int_sum_at-same n.feed_pool (n.out_pool o) (λ e. (retained o *ℤ pos (written_out w o)) *ℤ (quality e *ℤ pos (weight w e))) (λ e. of_pair e o) n.feeds
    (λ e le at. turned (retained o) (pos (written_out w o)) (quality e) (pos (weight w e)))))
    ∙ int_sum_at-mul n.out_product j r (λ o. int_sum_at n.feed_pool (n.out_pool o) (λ e. of_pair e o) n.feeds) n.outs
    ∙ ap (λ z. r *ℤ z) (sym (paths_at_key n of_pair n.out_product j record { each = lim.feed_pools })))
    ∙ sym (mul-add r (int_sum_at key j along (path_count n)) d)
  where
    first : (t q r y : ℤ) → (t *ℤ q) *ℤ (r *ℤ y) ≡ r *ℤ ((t *ℤ y) *ℤ q)
    first t q r y = simp sorted refl

    turned : (t y q r : ℤ) → (t *ℤ y) *ℤ (q *ℤ r) ≡ (t *ℤ q) *ℤ (r *ℤ y)
    turned t y q r = simp sorted refl

positive-ℤ : (m : ℕ) → 1 ≤ m → pos 0 <ℤ pos m
positive-ℤ m h = omega (arith, linear)

pub written-point_of_q : (n : Net) (w : Written) → IsLimited n → IsWritten n w → Obeys n (plan_of n w) → IsPointOfQ n (written_proportions n w)
written-point_of_q n w lim written o =
    let more = written.base.0 in
    let means = by_means-blends n (plan_of n w) w.base (retained_weighed n w) lim (omega (arith, more)) (has_qualities-written n w) o.blends in
    record {
      base = o.denominator;
      prop_base = omega (arith, more);
      carries = o.carries;
      proportions = written.weight_sums;
      feeds = λ e lt. feeds-written n w e lim lt;
      at_most = λ j k u product lk set.
          le-cancel (pos w.base) (path_inflow n (written_proportions n w) j k) (limit_room n (plan_of n w) j u) (positive-ℤ w.base more)
          (rw (mean_inflow-written n w j k lim) at (means.at_most j k u product lk set));
      at_least = λ j k u product lk set.
          le-cancel (pos w.base) (limit_room n (plan_of n w) j u) (path_inflow n (written_proportions n w) j k) (positive-ℤ w.base more)
          (rw (mean_inflow-written n w j k lim) at (means.at_least j k u product lk set));
      products = λ a lt. turned (weight w (path_feed n a)) (written_out w (path_out n a)) w.base;
    }
  where
    turned : (x y r : ℕ) → x * y * r ≡ x * (r * y)
    turned x y r = omega arith

-- The rows of P hold at the point of each plan that obeys.
use Rattle.std.proofs.Common.{◌≡◌, ℕ, ◌*◌, ◌<◌, inl, inr, Some, ℤ, pos, ◌*ℤ◌, arith, refl, sym, ap, ◌∙◌}
use Rattle.std.proofs.Math.IntN.{*ℤ-zero}
use Rattle.integers.specs.Sums.{product_below, product_but}
use Rattle.integers.proofs.Ring.{additive, linear, sorted, mul_assoc_ℤ}
use Rattle.integers.proofs.AtKey.{same_or_other, int_sum_at-same, int_sum_at-mul, pos-sum_at, product_but_is}
use Rattle.integers.proofs.ByNode.{int_sum_at-nothing}
use Rattle.pool_model.specs.Network.{Net, IsLimited}
use Rattle.pool_model.specs.Plan.{Plan, Carries, Blends, outflow, factor, mix}
use Rattle.row_model.specs.Boxes.{Box, LiesIn, place, qual}
use Rattle.row_model.specs.Envelopes.{side}
use Rattle.row_model.specs.Variables.{path_count}
use Rattle.pool_model.specs.Limits.{Limit}
use Rattle.row_model.specs.Catalogue.{mixing_row, mixed_most_row, mixed_least_row, quality_ends, quality_envelope_row}
use Rattle.row_model.specs.Lift.{lift, lift_base, others, HoldsAt}
use Rattle.row_model.proofs.RowSums.{no_sum, one_sum, pair_sum}
use Rattle.row_model.proofs.FormRows.{mixing_row-sum, mixed_most_row-sum, mixed_least_row-sum}
use Rattle.row_model.proofs.Brought.{pools-bring}
use Rattle.row_model.proofs.Shares.{no_feed, quality-out}
use Rattle.row_model.proofs.Numbering.{lies-qual, lies-flow}
use Rattle.row_model.proofs.EnvelopeLaw.{lifted_side-holds}

-- ---- limits

pub mixed_most_row-holds : (n : Net) (p : Plan) (u : Limit) → Blends n p → u.product < n.products → u.quality < n.qualities → n.most u.product u.quality ≡ Some u.limit
    → HoldsAt n p (mixed_most_row n u)
mixed_most_row-holds n p u b product quality is =
    omega (
      arith,
      additive,
      mixed_most_row-sum n (product_below (factor n p) n.pools) p (lift n p) (lift_base n p) u quality,
      pools-bring n p u.product u.quality,
      b.at_most u.product u.quality u.limit product quality is,
    )

pub mixed_least_row-holds : (n : Net) (p : Plan) (u : Limit) → Blends n p → u.product < n.products → u.quality < n.qualities → n.least u.product u.quality ≡ Some u.limit
    → HoldsAt n p (mixed_least_row n u)
mixed_least_row-holds n p u b product quality is =
    omega (
      arith,
      additive,
      mixed_least_row-sum n (product_below (factor n p) n.pools) p (lift n p) (lift_base n p) u quality,
      pools-bring n p u.product u.quality,
      b.at_least u.product u.quality u.limit product quality is,
    )

-- ---- the balance of a quality

-- nothing flows into a pool that sends nothing
mix-nothing : (n : Net) (p : Plan) (l k : ℕ) → IsLimited n → Carries n p → outflow n p l ≡ 0 → mix n p l k ≡ pos 0
mix-nothing n p l k lim c z =
    int_sum_at-same n.feed_pool l (λ e. n.source_quality (n.feed_source e) k *ℤ pos (p.feed e)) (λ e. pos 0) n.feeds
    (λ e lt is. ap (λ x. n.source_quality (n.feed_source e) k *ℤ pos x) (no_feed n p e lim c lt (ap (outflow n p) is ∙ z)) ∙ *ℤ-zero (n.source_quality (n.feed_source e) k))
    ∙ int_sum_at-nothing n.feed_pool l (λ e. pos 0) n.feeds (λ e lt. refl)

-- times all factors, what flows in is the mean times what the pool sends and the other factors
pub mix-out : (n : Net) (p : Plan) (l k : ℕ) → IsLimited n → Carries n p → l < n.pools
    → pos (product_below (factor n p) n.pools) *ℤ mix n p l k ≡ (others n p l *ℤ mix n p l k) *ℤ pos (outflow n p l)
mix-out n p l k lim c lt = elim (same_or_other (outflow n p l) 0) [
  | inl z ↦
      let m = pos (product_below (factor n p) n.pools) in
      let none = mix-nothing n p l k lim c z in
      ap (λ x. m *ℤ x) none ∙ *ℤ-zero m ∙ sym (ap (λ y. (others n p l *ℤ mix n p l k) *ℤ pos y) z ∙ *ℤ-zero (others n p l *ℤ mix n p l k))
  | inr d ↦
      let b = product_but l (factor n p) n.pools in
      let same : factor n p l ≡ outflow n p l = omega arith in
      ap (λ x. pos x *ℤ mix n p l k) (sym (product_but_is l (factor n p) n.pools lt) ∙ ap (λ y. b * y) same)
      ∙ turned (pos b) (pos (outflow n p l)) (mix n p l k)
]
  where
    turned : (b t m : ℤ) → (b *ℤ t) *ℤ m ≡ (b *ℤ m) *ℤ t
    turned b t m = simp sorted refl

pub mixing_row-holds : (n : Net) (p : Plan) (l k : ℕ) → IsLimited n → Carries n p → l < n.pools → k < n.qualities → HoldsAt n p (mixing_row n l k)
mixing_row-holds n p l k lim c lt lk =
    omega (
      arith,
      linear,
      mixing_row-sum n (product_below (factor n p) n.pools) p (lift n p) (lift_base n p) l k lk,
      int_sum_at-same n.out_pool l (λ o. (lift n p).mixed o k) (λ o. (others n p l *ℤ mix n p l k) *ℤ pos (p.out o)) n.outs
          (λ o lo is. ap (λ i. others n p i *ℤ (mix n p i k *ℤ pos (p.out o))) is ∙ sym (mul_assoc_ℤ (others n p l) (mix n p l k) (pos (p.out o)))),
      int_sum_at-mul n.out_pool l (others n p l *ℤ mix n p l k) (λ o. pos (p.out o)) n.outs,
      ap (λ z. (others n p l *ℤ mix n p l k) *ℤ z) (pos-sum_at n.out_pool l p.out n.outs),
      mix-out n p l k lim c lt,
    )

-- ---- envelopes
pub quality_envelope_row-holds : (n : Net) (b : Box) (p : Plan) (o k number : ℕ) → IsLimited n → LiesIn n p b → o < n.outs → k < n.qualities
    → HoldsAt n p (quality_envelope_row n b o k number)
quality_envelope_row-holds n b p o k number lim lies lt lk =
    let l = n.out_pool o in
    let l_below = lim.out_pools o lt in
    let f = factor n p l in
    let c = product_but l (factor n p) n.pools in
    let m = product_below (factor n p) n.pools in
    let v = lift n p in
    let pair = mix n p l k *ℤ pos (p.out o) in
    let ends = quality_ends n b o k in
    let s = side number (pos 1) ends in
    let whole : c * f ≡ m = product_but_is l (factor n p) n.pools l_below in
    let a_in = lies-qual n p b l k lies l_below lk in
    let b_in = lies-flow n p b o lies lt in
    omega (
      arith,
      additive,
      lifted_side-holds number (pos 1) ends (pos c) pair (place n p (qual l k)) (pos f) (pos (p.out o)) (pos p.base) (omega (arith, additive))
          record {
            a_low = a_in.low;
            a_high = a_in.high;
            b_low = b_in.low;
            b_high = b_in.high;
            product = one_times pair ∙ sym (quality-out n p o k lt);
          },
      no_sum v.x n.feeds,
      no_sum v.z n.directs,
      no_sum v.w (path_count n),
      no_sum v.proportion n.feeds,
      one_sum o s.of_b v.y n.outs lt,
      pair_sum l k s.of_a v.quality n.pools n.qualities l_below lk,
      pair_sum o k s.of_w v.mixed n.outs n.qualities lt lk,
      ap (λ z. s.of_b *ℤ (pos z *ℤ pos (p.out o))) whole,
      ap (λ z. s.constant *ℤ (pos p.base *ℤ pos z)) whole,
    )
  where
    one_times : (z : ℤ) → pos 1 *ℤ z ≡ z
    one_times z = omega (arith, linear)

-- The rows of Q hold at the point of each plan that obeys.
use Rattle.std.proofs.Common.{◌≡◌, ℕ, ◌*◌, ◌<◌, ◌≤◌, max, ◌⊎◌, inl, inr, Some, ℤ, pos, ◌*ℤ◌, arith, refl, ap, ◌∙◌}
use Rattle.integers.specs.Sums.{product_below, product_but, int_sum_at}
use Rattle.integers.proofs.Ring.{additive, linear, sorted}
use Rattle.integers.proofs.AtKey.{int_sum_at-same, int_sum_at-mul, pos-sum_at, product_but_is}
use Rattle.pool_model.specs.Network.{Net, IsLimited}
use Rattle.pool_model.specs.Plan.{Plan, Carries, Blends, outflow, pool_inflow, factor, mix, treated}
use Rattle.row_model.specs.Boxes.{Box, LiesIn, grain, share, place, prop}
use Rattle.row_model.specs.Envelopes.{side}
use Rattle.row_model.specs.Variables.{path_count, path_feed, path_out}
use Rattle.pool_model.specs.Limits.{Limit}
use Rattle.row_model.specs.Catalogue.{proportions_row, feed_row, path_most_row, path_least_row, proportion_ends, proportion_envelope_row}
use Rattle.row_model.specs.Lift.{lift, lift_base, others, HoldsAt}
use Rattle.row_model.proofs.RowSums.{no_sum, no_sums, one_sum}
use Rattle.row_model.proofs.FormRows.{along_paths, proportions_row-sum, feed_row-sum, path_most_row-sum, path_least_row-sum}
use Rattle.row_model.proofs.PathSums.{HasFeedPools, path_feed-below, path_out-below, path-joined, paths_at_feed, paths_at_out, paths_at_key}
use Rattle.row_model.proofs.Shares.{feed-le, share-sum, share-out}
use Rattle.row_model.proofs.Numbering.{lies-prop, lies-flow}
use Rattle.row_model.proofs.EnvelopeLaw.{lifted_side-holds}

-- ---- proportions
-- the proportions of a pool's feeds sum to 1
proportions-sum : (n : Net) (p : Plan) (l : ℕ) → IsLimited n → Carries n p → l < n.pools → int_sum_at n.feed_pool l (lift n p).proportion n.feeds ≡ pos (grain * lift_base n p)
proportions-sum n p l lim c lt =
    let b = product_but l (factor n p) n.pools in
    let m = grain * (p.base * b) in
    int_sum_at-same n.feed_pool l (lift n p).proportion (λ e. pos m *ℤ pos (share n p e)) n.feeds
    (λ e le is. ap (λ i. pos p.base *ℤ others n p i *ℤ (pos grain *ℤ pos (share n p e))) is ∙ ap pos (grouped p.base b grain (share n p e)))
    ∙ int_sum_at-mul n.feed_pool l (pos m) (λ e. pos (share n p e)) n.feeds
    ∙ ap (λ z. pos m *ℤ z) (pos-sum_at n.feed_pool l (share n p) n.feeds ∙ ap pos (share-sum n p l lim c lt))
    ∙ ap pos (whole p.base b grain (factor n p l) (product_below (factor n p) n.pools) (product_but_is l (factor n p) n.pools lt))
  where
    grouped : (d b g s : ℕ) → d * b * (g * s) ≡ g * (d * b) * s
    grouped d b g s = omega arith

    whole : (d b g f m : ℕ) → b * f ≡ m → g * (d * b) * f ≡ g * (d * m)
    whole d b g f m e = omega (arith, ap (λ z. g * (d * z)) e)

pub proportions_row-holds : (n : Net) (p : Plan) (l : ℕ) → IsLimited n → Carries n p → l < n.pools → HoldsAt n p (proportions_row n l)
proportions_row-holds n p l lim c lt =
    omega (arith, additive, proportions_row-sum n (product_below (factor n p) n.pools) p (lift n p) (lift_base n p) l, proportions-sum n p l lim c lt)

-- ---- flows along paths

-- a pool's other factors times its outflow, at a flow that is 0 where the pool sends nothing
pub others-flow : (b t m x : ℕ) → b * max t 1 ≡ m → x ≤ t → b * x * t ≡ m * x
others-flow b t m x e le = elim (zero_or_more t) [
  | inl z ↦ let none : x ≡ 0 = omega arith in omega (arith, ap (λ y. b * y * t) none, ap (λ y. m * y) none)
  | inr more ↦ let whole : max t 1 ≡ t = omega arith in omega (arith, ap (λ y. y * x) e, ap (λ y. b * x * y) whole)
]
  where
    zero_or_more : (t : ℕ) → (t ≡ 0) ⊎ (1 ≤ t)
    zero_or_more t = grind arith

grouped_left : (b x y : ℕ) → b * (x * y) ≡ b * x * y
grouped_left b x y = omega arith

-- what flows along the paths that begin with a feed
pub paths_from_feed : (n : Net) (p : Plan) (e : ℕ) → HasFeedPools n → e < n.feeds
    → int_sum_at (path_feed n) e (lift n p).w (path_count n) ≡ pos (product_but (n.feed_pool e) (factor n p) n.pools * p.feed e * outflow n p (n.feed_pool e))
paths_from_feed n p e h lt =
    let l = n.feed_pool e in
    let b = product_but l (factor n p) n.pools in
    paths_at_feed n (λ i o. others n p (n.out_pool o) *ℤ (pos (p.feed i) *ℤ pos (p.out o))) e h lt
    ∙ int_sum_at-same n.out_pool l (λ o. others n p (n.out_pool o) *ℤ (pos (p.feed e) *ℤ pos (p.out o))) (λ o. pos (b * p.feed e) *ℤ pos (p.out o)) n.outs
    (λ o lo is. ap (λ i. others n p i *ℤ (pos (p.feed e) *ℤ pos (p.out o))) is ∙ ap pos (grouped_left b (p.feed e) (p.out o)))
    ∙ int_sum_at-mul n.out_pool l (pos (b * p.feed e)) (λ o. pos (p.out o)) n.outs
    ∙ ap (λ z. pos (b * p.feed e) *ℤ z) (pos-sum_at n.out_pool l p.out n.outs)

-- what flows along the paths that end with an out
pub paths_to_out : (n : Net) (p : Plan) (o : ℕ) → HasFeedPools n → o < n.outs
    → int_sum_at (path_out n) o (lift n p).w (path_count n) ≡ pos (product_but (n.out_pool o) (factor n p) n.pools * p.out o * pool_inflow n p (n.out_pool o))
paths_to_out n p o h lt =
    let l = n.out_pool o in
    let b = product_but l (factor n p) n.pools in
    paths_at_out n (λ e i. others n p (n.out_pool i) *ℤ (pos (p.feed e) *ℤ pos (p.out i))) o h lt
    ∙ int_sum_at-same n.feed_pool l (λ e. others n p l *ℤ (pos (p.feed e) *ℤ pos (p.out o))) (λ e. pos (b * p.out o) *ℤ pos (p.feed e)) n.feeds
    (λ e le is. ap pos (turned b (p.feed e) (p.out o)))
    ∙ int_sum_at-mul n.feed_pool l (pos (b * p.out o)) (λ e. pos (p.feed e)) n.feeds
    ∙ ap (λ z. pos (b * p.out o) *ℤ z) (pos-sum_at n.feed_pool l p.feed n.feeds)
  where
    turned : (b x y : ℕ) → b * (x * y) ≡ b * y * x
    turned b x y = omega arith

pub feed_row-holds : (n : Net) (p : Plan) (e : ℕ) → IsLimited n → Carries n p → e < n.feeds → HoldsAt n p (feed_row n e)
feed_row-holds n p e lim c lt =
    let l = n.feed_pool e in
    let b = product_but l (factor n p) n.pools in
    let m = product_below (factor n p) n.pools in
    omega (
      arith,
      linear,
      feed_row-sum n m p (lift n p) (lift_base n p) e lt,
      paths_from_feed n p e record { each = lim.feed_pools } lt,
      others-flow b (outflow n p l) m (p.feed e) (product_but_is l (factor n p) n.pools (lim.feed_pools e lt)) (feed-le n p e lim c lt),
    )

-- ---- limits

-- the quality that flows along paths to a product is what reaches it through the pools
pub path_quality-sum : (n : Net) (p : Plan) (j k : ℕ) → HasFeedPools n
    → along_paths n (lift n p) j k
    ≡ int_sum_at n.out_product j (λ o. others n p (n.out_pool o) *ℤ treated n p (n.out_pool o) k *ℤ pos (p.out o)) n.outs
path_quality-sum n p j k h =
    let quality = λ (e : ℕ). n.source_quality (n.feed_source e) k in
    let retained = λ (o : ℕ). pos (n.retained (n.out_pool o) k) in
    let of_pair = λ (e o : ℕ). (retained o *ℤ quality e) *ℤ (others n p (n.out_pool o) *ℤ (pos (p.feed e) *ℤ pos (p.out o))) in
    paths_at_key n of_pair n.out_product j h
    ∙ int_sum_at-same n.out_product j (λ o. int_sum_at n.feed_pool (n.out_pool o) (λ e. of_pair e o) n.feeds) (λ o. others n p (n.out_pool o) *ℤ treated n p (n.out_pool o) k *ℤ pos (p.out o)) n.outs
    (λ o lo is.
    int_sum_at-same n.feed_pool (n.out_pool o) (λ e. of_pair e o) (λ e. (retained o *ℤ others n p (n.out_pool o) *ℤ pos (p.out o)) *ℤ (quality e *ℤ pos (p.feed e))) n.feeds
    (λ e le at. regroup (retained o) (quality e) (others n p (n.out_pool o)) (pos (p.feed e)) (pos (p.out o)))
    ∙ int_sum_at-mul n.feed_pool (n.out_pool o) (retained o *ℤ others n p (n.out_pool o) *ℤ pos (p.out o)) (λ e. quality e *ℤ pos (p.feed e)) n.feeds
    ∙ last (retained o) (others n p (n.out_pool o)) (pos (p.out o)) (mix n p (n.out_pool o) k))
  where
    regroup : (r q b x y : ℤ) → (r *ℤ q) *ℤ (b *ℤ (x *ℤ y)) ≡ (r *ℤ b *ℤ y) *ℤ (q *ℤ x)
    regroup r q b x y = simp sorted refl

    last : (r b y m : ℤ) → (r *ℤ b *ℤ y) *ℤ m ≡ b *ℤ (r *ℤ m) *ℤ y
    last r b y m = simp sorted refl

pub path_most_row-holds : (n : Net) (p : Plan) (u : Limit) → IsLimited n → Blends n p → u.product < n.products → u.quality < n.qualities → n.most u.product u.quality ≡ Some u.limit
    → HoldsAt n p (path_most_row n u)
path_most_row-holds n p u lim b product quality is =
    omega (
      arith,
      additive,
      path_most_row-sum n (product_below (factor n p) n.pools) p (lift n p) (lift_base n p) u,
      path_quality-sum n p u.product u.quality record { each = lim.feed_pools },
      b.at_most u.product u.quality u.limit product quality is,
    )

pub path_least_row-holds : (n : Net) (p : Plan) (u : Limit) → IsLimited n → Blends n p → u.product < n.products → u.quality < n.qualities → n.least u.product u.quality ≡ Some u.limit
    → HoldsAt n p (path_least_row n u)
path_least_row-holds n p u lim b product quality is =
    omega (
      arith,
      additive,
      path_least_row-sum n (product_below (factor n p) n.pools) p (lift n p) (lift_base n p) u,
      path_quality-sum n p u.product u.quality record { each = lim.feed_pools },
      b.at_least u.product u.quality u.limit product quality is,
    )

-- ---- envelopes
pub proportion_envelope_row-holds : (n : Net) (b : Box) (p : Plan) (q number : ℕ) → IsLimited n → LiesIn n p b → q < path_count n
    → HoldsAt n p (proportion_envelope_row n b q number)
proportion_envelope_row-holds n b p q number lim lies lt =
    let e = path_feed n q in
    let o = path_out n q in
    let e_below = path_feed-below n q lt in
    let o_below = path_out-below n q lt in
    let l = n.feed_pool e in
    let f = factor n p l in
    let c = product_but l (factor n p) n.pools in
    let m = product_below (factor n p) n.pools in
    let v = lift n p in
    let pair = pos (p.feed e) *ℤ pos (p.out o) in
    let ends = proportion_ends n b q in
    let s = side number (pos grain) ends in
    let whole : c * f ≡ m = product_but_is l (factor n p) n.pools (lim.feed_pools e e_below) in
    let a_in = lies-prop n p b e lies e_below in
    let b_in = lies-flow n p b o lies o_below in
    omega (
      arith,
      additive,
      lifted_side-holds number (pos grain) ends (pos c) pair (place n p (prop e)) (pos f) (pos (p.out o)) (pos p.base) (omega (arith, additive))
          record {
            a_low = a_in.low;
            a_high = a_in.high;
            b_low = b_in.low;
            b_high = b_in.high;
            product = ap pos (turned grain (share n p e) (p.feed e) (p.out o) (share-out n p e o o_below (path-joined n q lt)));
          },
      no_sum v.x n.feeds,
      no_sum v.z n.directs,
      no_sums v.quality n.pools n.qualities,
      no_sums v.mixed n.outs n.qualities,
      one_sum q s.of_w v.w (path_count n) lt,
      one_sum o s.of_b v.y n.outs o_below,
      one_sum e s.of_a v.proportion n.feeds e_below,
      ap (λ i. s.of_w *ℤ (others n p i *ℤ pair)) (path-joined n q lt),
      ap (λ z. s.of_b *ℤ (pos z *ℤ pos (p.out o))) whole,
      ap (λ z. s.constant *ℤ (pos p.base *ℤ pos z)) whole,
    )
  where
    turned : (g share x y : ℕ) → share * y ≡ x * y → g * (x * y) ≡ g * share * y
    turned g share x y e = omega (arith, ap (λ z. g * z) e)

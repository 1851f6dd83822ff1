-- A feed's share of its pool: what it is where the pool sends something and where it sends nothing, and what a pool's shares
-- sum to.
use Rattle.std.proofs.Common.{◌≡◌, ◌≢◌, ℕ, ◌*◌, ◌<◌, ◌≤◌, inl, inr, pos, ◌*ℤ◌, arith, refl, sym, ap, ◌∙◌}
use Rattle.std.proofs.Math.IntN.{*ℤ-zero}
use Rattle.integers.specs.Sums.{sum_at}
use Rattle.integers.proofs.AtKey.{same_or_other, chosen, passed, term-le-sum_at, int_sum_at-same}
use Rattle.pool_model.specs.Network.{Net, IsLimited, HasFeeds}
use Rattle.pool_model.specs.Plan.{Plan, Carries, outflow, factor, mix}
use Rattle.pool_model.specs.Starting.{first_weight}
use Rattle.pool_model.proofs.Starts.{first_weights}
use Rattle.row_model.specs.Boxes.{share, place, qual}
use Rattle.integers.proofs.ByNode.{sum_at-same_key}

-- ---- flows through a pool
pub feed-le : (n : Net) (p : Plan) (e : ℕ) → IsLimited n → Carries n p → e < n.feeds → p.feed e ≤ outflow n p (n.feed_pool e)
feed-le n p e lim c h = omega (arith, c.balanced (n.feed_pool e) (lim.feed_pools e h), term-le-sum_at n.feed_pool (n.feed_pool e) p.feed n.feeds e h refl)

pub out-le : (n : Net) (p : Plan) (o : ℕ) → o < n.outs → p.out o ≤ outflow n p (n.out_pool o)
out-le n p o h = term-le-sum_at n.out_pool (n.out_pool o) p.out n.outs o h refl

-- nothing flows into or out of a pool that sends nothing
pub no_feed : (n : Net) (p : Plan) (e : ℕ) → IsLimited n → Carries n p → e < n.feeds → outflow n p (n.feed_pool e) ≡ 0 → p.feed e ≡ 0
no_feed n p e lim c h z = omega (arith, feed-le n p e lim c h)

pub no_out : (n : Net) (p : Plan) (o : ℕ) → o < n.outs → outflow n p (n.out_pool o) ≡ 0 → p.out o ≡ 0
no_out n p o h z = omega (arith, out-le n p o h)

-- ---- what a share is
pub share-flow : (n : Net) (p : Plan) (e : ℕ) → outflow n p (n.feed_pool e) ≢ 0 → share n p e ≡ p.feed e
share-flow n p e d = passed (outflow n p (n.feed_pool e)) 0 (first_weight n e) (p.feed e) d

pub share-first : (n : Net) (p : Plan) (e : ℕ) → outflow n p (n.feed_pool e) ≡ 0 → share n p e ≡ first_weight n e
share-first n p e z = chosen (outflow n p (n.feed_pool e)) 0 (first_weight n e) (p.feed e) z

-- times what an out of its pool carries, a share is its feed's flow
pub share-out : (n : Net) (p : Plan) (e o : ℕ) → o < n.outs → n.out_pool o ≡ n.feed_pool e → share n p e * p.out o ≡ p.feed e * p.out o
share-out n p e o h same = elim (same_or_other (outflow n p (n.feed_pool e)) 0) [
  | inl z ↦ let none : p.out o ≡ 0 = no_out n p o h (ap (outflow n p) same ∙ z) in rw none (omega arith)
  | inr d ↦ ap (λ z. z * p.out o) (share-flow n p e d)
]

-- ---- what a pool's shares sum to
pub first_weight-sum : (n : Net) (l : ℕ) → HasFeeds n → l < n.pools → sum_at n.feed_pool l (first_weight n) n.feeds ≡ 1
first_weight-sum n l has lt = let f = has l lt in omega (arith, first_weights n l n.feeds, term-le-sum_at n.feed_pool l (λ _. 1) n.feeds f.0 f.1 f.2)

pub share-sum : (n : Net) (p : Plan) (l : ℕ) → IsLimited n → Carries n p → l < n.pools → sum_at n.feed_pool l (share n p) n.feeds ≡ factor n p l
share-sum n p l lim c lt = elim (same_or_other (outflow n p l) 0) [
  | inl z ↦
      sum_at-same_key n.feed_pool l (share n p) (first_weight n) n.feeds (λ e h same. share-first n p e (ap (outflow n p) same ∙ z))
      ∙ omega (arith, first_weight-sum n l lim.fed lt)
  | inr d ↦
      sum_at-same_key n.feed_pool l (share n p) p.feed n.feeds (λ e h same. share-flow n p e (λ z. d (sym (ap (outflow n p) same) ∙ z)))
      ∙ omega (arith, c.balanced l lt)
]

pub share-le : (n : Net) (p : Plan) (e : ℕ) → IsLimited n → Carries n p → e < n.feeds → share n p e ≤ factor n p (n.feed_pool e)
share-le n p e lim c h =
    omega (arith, term-le-sum_at n.feed_pool (n.feed_pool e) (share n p) n.feeds e h refl, share-sum n p (n.feed_pool e) lim c (lim.feed_pools e h))

-- ---- what a pool's quality is
-- where the pool sends something it is the mean of what flows in
pub quality-mix : (n : Net) (p : Plan) (l k : ℕ) → outflow n p l ≢ 0 → place n p (qual l k) ≡ mix n p l k
quality-mix n p l k d =
    int_sum_at-same n.feed_pool l (λ e. n.source_quality (n.feed_source e) k *ℤ pos (share n p e)) (λ e. n.source_quality (n.feed_source e) k *ℤ pos (p.feed e)) n.feeds
    (λ e h same. ap (λ z. n.source_quality (n.feed_source e) k *ℤ pos z) (share-flow n p e (λ z. d (sym (ap (outflow n p) same) ∙ z))))

-- times what an out carries, its pool's quality is the mean of what flows in
pub quality-out : (n : Net) (p : Plan) (o k : ℕ) → o < n.outs → place n p (qual (n.out_pool o) k) *ℤ pos (p.out o) ≡ mix n p (n.out_pool o) k *ℤ pos (p.out o)
quality-out n p o k h = elim (same_or_other (outflow n p (n.out_pool o)) 0) [
  | inl z ↦
      let none : p.out o ≡ 0 = no_out n p o h z in
      ap (λ y. place n p (qual (n.out_pool o) k) *ℤ pos y) none ∙ *ℤ-zero (place n p (qual (n.out_pool o) k))
      ∙ sym (ap (λ y. mix n p (n.out_pool o) k *ℤ pos y) none ∙ *ℤ-zero (mix n p (n.out_pool o) k))
  | inr d ↦ ap (λ z. z *ℤ pos (p.out o)) (quality-mix n p (n.out_pool o) k d)
]

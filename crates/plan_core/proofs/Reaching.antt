-- How much of a quality some of the arcs bring to a node, at the most: as much as all flow into it can have.
use Rattle.std.proofs.Common.{◌≡◌, ℕ, ◌*◌, ◌^◌, ◌<◌, ◌≤◌, ℤ, pos, ◌+ℤ◌, ◌*ℤ◌, unsigned_abs, arith}
use Rattle.std.proofs.Math.Nat.{mul-le-mul_left}
use Rattle.std.proofs.lemmas.Int.{ints}
use Rattle.integers.specs.Sums.{int_sum_at, sum_at}
use Rattle.integers.proofs.Order.{abs-mul-le}
use Rattle.pool_model.specs.Network.{Net, IsLimited}
use Rattle.pool_model.specs.Plan.{Written, weight, written_out, plan_of}
use Rattle.pool_model.proofs.Sizes.{size-within, weighed-front}
use Rattle.plan_core.specs.Weighed.{weighed, leaving, pooled_below, sent_below, HasRoom}

module _ (n : Net) (w : Written) (k : ℕ) (limited : IsLimited n) (room : HasRoom n w) (lk : k < n.qualities) where
  pub leaving-most : (l : ℕ) → l < n.pools → unsigned_abs (leaving n w l k) ≤ 1000 * 2 ^ 57
  leaving-most l lt = abs-mul-le (pos (n.retained l k)) (weighed n w l k) 1000 (2 ^ 57) (omega (arith, limited.shares_retained l k lt lk, limited.scale)) (room.weighed l k lt lk)

  pub scaled-most : (i : ℕ) → i < n.sources → unsigned_abs (pos n.scale *ℤ n.source_quality i k) ≤ 10 ^ 14
  scaled-most i lt =
      omega (arith, abs-mul-le (pos n.scale) (n.source_quality i k) 1000 (10 ^ 11) (omega (arith, limited.scale)) (size-within (10 ^ 11) (n.source_quality i k) (limited.source_qualities i k lt lk)))

  -- what feeds bring to a pool, by their weights
  pub fed-most : (l feeds : ℕ) → l < n.pools → feeds ≤ n.feeds
      → unsigned_abs (int_sum_at n.feed_pool l (λ e. n.source_quality (n.feed_source e) k *ℤ pos (weight w e)) feeds) ≤ 2 ^ 57
  fed-most l feeds lt le =
      omega (
        arith,
        weighed-front n.feed_pool l (λ e. n.source_quality (n.feed_source e) k) (weight w) (10 ^ 11) feeds n.feeds le
            (λ e h. size-within (10 ^ 11) (n.source_quality (n.feed_source e) k) (limited.source_qualities (n.feed_source e) k (limited.feed_sources e h) lk)),
        mul-le-mul_left (10 ^ 11) (room.weights l lt),
      )

  -- what outs bring to a product
  pub pooled-most : (j outs : ℕ) → j < n.products → outs ≤ n.outs → unsigned_abs (pooled_below n w k outs j) ≤ 2 ^ 123
  pooled-most j outs lt le =
      omega (
        arith,
        weighed-front n.out_product j (λ o. leaving n w (n.out_pool o) k) (written_out w) (1000 * 2 ^ 57) outs n.outs le (λ o h. leaving-most (n.out_pool o) (limited.out_pools o h)),
        mul-le-mul_left (1000 * 2 ^ 57) (room.pooled j lt),
      )

  -- what directs bring to a product
  pub sent-most : (j directs : ℕ) → j < n.products → directs ≤ n.directs → unsigned_abs (sent_below n w k directs j) ≤ 2 ^ 123
  sent-most j directs lt le =
      let into : sum_at n.direct_product j (plan_of n w).direct n.directs ≤ 2 ^ 76 = omega (arith, room.inflows j lt) in
      omega (
        arith,
        weighed-front n.direct_product j (λ e. pos n.scale *ℤ n.source_quality (n.direct_source e) k) (plan_of n w).direct (10 ^ 14) directs n.directs le
            (λ e h. scaled-most (n.direct_source e) (limited.direct_sources e h)),
        mul-le-mul_left (10 ^ 14) into,
      )

-- a number that is one of these, and the sum of two
pub small_as : (x a : ℤ) → x ≡ a → unsigned_abs a ≤ 2 ^ 123 → unsigned_abs x ≤ 2 ^ 126
small_as x a e h = omega (arith, ints, e, h)

pub small_sum : (x a b : ℤ) → x ≡ a +ℤ b → unsigned_abs a ≤ 2 ^ 123 → unsigned_abs b ≤ 2 ^ 123 → unsigned_abs x ≤ 2 ^ 126
small_sum x a b e h k = omega (arith, ints, e, h, k)

-- The first feed of a pool.
use Rattle.std.proofs.Common.{◌≡◌, ℕ, ◌<◌, ◌≤◌, false, ◌==◌, sym, ◌∙◌, arith}
use Rattle.std.proofs.lemmas.Bool.Decides.{nat_tests}
use Rattle.integers.proofs.AtKey.{term-le-sum_at}
use Rattle.pool_model.specs.Network.{Net}
use Rattle.pool_model.specs.Starting.{feeds_before}

-- a feed of the same pool stands before
pub not_first : (n : Net) (e f pool other : ℕ) → f < e → pool ≡ n.feed_pool e → other ≡ n.feed_pool f → other ≡ pool → (feeds_before n e == 0) ≡ false
not_first n e f pool other lt p q same =
    let one = term-le-sum_at n.feed_pool (n.feed_pool e) (λ _. 1) e f lt (sym q ∙ same ∙ p) in
    above (feeds_before n e) one
  where
    above : (k : ℕ) → 1 ≤ k → (k == 0) ≡ false
    above k h = grind (arith, nat_tests)

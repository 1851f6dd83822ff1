-- The rows of PQ hold at the point of each plan that obeys.
use Rattle.std.proofs.Common.{ℕ, ◌*◌, ◌<◌, ◌≤◌, inl, inr, arith, ap}
use Rattle.std.proofs.Math.Nat.{mul-le-mul_left}
use Rattle.integers.specs.Sums.{product_below, product_but}
use Rattle.integers.proofs.Ring.{linear}
use Rattle.integers.proofs.AtKey.{same_or_other, product_but_is}
use Rattle.pool_model.specs.Network.{Net, IsLimited}
use Rattle.pool_model.specs.Plan.{Plan, Carries, outflow, factor}
use Rattle.row_model.specs.Boxes.{grain, share}
use Rattle.row_model.specs.Catalogue.{out_row, share_row}
use Rattle.row_model.specs.Lift.{lift, lift_base, HoldsAt}
use Rattle.row_model.proofs.FormRows.{out_row-sum, share_row-sum}
use Rattle.row_model.proofs.Shares.{out-le, share-flow}
use Rattle.row_model.proofs.QRows.{others-flow, paths_from_feed, paths_to_out}

pub out_row-holds : (n : Net) (p : Plan) (o : ℕ) → IsLimited n → Carries n p → o < n.outs → HoldsAt n p (out_row n o)
out_row-holds n p o lim c lt =
    let l = n.out_pool o in
    let b = product_but l (factor n p) n.pools in
    let m = product_below (factor n p) n.pools in
    omega (
      arith,
      linear,
      out_row-sum n m p (lift n p) (lift_base n p) o lt,
      paths_to_out n p o record { each = lim.feed_pools } lt,
      ap (λ z. b * p.out o * z) (c.balanced l (lim.out_pools o lt)),
      others-flow b (outflow n p l) m (p.out o) (product_but_is l (factor n p) n.pools (lim.out_pools o lt)) (out-le n p o lt),
    )

-- a feed's flow times what its pool sends is at most its share of what the pool may send
share-room : (n : Net) (p : Plan) (e : ℕ) → outflow n p (n.feed_pool e) ≤ p.base * n.pool_max (n.feed_pool e)
    → p.feed e * outflow n p (n.feed_pool e) ≤ share n p e * (p.base * n.pool_max (n.feed_pool e))
share-room n p e h = elim (same_or_other (outflow n p (n.feed_pool e)) 0) [
  | inl z ↦ omega (arith, ap (λ t. p.feed e * t) z)
  | inr d ↦ omega (arith, mul-le-mul_left (p.feed e) h, ap (λ s. s * (p.base * n.pool_max (n.feed_pool e))) (share-flow n p e d))
]

pub share_row-holds : (n : Net) (p : Plan) (e : ℕ) → IsLimited n → Carries n p → e < n.feeds → HoldsAt n p (share_row n e)
share_row-holds n p e lim c lt =
    let l = n.feed_pool e in
    let b = product_but l (factor n p) n.pools in
    omega (
      arith,
      linear,
      share_row-sum n (product_below (factor n p) n.pools) p (lift n p) (lift_base n p) e lt,
      paths_from_feed n p e record { each = lim.feed_pools } lt,
      mul-le-mul_left (grain * b) (share-room n p e (c.pools l (lim.feed_pools e lt))),
    )

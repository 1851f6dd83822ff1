-- The flows of a plan's point: through pools, and the qualities that they bring.
use Rattle.std.proofs.Common.{◌≡◌, ℕ, ◌*◌, ◌<◌, ℤ, pos, ◌*ℤ◌, arith, refl, sym, ap, ◌∙◌}
use Rattle.integers.specs.Sums.{product_but, int_sum_at, sum_at}
use Rattle.integers.proofs.Ring.{additive, sorted, mul_left_comm_ℤ}
use Rattle.integers.proofs.Order.{same_pos}
use Rattle.integers.proofs.AtKey.{int_sum_at-same, int_sum_at-mul, pos-sum_at, product_but_is}
use Rattle.pool_model.specs.Network.{Net, IsLimited}
use Rattle.pool_model.specs.Plan.{Plan, Carries, outflow, product_inflow, limit_room, mix, factor, quality_inflow, quality_room}
use Rattle.row_model.specs.Variables.{path_count, path_feed}
use Rattle.row_model.specs.Lift.{others}
use Rattle.row_model.proofs.Brought.{pools-bring}
use Rattle.row_model.proofs.PRows.{mix-out}
use Rattle.row_model.proofs.Shares.{feed-le}
use Rattle.row_model.proofs.QRows.{others-flow, paths_from_feed, path_quality-sum}
use Rattle.program_model.specs.Programs.{mixed_inflow, path_inflow}
use Rattle.program_model.specs.Lifted.{factors, proportion_point, quality_point}
use Rattle.program_model.proofs.Scaled.{scaled, mix-scaled, direct_mix-scaled, product_inflow-scaled}

-- ---- along paths

-- what reaches a product at the point is what reaches it in the plan, times all factors
pub path_inflow-lifted : (n : Net) (p : Plan) (j k : ℕ) → IsLimited n → path_inflow n (proportion_point n p) j k ≡ quality_inflow n p j k
path_inflow-lifted n p j k lim =
    omega (arith, additive, path_quality-sum n p j k record { each = lim.feed_pools }, direct_mix-scaled n (factors n p) p j k)

pub room-lifted : (n : Net) (p : Plan) (j : ℕ) (u : ℤ) → limit_room n (scaled (factors n p) p) j u ≡ quality_room n p j u
room-lifted n p j u =
    let limit = pos n.scale *ℤ u in
    ap (λ z. limit *ℤ pos z) (product_inflow-scaled n (factors n p) p j) ∙ mul_left_comm_ℤ limit (pos (factors n p)) (pos (product_inflow n p j))

-- what a feed brings goes along its paths
pub feeds-lifted : (n : Net) (p : Plan) (e : ℕ) → IsLimited n → Carries n p → e < n.feeds
    → (proportion_point n p).feed e ≡ sum_at (path_feed n) e (proportion_point n p).path (path_count n)
feeds-lifted n p e lim c lt =
    let l = n.feed_pool e in
    let b = product_but l (factor n p) n.pools in
    same_pos (factors n p * p.feed e) (sum_at (path_feed n) e (proportion_point n p).path (path_count n))
    (ap pos (sym (others-flow b (outflow n p l) (factors n p) (p.feed e) (product_but_is l (factor n p) n.pools (lim.feed_pools e lt)) (feed-le n p e lim c lt)))
    ∙ sym (paths_from_feed n p e record { each = lim.feed_pools } lt)
    ∙ pos-sum_at (path_feed n) e (proportion_point n p).path (path_count n))

-- ---- through pools

-- what reaches a product through pools is what mixed variables bring
pub mixed_inflow-lifted : (n : Net) (p : Plan) (j k : ℕ) → mixed_inflow n (quality_point n p) j k ≡ quality_inflow n p j k
mixed_inflow-lifted n p j k =
    omega (arith, additive, pools-bring n p j k, direct_mix-scaled n (factors n p) p j k)

-- the quality that flows into a pool flows out of it
pub mixing-lifted : (n : Net) (p : Plan) (l k : ℕ) → IsLimited n → Carries n p → l < n.pools
    → mix n (scaled (factors n p) p) l k ≡ int_sum_at n.out_pool l (λ o. (quality_point n p).mixed o k) n.outs
mixing-lifted n p l k lim c lt =
    let mean = others n p l *ℤ mix n p l k in
    mix-scaled n (factors n p) p l k
    ∙ mix-out n p l k lim c lt
    ∙ ap (λ z. mean *ℤ z) (sym (pos-sum_at n.out_pool l p.out n.outs))
    ∙ sym (int_sum_at-mul n.out_pool l mean (λ o. pos (p.out o)) n.outs)
    ∙ int_sum_at-same n.out_pool l (λ o. mean *ℤ pos (p.out o)) (λ o. (quality_point n p).mixed o k) n.outs
    (λ o lo is. grouped (others n p l) (mix n p l k) (pos (p.out o)) ∙ sym (ap (λ i. others n p i *ℤ (mix n p i k *ℤ pos (p.out o))) is))
  where
    grouped : (b m y : ℤ) → (b *ℤ m) *ℤ y ≡ b *ℤ (m *ℤ y)
    grouped b m y = simp sorted refl

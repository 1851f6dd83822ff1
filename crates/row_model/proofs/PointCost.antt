-- The cost of a plan's point is the plan's cost.
use Rattle.std.proofs.Common.{◌≡◌, ℕ, ℤ, pos, ◌+ℤ◌, ◌*ℤ◌, arith, refl, ap, ◌∙◌}
use Rattle.integers.specs.Sums.{int_sum_below, product_below}
use Rattle.integers.proofs.Ring.{additive, sorted, mul-add}
use Rattle.integers.proofs.ByIndex.{int_sum_below-same, int_sum_below-mul}
use Rattle.pool_model.specs.Network.{Net, IsLimited}
use Rattle.pool_model.specs.Plan.{Plan, factor, cost_of}
use Rattle.pool_model.proofs.ArcCosts.{cost-by_arcs}
use Rattle.row_model.specs.Variables.{path_count, variables, by_number, dot, costs}
use Rattle.row_model.specs.Lift.{lift}
use Rattle.row_model.proofs.RowSums.{no_sum, no_sums}
use Rattle.row_model.proofs.Numbering.{by_number-dot}

-- a factor of every variable
moved : (c : ℕ → ℤ) (m : ℤ) (x : ℕ → ℤ) (n : ℕ) → int_sum_below (λ i. c i *ℤ (m *ℤ x i)) n ≡ m *ℤ int_sum_below (λ i. c i *ℤ x i) n
moved c m x n = int_sum_below-same (λ i. c i *ℤ (m *ℤ x i)) (λ i. m *ℤ (c i *ℤ x i)) n (λ i lt. turned (c i) m (x i)) ∙ int_sum_below-mul m (λ i. c i *ℤ x i) n
  where
    turned : (c m x : ℤ) → c *ℤ (m *ℤ x) ≡ m *ℤ (c *ℤ x)
    turned c m x = simp sorted refl

costs-dot : (n : Net) (p : Plan) → IsLimited n → dot n (costs n) (lift n p) ≡ pos (product_below (factor n p) n.pools) *ℤ cost_of n p
costs-dot n p lim =
    let m = pos (product_below (factor n p) n.pools) in
    let v = lift n p in
    let c = costs n in
    let xs = int_sum_below (λ e. c.x e *ℤ pos (p.feed e)) n.feeds in
    let ys = int_sum_below (λ o. c.y o *ℤ pos (p.out o)) n.outs in
    let zs = int_sum_below (λ e. c.z e *ℤ pos (p.direct e)) n.directs in
    omega (
      arith,
      additive,
      no_sum v.w (path_count n),
      no_sum v.proportion n.feeds,
      no_sums v.quality n.pools n.qualities,
      no_sums v.mixed n.outs n.qualities,
      moved c.x m (λ e. pos (p.feed e)) n.feeds,
      moved c.y m (λ o. pos (p.out o)) n.outs,
      moved c.z m (λ e. pos (p.direct e)) n.directs,
      ap (λ z. m *ℤ z) (cost-by_arcs n p lim) ∙ mul-add m (xs +ℤ ys) zs,
      mul-add m xs ys,
    )

pub point-cost : (n : Net) (p : Plan) → IsLimited n
    → int_sum_below (λ v. by_number n (costs n) v *ℤ by_number n (lift n p) v) (variables n) ≡ pos (product_below (factor n p) n.pools) *ℤ cost_of n p
point-cost n p lim = by_number-dot n (costs n) (lift n p) ∙ costs-dot n p lim

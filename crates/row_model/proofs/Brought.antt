-- What reaches a product of a quality, in parts of the scale: along directs, and through pools by mixed variables.
use Rattle.std.proofs.Common.{◌≡◌, ℕ, ℤ, pos, ◌*ℤ◌, refl, ◌∙◌}
use Rattle.integers.specs.Sums.{int_sum_at}
use Rattle.integers.proofs.Ring.{sorted, mul_assoc_ℤ}
use Rattle.integers.proofs.AtKey.{int_sum_at-same, int_sum_at-mul}
use Rattle.pool_model.specs.Network.{Net}
use Rattle.pool_model.specs.Plan.{Plan, mix, treated, direct_mix}
use Rattle.pool_model.specs.Starting.{straight, way_quality}
use Rattle.row_model.specs.Lift.{lift, others}

-- directs bring what their sources have
pub directs-bring : (n : Net) (p : Plan) (j k : ℕ) → int_sum_at n.direct_product j (λ e. way_quality n (straight e) k *ℤ pos (p.direct e)) n.directs ≡ direct_mix n p j k
directs-bring n p j k =
    int_sum_at-same n.direct_product j (λ e. way_quality n (straight e) k *ℤ pos (p.direct e)) (λ e. pos n.scale *ℤ (n.source_quality (n.direct_source e) k *ℤ pos (p.direct e))) n.directs
    (λ e le is. mul_assoc_ℤ (pos n.scale) (n.source_quality (n.direct_source e) k) (pos (p.direct e)))
    ∙ int_sum_at-mul n.direct_product j (pos n.scale) (λ e. n.source_quality (n.direct_source e) k *ℤ pos (p.direct e)) n.directs

-- pools retain their part of the mixed variables
pub pools-bring : (n : Net) (p : Plan) (j k : ℕ)
    → int_sum_at n.out_product j (λ o. pos (n.retained (n.out_pool o) k) *ℤ (lift n p).mixed o k) n.outs
    ≡ int_sum_at n.out_product j (λ o. others n p (n.out_pool o) *ℤ treated n p (n.out_pool o) k *ℤ pos (p.out o)) n.outs
pools-bring n p j k =
    int_sum_at-same n.out_product j (λ o. pos (n.retained (n.out_pool o) k) *ℤ (lift n p).mixed o k)
    (λ o. others n p (n.out_pool o) *ℤ treated n p (n.out_pool o) k *ℤ pos (p.out o)) n.outs
    (λ o lo is. turned (pos (n.retained (n.out_pool o) k)) (others n p (n.out_pool o)) (mix n p (n.out_pool o) k) (pos (p.out o)))
  where
    turned : (r b m y : ℤ) → r *ℤ (b *ℤ (m *ℤ y)) ≡ b *ℤ (r *ℤ m) *ℤ y
    turned r b m y = simp sorted refl

-- The points of a plan are the point at which the catalogue's rows are read.
use Rattle.std.proofs.Common.{◌≡◌, ℕ, ◌*◌, ℤ, pos, ◌*ℤ◌, arith, refl, ap}
use Rattle.integers.specs.Sums.{product_but}
use Rattle.integers.proofs.Ring.{sorted}
use Rattle.pool_model.specs.Network.{Net}
use Rattle.pool_model.specs.Plan.{Plan, factor}
use Rattle.row_model.specs.Boxes.{grain, share, place, qual}
use Rattle.row_model.specs.Lift.{others}
use Rattle.program_model.specs.Lifted.{factors, proportion_point, quality_point, IsLiftByProportions, IsLiftByQualities}

pub lift-by_proportions : (n : Net) (p : Plan) → IsLiftByProportions n p (proportion_point n p)
lift-by_proportions n p = record {
  base = refl;
  feed = λ e. refl;
  out = λ o. refl;
  direct = λ e. refl;
  path = λ a. refl;
  proportion = λ e. ap pos (turned grain p.base (factors n p) (product_but (n.feed_pool e) (factor n p) n.pools) (share n p e));
}
  where
    turned : (g d m b s : ℕ) → g * (d * m) * (b * s) ≡ d * b * (g * s) * m
    turned g d m b s = omega arith

pub lift-by_qualities : (n : Net) (p : Plan) → IsLiftByQualities n p (quality_point n p)
lift-by_qualities n p = record {
  base = refl;
  feed = λ e. refl;
  out = λ o. refl;
  direct = λ e. refl;
  mixed = λ o k. refl;
  quality = λ l k. turned (pos p.base) (pos (factors n p)) (others n p l) (place n p (qual l k));
}
  where
    turned : (d m b q : ℤ) → (d *ℤ m) *ℤ (b *ℤ q) ≡ (d *ℤ b *ℤ q) *ℤ m
    turned d m b q = simp sorted refl

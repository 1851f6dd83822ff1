-- A mean, rounded down: the factors of all pools cancel.
use Rattle.std.proofs.Common.{◌≡◌, ℕ, ◌*◌, ◌<◌, ℤ, pos, ◌+ℤ◌, ◌*ℤ◌, ◌≤ℤ◌, ◌<ℤ◌, arith, refl, ap, ◌∙◌}
use Rattle.std.proofs.Math.Nat.{mul-le-mul}
use Rattle.std.proofs.lemmas.Int.{ints}
use Rattle.integers.specs.Sums.{product_below}
use Rattle.integers.proofs.Ring.{sorted}
use Rattle.integers.proofs.Order.{floor-le, le-mul, lt-mul}
use Rattle.integers.proofs.AtKey.{positive-product_below}
use Rattle.pool_model.specs.Network.{Net}
use Rattle.pool_model.specs.Plan.{Plan, factor, product_inflow}
use Rattle.text_pieces.specs.Rounding.{rounded_down}
use Rattle.text_pieces.proofs.Floors.{floor-lt, floor-only}
use Rattle.plan_flows.specs.Means.{IsMean}
use Rattle.pool_report.specs.Amounts.{mean_of}

-- a common factor does not change what a fraction is rounded to
down-scaled : (m : ℕ) (z : ℤ) (d : ℕ) → 0 < m → 0 < d → rounded_down z d ≡ rounded_down (pos m *ℤ z) (m * d)
down-scaled m z d some positive =
    let f = rounded_down z d in
    let above : pos 0 <ℤ pos m = omega (arith, ints) in
    let within : 0 < m * d = mul-le-mul some positive in
    let low : (f *ℤ pos (m * d)) ≤ℤ (pos m *ℤ z) = rw (apart f (pos m) (pos d)) (le-mul (pos m) (f *ℤ pos d) z (omega (arith, ints)) (floor-le z d positive)) in
    let high : (pos m *ℤ z) <ℤ ((f +ℤ pos 1) *ℤ pos (m * d)) = rw (apart (f +ℤ pos 1) (pos m) (pos d)) (lt-mul (pos m) z ((f +ℤ pos 1) *ℤ pos d) above (floor-lt z d positive)) in
    floor-only (pos m *ℤ z) f (m * d) within low high
  where
    apart : (f m d : ℤ) → f *ℤ (m *ℤ d) ≡ m *ℤ (f *ℤ d)
    apart f m d = simp sorted refl

-- a mean, rounded down, by its two numbers
pub mean_is : (n : Net) (p : Plan) (j k : ℕ) (num den : ℤ) (inflow : ℕ) → IsMean n p j k num den → inflow ≡ n.scale * product_inflow n p j → rounded_down num inflow ≡ mean_of n p j k
mean_is n p j k num den inflow is e =
    let m = product_below (factor n p) n.pools in
    let all = n.scale * product_inflow n p j in
    ap (λ (d : ℕ). rounded_down num d) e
    ∙ down-scaled m num all (positive-product_below (factor n p) n.pools (λ l. omega arith)) is.some
    ∙ ap (λ (z : ℤ). rounded_down z (m * all)) is.quality

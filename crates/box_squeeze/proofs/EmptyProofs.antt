-- The empty proof is in order in each proper box: it weighs no more than the price proof.
use Rattle.std.proofs.Common.{◌≡◌, ℕ, ◌*◌, ◌<◌, ◌≤◌, max, unsigned_abs, arith, refl}
use Rattle.std.proofs.Math.Nat.{mul-le-mul_right}
use Rattle.std.proofs.lemmas.List.Elements.{All-nil}
use Rattle.integers.proofs.AtKey.{sum_below-le}
use Rattle.pool_model.specs.Network.{Net, IsLimited}
use Rattle.row_model.specs.Boxes.{Box, IsProper}
use Rattle.row_model.specs.Variables.{variables, by_number, lows, highs}
use Rattle.row_model.specs.Catalogue.{rows, row_at}
use Rattle.row_model.specs.Multipliers.{Part, IsInOrder, IsSigned, weight, rest_weight}
use Rattle.std.proofs.Common.{◌≢◌, pos}
use Rattle.dual_rounding.specs.Price.{price_proof}
use Rattle.dual_rounding.proofs.PriceInOrder.{price-in_order}
use Rattle.box_squeeze.specs.Squeezes.{empty}

lighter : (n : Net) (b : Box) → weight n b empty ≤ weight n b (price_proof n)
lighter n b =
    let ends = λ (v : ℕ). max (unsigned_abs (by_number n (lows n b) v)) (unsigned_abs (by_number n (highs n b) v)) in
    let rests : (v : ℕ) → rest_weight n b empty v ≤ rest_weight n b (price_proof n) v = λ v. omega arith in
    let sums = sum_below-le (λ v. rest_weight n b empty v * ends v) (λ v. rest_weight n b (price_proof n) v * ends v) (variables n) (λ v lt. mul-le-mul_right (ends v) (rests v)) in
    omega (arith, sums)

pub empty-in_order : (n : Net) (b : Box) → IsLimited n → IsProper n b → IsInOrder n b empty
empty-in_order n b limited proper = record {
  rising = λ i j lt behind. absurd (omega (arith, behind));
  known = All-nil (λ (q : Part). q.row < rows n);
  signed = All-nil (λ (q : Part). IsSigned (row_at n b q.row).kind q.mult);
  nonzero = All-nil (λ (q : Part). q.mult ≢ pos 0);
  narrow = omega (arith, lighter n b, (price-in_order n b limited proper).narrow);
  shows = λ e. absurd (one 1 e refl);
}
  where
    one : (scale : ℕ) → scale ≡ 0 → scale ≡ 1 → ⊥
    one scale e h = omega arith

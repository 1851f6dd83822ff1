-- The weight of a proof, variable by variable and part by part.
use Rattle.std.proofs.Common.{◌≡◌, ℕ, zero, suc, ◌+◌, ◌*◌, List, [], ◌∷◌, ℤ, unsigned_abs, Result, Ok, Err, OnErr, arith, refl, ap, ◌∙◌}
use Rattle.std.specs.List.{sum_by}
use Rattle.std.proofs.lemmas.List.Sums.{sum_by-cons}
use Rattle.integers.specs.Sums.{sum_below}
use Rattle.integers.proofs.AtKey.{sum_below-same}
use Rattle.row_model.specs.Multipliers.{Part}

sum_below-add : (f g : ℕ → ℕ) (n : ℕ) → sum_below (λ i. f i + g i) n ≡ sum_below f n + sum_below g n
sum_below-add f g zero = refl
sum_below-add f g (suc n) = omega (arith, sum_below-add f g n)

-- costs, ends' sizes, coefficients by row and variable, and constants by row
module _ (cost : ℕ → ℤ) (ends : ℕ → ℕ) (coef : ℕ → ℕ → ℤ) (constant : ℕ → ℤ) (variables scale : ℕ) where
  -- what a part adds
  abbrev pub part_weight : Part → ℕ
  part_weight q = unsigned_abs q.mult * unsigned_abs (constant q.row) + sum_below (λ v. unsigned_abs q.mult * unsigned_abs (coef q.row v) * ends v) variables

  pub weight-parts : (parts : List Part)
      → sum_by (λ q. unsigned_abs q.mult * unsigned_abs (constant q.row)) parts
      + sum_below (λ v. (scale * unsigned_abs (cost v) + sum_by (λ q. unsigned_abs q.mult * unsigned_abs (coef q.row v)) parts) * ends v) variables
      ≡ sum_below (λ v. scale * unsigned_abs (cost v) * ends v) variables + sum_by part_weight parts
  weight-parts [] = omega (
    arith,
    sum_below-same (λ v. (scale * unsigned_abs (cost v) + 0) * ends v) (λ v. scale * unsigned_abs (cost v) * ends v) variables (λ v lt. omega arith),
  )
  weight-parts (q ∷ parts) =
      let here = λ (v : ℕ). unsigned_abs q.mult * unsigned_abs (coef q.row v) * ends v in
      let old = λ (v : ℕ). (scale * unsigned_abs (cost v) + sum_by (λ q. unsigned_abs q.mult * unsigned_abs (coef q.row v)) parts) * ends v in
      omega (
        arith,
        sum_by-cons (λ q. unsigned_abs q.mult * unsigned_abs (constant q.row)) q parts,
        sum_by-cons part_weight q parts,
        sum_below-same (λ v. (scale * unsigned_abs (cost v) + sum_by (λ q. unsigned_abs q.mult * unsigned_abs (coef q.row v)) (q ∷ parts)) * ends v) (λ v. old v + here v) variables
            (λ v lt. ap (λ z. (scale * unsigned_abs (cost v) + z) * ends v) (sum_by-cons (λ q. unsigned_abs q.mult * unsigned_abs (coef q.row v)) q parts) ∙ omega arith),
        sum_below-add old here variables,
        weight-parts parts,
      )

-- a size that was multiplied out, by what its factors are
pub size_is : (m a b : ℕ) (z y : ℤ) (e : ℕ) → a ≡ m * unsigned_abs z → z ≡ y → b ≡ e → a * b ≡ m * unsigned_abs y * e
size_is m a b z y e p q r = ap (λ t. t * b) p ∙ ap (λ t. m * unsigned_abs t * b) q ∙ ap (λ t. m * unsigned_abs y * t) r

-- what does not depend on the error
pub on_err : {T E P : Type 0} (r : Result T E) → P → OnErr r P
on_err (Ok x) p = tt
on_err (Err e) p = p

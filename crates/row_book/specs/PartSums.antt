-- Sums and tests over the parts of a proof, by rows that are sealed.
use Rattle.std.specs.Prelude.{◌≢◌, ℕ, ◌+◌, ◌*◌, ◌<◌, List, All, ℤ, pos, ◌-ℤ◌, ◌*ℤ◌, unsigned_abs}
use Rattle.std.specs.List.{sum_by}
use Rattle.std.specs.Int.{int_min}
use Rattle.integers.specs.Sums.{int_sum_by, int_sum_below, sum_below}
use Rattle.pool_model.specs.Network.{Net}
use Rattle.row_model.specs.Boxes.{Box}
use Rattle.row_model.specs.Variables.{variables, by_number, costs, lows, highs}
use Rattle.row_model.specs.Catalogue.{rows}
use Rattle.row_model.specs.Multipliers.{Part, Proof, IsRising, IsSigned}
use Rattle.row_book.specs.PartRows.{kind_at, coef_at, constant_at}
use Rattle.row_book.specs.Sizes.{end_size}

-- row numbers rise and are those of rows, and multipliers have their rows' signs and are not 0
pub record AreInOrder (n : Net) (b : Box) (proof : Proof) : Type 0 where
  pub rising : IsRising proof.parts
  pub known : All (λ q. q.row < rows n) proof.parts
  pub signed : All (λ q. IsSigned (kind_at n b q.row) q.mult) proof.parts
  pub nonzero : All (λ q. q.mult ≢ pos 0) proof.parts

-- the sum of the multiplied constants
abbrev pub constants_of : Net → Box → List Part → ℤ
constants_of n b parts = int_sum_by (λ q. q.mult *ℤ constant_at n b q.row) parts

-- what a variable costs still, when multiplied rows are taken off the scaled cost
abbrev pub rest_of : Net → Box → ℕ → List Part → ℕ → ℤ
rest_of n b scale parts v = pos scale *ℤ by_number n (costs n) v -ℤ int_sum_by (λ q. q.mult *ℤ coef_at n b q.row v) parts

-- the number of a proof
abbrev pub number_of : Net → Box → Proof → ℤ
number_of n b proof =
    int_sum_below (λ v. int_min (rest_of n b proof.scale proof.parts v *ℤ by_number n (lows n b) v) (rest_of n b proof.scale proof.parts v *ℤ by_number n (highs n b) v)) (variables n)
    -ℤ constants_of n b proof.parts

-- the sizes of what is added up for a variable's rest
abbrev pub rest_weight_of : Net → Box → ℕ → List Part → ℕ → ℕ
rest_weight_of n b scale parts v = scale * unsigned_abs (by_number n (costs n) v) + sum_by (λ q. unsigned_abs q.mult * unsigned_abs (coef_at n b q.row v)) parts

-- the weight of a proof
abbrev pub weight_of : Net → Box → Proof → ℕ
weight_of n b proof =
    sum_by (λ q. unsigned_abs q.mult * unsigned_abs (constant_at n b q.row)) proof.parts
    + sum_below (λ v. rest_weight_of n b proof.scale proof.parts v * end_size n b v) (variables n)

-- what a part adds to the weight
abbrev pub part_weight : Net → Box → Part → ℕ
part_weight n b q = unsigned_abs q.mult * unsigned_abs (constant_at n b q.row) + sum_below (λ v. unsigned_abs q.mult * unsigned_abs (coef_at n b q.row v) * end_size n b v) (variables n)

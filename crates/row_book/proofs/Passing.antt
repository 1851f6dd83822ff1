-- The sums of a pass, with no part and with one part more, and the number that all parts give.
use Rattle.std.proofs.Common.{◌≡◌, ℕ, ◌+◌, ◌*◌, ◌^◌, ◌<◌, ◌≤◌, List, [], map, take, length, get_or, ℤ, pos, ◌+ℤ◌, ◌-ℤ◌, ◌*ℤ◌, unsigned_abs}
use Rattle.std.proofs.Common.{Result, Ok, Err, IfOk, FitsSigned, arith, sym, ap, subst, ◌∙◌}
use Rattle.std.specs.Int.{int_min}
use Rattle.std.proofs.lemmas.Int.{unsigned_abs-mul}
use Rattle.std.proofs.lemmas.List.{length-map, length-take-le}
use mir.Syntax.{w128}
use Rattle.exact_num.specs.declared.weight.Wide.{Wide}
use Rattle.integers.specs.Sums.{int_sum_below, sum_below}
use Rattle.integers.proofs.AtKey.{sum_below-same}
use Rattle.integers.proofs.Ring.{additive}
use Rattle.pool_model.specs.Network.{Net}
use Rattle.row_model.specs.Multipliers as multipliers
use Rattle.row_model.specs.Boxes.{Box}
use Rattle.row_model.specs.Variables.{variables, by_number, costs, lows, highs}
use Rattle.box_space.specs.Views.{shown_part}
use Rattle.linear_program.specs.declared.multipliers.Part.{Part}
use Rattle.row_book.specs.PartRows.{coef_at, constant_at}
use Rattle.row_book.specs.PartSums.{number_of, weight_of}
use Rattle.row_book.specs.Passing.{AreNarrow, AreSums, HasRoom, IsAdded}
use Rattle.row_book.specs.Sizes.{rests_weight, end_size}
use Rattle.row_book.specs.declared.sums.Sums.{Sums}
use Rattle.row_book.proofs.AllParts.{no_part}
use Rattle.row_book.proofs.Parts.{ends-light, number-read, number-fits, constants_size, rest-more, constants-more, weight-more}
use Rattle.row_book.proofs.WeightSums.{weight-parts}

-- the scaled costs alone
pub weight-none : (n : Net) (b : Box) (scale : ℕ) (rests : List ℤ) → ((v : ℕ) → v < variables n → get_or rests v (pos 0) ≡ pos scale *ℤ by_number n (costs n) v)
    → rests_weight n b rests (variables n) ≡ weight_of n b record { scale = scale; parts = [] }
weight-none n b scale rests costly = omega (
  arith,
  sum_below-same (λ v. unsigned_abs (get_or rests v (pos 0)) * end_size n b v) (λ v. scale * unsigned_abs (by_number n (costs n) v) * end_size n b v) (variables n)
      (λ v lt. ap (λ z. unsigned_abs z * end_size n b v) (costly v lt) ∙ ap (λ z. z * end_size n b v) (unsigned_abs-mul (pos scale) (by_number n (costs n) v))),
  weight-parts (by_number n (costs n)) (end_size n b) (coef_at n b) (constant_at n b) (variables n) scale [],
)

module _ (n : Net) (b : Box) (scale : ℕ) (parts : List Part) (k : ℕ) (lt : k < length parts) where
  count : length (take k (map shown_part parts)) ≡ k
  count = length-take-le k (map shown_part parts) (omega (arith, length-map parts shown_part))

  count-more : length (take (k + 1) (map shown_part parts)) ≡ k + 1
  count-more = length-take-le (k + 1) (map shown_part parts) (omega (arith, length-map parts shown_part))

  pub sums-room : (numbers : List ℤ) (sums : Result Sums Wide) → length parts ≤ 2 ^ 14
      → AreSums n b scale (take k (map shown_part parts)) numbers sums → IfOk sums (HasRoom n numbers)
  sums-room numbers (Ok sums) few are = record {
    constants = omega (arith, are.weight, ap unsigned_abs are.constants, constants_size n b scale (take k (map shown_part parts)));
    rests = λ v inside. omega (arith, are.small v inside, count);
  }
  sums-room numbers (Err wide) few are = tt

  pub sums-more : (numbers new_numbers : List ℤ) (sums new_sums : Result Sums Wide) → AreSums n b scale (take k (map shown_part parts)) numbers sums
      → IsAdded n b (shown_part (get_or parts k no_part)) numbers new_numbers sums new_sums
      → AreSums n b scale (take (k + 1) (map shown_part parts)) new_numbers new_sums
  sums-more numbers new_numbers (Ok sums) (Ok new_sums) are with = record {
    weight = omega (arith, with.weight, are.weight, weight-more n b scale parts k lt);
    narrow = with.narrow;
    constants = with.constants
        ∙ ap (λ z. z +ℤ (get_or parts k no_part).mult *ℤ constant_at n b (get_or parts k no_part).row) are.constants
        ∙ sym (constants-more n b scale parts k lt);
    rests = λ v inside. omega (arith, additive, with.rests v inside, are.rests v inside, rest-more n b scale parts k lt v);
    small = λ v inside. omega (arith, with.small v inside, are.small v inside, count, count-more);
  }
  sums-more numbers new_numbers (Ok sums) (Err wide) are with = omega (arith, with, are.weight, weight-more n b scale parts k lt)
  sums-more numbers new_numbers (Err wide) (Ok new_sums) are with = absurd with
  sums-more numbers new_numbers (Err wide) (Err same) are with = omega (arith, are, weight-more n b scale parts k lt)

-- the number, once all parts are summed
module _ (n : Net) (b : Box) (scale : ℕ) (parts : List multipliers.Part) (numbers : List ℤ) (sums : Sums) (are : AreNarrow n b scale parts numbers sums) where
  pub sums-narrow : weight_of n b record { scale = scale; parts = parts } ≤ 2 ^ 126
  sums-narrow = omega (arith, are.weight, are.narrow)

  pub sums-light : sum_below (λ v. unsigned_abs (get_or numbers v (pos 0)) * end_size n b v) (variables n) ≤ 2 ^ 126
  sums-light = ends-light n b scale parts (λ v. get_or numbers v (pos 0)) are.rests sums-narrow

  module _ (ends : ℤ) (is : ends ≡ int_sum_below
      (λ v. int_min (get_or numbers v (pos 0) *ℤ by_number n (lows n b) v) (get_or numbers v (pos 0) *ℤ by_number n (highs n b) v)) (variables n)) where
    pub sums-number : ends -ℤ sums.constants ≡ number_of n b record { scale = scale; parts = parts }
    sums-number = number-read n b scale parts (λ v. get_or numbers v (pos 0)) ends sums.constants are.rests is are.constants

    pub sums-fit : FitsSigned w128 (ends -ℤ sums.constants)
    sums-fit = subst (λ z. FitsSigned w128 z) (sym sums-number) (number-fits n b scale parts sums-narrow)

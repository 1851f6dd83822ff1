-- The sums of a pass over a proof's parts.
use Rattle.std.specs.Prelude.{◌≡◌, ℕ, ◌+◌, ◌*◌, ◌^◌, ◌<◌, ◌≤◌, List, length, get_or, ℤ, pos, ◌+ℤ◌, ◌-ℤ◌, ◌*ℤ◌, unsigned_abs, Result, Ok, Err}
use Rattle.exact_num.specs.declared.weight.Wide.{Wide}
use Rattle.pool_model.specs.Network.{Net}
use Rattle.row_model.specs.Boxes.{Box}
use Rattle.row_model.specs.Variables.{variables}
use Rattle.row_model.specs.Multipliers.{Part}
use Rattle.row_book.specs.PartRows.{coef_at, constant_at}
use Rattle.row_book.specs.PartSums.{constants_of, rest_of, weight_of, part_weight}
use Rattle.row_book.specs.declared.sums.Sums.{Sums}

-- the sums of scaled costs and parts that weigh at most 2^126; each part adds at most 2^111 to a rest
pub record AreNarrow (n : Net) (b : Box) (scale : ℕ) (parts : List Part) (numbers : List ℤ) (sums : Sums) : Type 0 where
  pub weight : sums.weight ≡ weight_of n b record { scale = scale; parts = parts }
  pub narrow : sums.weight ≤ 2 ^ 126
  pub constants : sums.constants ≡ constants_of n b parts
  pub rests : (v : ℕ) → v < variables n → get_or numbers v (pos 0) ≡ rest_of n b scale parts v
  pub small : (v : ℕ) → v < variables n → unsigned_abs (get_or numbers v (pos 0)) ≤ 2 ^ 112 + length parts * 2 ^ 111

-- the sums of scaled costs and parts; none exactly where these weigh more than 2^126
abbrev pub AreSums : Net → Box → ℕ → List Part → List ℤ → Result Sums Wide → Type 0
AreSums n b scale parts numbers (Ok sums) = AreNarrow n b scale parts numbers sums
AreSums n b scale parts numbers (Err wide) = 2 ^ 126 < weight_of n b record { scale = scale; parts = parts }

-- one part more fits into the numbers that hold the sums
pub record HasRoom (n : Net) (numbers : List ℤ) (sums : Sums) : Type 0 where
  pub constants : unsigned_abs sums.constants ≤ sums.weight
  pub rests : (v : ℕ) → v < variables n → unsigned_abs (get_or numbers v (pos 0)) + 2 ^ 111 ≤ 2 ^ 126

-- sums with one part more
pub record AreWith (n : Net) (b : Box) (q : Part) (numbers new_numbers : List ℤ) (sums new_sums : Sums) : Type 0 where
  pub weight : new_sums.weight ≡ sums.weight + part_weight n b q
  pub narrow : new_sums.weight ≤ 2 ^ 126
  pub constants : new_sums.constants ≡ sums.constants +ℤ q.mult *ℤ constant_at n b q.row
  pub rests : (v : ℕ) → v < variables n → get_or new_numbers v (pos 0) ≡ get_or numbers v (pos 0) -ℤ q.mult *ℤ coef_at n b q.row v
  pub small : (v : ℕ) → v < variables n → unsigned_abs (get_or new_numbers v (pos 0)) ≤ unsigned_abs (get_or numbers v (pos 0)) + 2 ^ 111

-- what a part makes of sums: those with one part more, none where the weight would pass 2^126, and none of none
abbrev pub IsAdded : Net → Box → Part → List ℤ → List ℤ → Result Sums Wide → Result Sums Wide → Type 0
IsAdded n b q numbers new_numbers (Ok sums) (Ok new_sums) = AreWith n b q numbers new_numbers sums new_sums
IsAdded n b q numbers new_numbers (Ok sums) (Err wide) = 2 ^ 126 < sums.weight + part_weight n b q
IsAdded n b q numbers new_numbers (Err wide) (Ok new_sums) = ⊥
IsAdded n b q numbers new_numbers (Err wide) (Err same) = Unit {0}

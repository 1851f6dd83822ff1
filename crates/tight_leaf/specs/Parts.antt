-- Multipliers as they are listed, and the parts that are made of them.
use Rattle.std.specs.Prelude.{◌≡◌, ◌≢◌, ℕ, ◌+◌, ◌<◌, List, All, Contains, get_or, length, map, pos, Bool, true, false, if◌then◌else◌}
use Rattle.exact_num.specs.Fraction.{Fraction, negative_of}
use Rattle.exact_num.specs.Views.{shown_frac}
use Rattle.exact_run.specs.Operations.{whole}
use Rattle.exact_run.specs.declared.ends.End.{End}
use Rattle.exact_run.specs.declared.ends.End.TheVariants.{Low, High}
use Rattle.linear_program.specs.declared.multipliers.Part.{Part}
use Rattle.common_denominators.specs.Multiples.{IsTimes}
use Rattle.tight_leaf.specs.declared.proof.Multipliers.{Multipliers}

-- a factor, or minus it
abbrev pub signed : Bool → Fraction → Fraction
signed negated x = if negated then negative_of x else x

-- the signs of the factors are turned where the low end is passed
abbrev pub is_turned : End → Bool
is_turned Low = true
is_turned High = false

-- places that rise: those of the rows with a factor that is not 0
pub record ArePlaces (first : ℕ) (factor : ℕ → Fraction) (count : ℕ) (places : List ℕ) : Type 0 where
  pub rising : (i j : ℕ) → i < j → j < length places → get_or places i 0 < get_or places j 0
  pub all : (r : ℕ) → r < count → (factor (first + r)).num ≢ pos 0 → Contains places r
  pub each : All (λ r. (r < count) × ((factor (first + r)).num ≢ pos 0)) places

-- the multipliers, as fractions
abbrev pub shown_multipliers : Multipliers → List Fraction
shown_multipliers ms = map shown_frac ms.values.items

-- The multipliers of all rows whose factor is not 0, by rising place: each row's number, and the factor or minus it.
pub record AreMultipliers (rows : List ℕ) (first : ℕ) (negated : Bool) (factor : ℕ → Fraction) (ms : Multipliers) : Type 0 where
  pub places : List ℕ
  pub known : ArePlaces first factor (length rows) places
  pub numbers : ms.rows.items ≡ map (λ r. get_or rows r 0) places
  pub values : shown_multipliers ms ≡ map (λ r. signed negated (factor (first + r))) places

-- the parts: so many times each multiplier, on its row
pub record ArePartsOver (n : ℕ) (ms : Multipliers) (parts : List Part) : Type 0 where
  pub rows : map (λ q. q.row) parts ≡ ms.rows.items
  pub times : (i : ℕ) → i < length ms.rows.items → IsTimes n (get_or (shown_multipliers ms) i (whole (pos 0))) (get_or (map (λ q. q.mult) parts) i (pos 0))

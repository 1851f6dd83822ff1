-- Least common multiples of denominators, fractions over them, and where there is none that is short enough.
use Rattle.std.specs.Prelude.{◌≡◌, ◌⊎◌, ℕ, ◌<◌, ◌≤◌, ◌^◌, List, length, get_or, ℤ, pos, neg_ℤ, ◌*ℤ◌, ◌-ℤ◌, ◌<ℤ◌}
use Rattle.std.specs.Int.{◌∣◌}
use Rattle.exact_num.specs.Fraction.{Fraction}

-- the number is the denominator of one of some fractions, which stand at numbers
abbrev pub IsDenominatorOf : (ℕ → Fraction → Type 0) → ℕ → Type 0
IsDenominatorOf list d = (i : ℕ) × (x : Fraction) × list i x × (d ≡ x.den)

-- each of some numbers divides this one
abbrev pub IsCommonMultiple : (ℕ → Type 0) → ℕ → Type 0
IsCommonMultiple among m = (d : ℕ) → among d → d ∣ m

-- it is the least that is above 0: it divides each other
pub record IsLeastMultiple (among : ℕ → Type 0) (m : ℕ) : Type 0 where
  pub positive : 0 < m
  pub common : IsCommonMultiple among m
  pub least : (k : ℕ) → IsCommonMultiple among k → m ∣ k

-- one of two numbers
abbrev pub IsEither : ℕ → ℕ → ℕ → Type 0
IsEither a b d = (d ≡ a) ⊎ (d ≡ b)

-- ---- fractions over a multiple

-- the whole number is so many times the fraction
abbrev pub IsTimes : ℕ → Fraction → ℤ → Type 0
IsTimes n x z = z *ℤ pos x.den ≡ pos n *ℤ x.num

-- So many times the fraction is outside the signed numbers with so many bits beside the sign: below the least of them or above the
-- greatest.
abbrev pub IsOutside : ℕ → ℕ → Fraction → Type 0
IsOutside bits n x =
    ((pos n *ℤ x.num) <ℤ (neg_ℤ (pos (2 ^ bits)) *ℤ pos x.den))
    ⊎ (((pos (2 ^ bits) -ℤ pos 1) *ℤ pos x.den) <ℤ (pos n *ℤ x.num))

-- ---- fractions without a common denominator that is short enough

-- no common multiple of the two is below 2^64
abbrev pub HasNoShort : ℕ → ℕ → Type 0
HasNoShort a b = (m : ℕ) → IsLeastMultiple (IsEither a b) m → 2 ^ 64 ≤ m

-- The fraction is of the list, and the number divides the least common multiple of its denominators; it is that where that is below 2^64.
pub record IsCoarseIn (list : ℕ → Fraction → Type 0) (times : ℕ) (x : Fraction) : Type 0 where
  pub listed : (i : ℕ) × list i x
  pub divides : (m : ℕ) → IsLeastMultiple (IsDenominatorOf list) m → times ∣ m
  pub whole : (m : ℕ) → IsLeastMultiple (IsDenominatorOf list) m → m < 2 ^ 64 → times ≡ m

-- The number, above 0, and the fraction are too coarse: no common multiple of the number and the denominator is below 2^64, or so many times
-- the fraction leaves 64 bits.
pub record IsCoarse (times : ℕ) (x : Fraction) : Type 0 where
  pub positive : 0 < times
  pub coarse : HasNoShort times x.den ⊎ IsOutside 63 times x

-- ---- lists

-- a fraction stands at a number of a list
abbrev pub StandsIn : List Fraction → ℕ → Fraction → Type 0
StandsIn xs i x = (i < length xs) × (x ≡ get_or xs i record { num = pos 0; den = 1 })

-- the least common multiple of a list's denominators
abbrev pub IsCommonOf : List Fraction → ℕ → Type 0
IsCommonOf xs m = IsLeastMultiple (IsDenominatorOf (StandsIn xs)) m

-- the least common multiple of the first so many denominators
abbrev pub IsCommonBelow : List Fraction → ℕ → ℕ → Type 0
IsCommonBelow xs k m = IsLeastMultiple (λ d. (i : ℕ) × (i < k) × (d ≡ (get_or xs i record { num = pos 0; den = 1 }).den)) m

-- The point of a state of the run.
use Rattle.std.specs.Prelude.{◌≡◌, ℕ, ◌<◌, ◌^◌, List, length, get_or, ℤ, pos}
use Rattle.exact_num.specs.Fraction.{Fraction}
use Rattle.exact_run.specs.Operations.{whole}
use Rattle.exact_run.specs.Programs.{Program}
use Rattle.exact_run.specs.States.{State}
use Rattle.exact_run.specs.Runs.{IsValueOf}
use Rattle.relaxation_points.specs.Points.{Point}
use Rattle.common_denominators.specs.Multiples.{IsDenominatorOf, IsLeastMultiple, IsTimes, IsOutside, IsCoarseIn}

-- the values of the variables
abbrev pub IsValue : Program → State → ℕ → Fraction → Type 0
IsValue p s v x = (v < p.variables) × IsValueOf p s v x

-- The point has the variables' values over the least common multiple of their denominators.
pub record IsPointOf (p : Program) (s : State) (q : Point) : Type 0 where
  pub base : IsLeastMultiple (IsDenominatorOf (IsValue p s)) q.base
  pub values : (v : ℕ) (x : Fraction) → IsValue p s v x → IsTimes q.base x (q.value v)

-- A value is too coarse: the list of the values is, and where its multiple is below 2^64, so many times the value is outside 128 bits.
pub record IsCoarseValue (p : Program) (s : State) (times : ℕ) (x : Fraction) : Type 0 where
  pub coarse : IsCoarseIn (IsValue p s) times x
  pub outside : (m : ℕ) → IsLeastMultiple (IsDenominatorOf (IsValue p s)) m → m < 2 ^ 64 → IsOutside 127 times x

-- ---- as they are made

-- a list has the value of each variable
pub record AreValues (p : Program) (s : State) (xs : List Fraction) : Type 0 where
  pub count : length xs ≡ p.variables
  pub each : (v : ℕ) → v < p.variables → IsValueOf p s v (get_or xs v (whole (pos 0)))

-- so many times each fraction of a list
pub record AreTimes (n : ℕ) (xs : List Fraction) (zs : List ℤ) : Type 0 where
  pub count : length zs ≡ length xs
  pub each : (i : ℕ) → i < length xs → IsTimes n (get_or xs i (whole (pos 0))) (get_or zs i (pos 0))

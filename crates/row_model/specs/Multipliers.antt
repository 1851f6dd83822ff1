-- Multipliers on rows, and what they show of a box: weak duality over variables between their ends.
use Rattle.std.specs.Prelude.{◌≡◌, ◌≢◌, ℕ, ◌+◌, ◌*◌, ◌^◌, ◌<◌, ◌≤◌, max, List, length, get_or, All, ℤ, pos, ◌-ℤ◌, ◌*ℤ◌, ◌≤ℤ◌, ◌<ℤ◌, unsigned_abs, ◌==◌, if◌then◌else◌}
use Rattle.std.specs.List.{sum_by}
use Rattle.std.specs.Int.{int_min, int_div_euclid}
use Rattle.integers.specs.Sums.{int_sum_by, int_sum_below, sum_below}
use Rattle.pool_model.specs.Network.{Net}
use Rattle.pool_model.specs.Plan.{Plan, Obeys, cost_of}
use Rattle.row_model.specs.Boxes.{Box, LiesIn}
use Rattle.row_model.specs.Variables.{variables, by_number, costs, lows, highs}
use Rattle.row_model.specs.Catalogue.{Kind, at_least, equal, rows, row_at}

-- a multiplier on a row
pub record Part : Type 0 where
  pub row : ℕ
  pub mult : ℤ

-- a scale on the cost, and multipliers on rows
pub record Proof : Type 0 where
  pub scale : ℕ
  pub parts : List Part

-- ---- the number and the weight of a proof

-- a row's coefficient of a variable
abbrev pub coef : Net → Box → ℕ → ℕ → ℤ
coef n b row v = by_number n (row_at n b row).coefs v

-- what a unit of a variable costs still, when the multiplied rows are taken off the scaled cost
abbrev pub rest : Net → Box → Proof → ℕ → ℤ
rest n b proof v = pos proof.scale *ℤ by_number n (costs n) v -ℤ int_sum_by (λ q. q.mult *ℤ coef n b q.row v) proof.parts

-- The scaled cost is at least this: each variable at the end where its rest is least, and the constants.
abbrev pub number : Net → Box → Proof → ℤ
number n b proof =
    int_sum_below (λ v. int_min (rest n b proof v *ℤ by_number n (lows n b) v) (rest n b proof v *ℤ by_number n (highs n b) v)) (variables n)
    -ℤ int_sum_by (λ q. q.mult *ℤ (row_at n b q.row).constant) proof.parts

-- the sizes of the multiplied constants
abbrev pub constant_weight : Net → Box → Proof → ℕ
constant_weight n b proof = sum_by (λ q. unsigned_abs q.mult * unsigned_abs (row_at n b q.row).constant) proof.parts

-- the sizes of what is added up for a variable's rest
abbrev pub rest_weight : Net → Box → Proof → ℕ → ℕ
rest_weight n b proof v = proof.scale * unsigned_abs (by_number n (costs n) v) + sum_by (λ q. unsigned_abs q.mult * unsigned_abs (coef n b q.row v)) proof.parts

-- No partial sum of the number is larger: the sizes of all that is added up.
abbrev pub weight : Net → Box → Proof → ℕ
weight n b proof =
    constant_weight n b proof
    + sum_below (λ v. rest_weight n b proof v * max (unsigned_abs (by_number n (lows n b) v)) (unsigned_abs (by_number n (highs n b) v))) (variables n)

-- ---- proofs in order

-- row numbers rise strictly
abbrev pub IsRising : List Part → Type 0
IsRising parts = (i j : ℕ) → i < j → j < length parts → (get_or parts i record { row = 0; mult = pos 0 }).row < (get_or parts j record { row = 0; mult = pos 0 }).row

-- a multiplier on a row that is at least 0 is not below 0
abbrev pub IsSigned : Kind → ℤ → Type 0
IsSigned at_least m = pos 0 ≤ℤ m
IsSigned equal m = Unit {0}

-- A proof is in order in a box: its rows rise and are rows, its multipliers have the signs of their rows and are not 0, it
-- is not too wide, and with scale 0 its number is above 0.
pub record IsInOrder (n : Net) (b : Box) (proof : Proof) : Type 0 where
  pub rising : IsRising proof.parts
  pub known : All (λ q. q.row < rows n) proof.parts
  pub signed : All (λ q. IsSigned (row_at n b q.row).kind q.mult) proof.parts
  pub nonzero : All (λ q. q.mult ≢ pos 0) proof.parts
  pub narrow : weight n b proof ≤ 2 ^ 126
  pub shows : proof.scale ≡ 0 → pos 0 <ℤ number n b proof

-- ---- what a proof shows

-- no plan in the box costs less than so many picos; or the box holds no plan
pub data Shown : Type 0 where
  bound : ℤ → Shown
  no_plan : Shown

-- with a scale the number over it, rounded down; with scale 0 that there is no plan
abbrev pub shown_by : Net → Box → Proof → Shown
shown_by n b proof = if proof.scale == 0 then no_plan else bound (int_div_euclid (number n b proof) (pos proof.scale))

-- that it is so, for plans over any denominator
abbrev pub HoldsIn : Net → Box → Shown → Type 0
HoldsIn n b (bound z) = (p : Plan) → Obeys n p → LiesIn n p b → (z *ℤ pos p.base) ≤ℤ cost_of n p
HoldsIn n b no_plan = (p : Plan) → Obeys n p → ¬ LiesIn n p b

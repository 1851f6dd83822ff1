-- Points of the relaxation of a box: values of all variables over a base, and when they meet the rows of a form there.
use Rattle.std.specs.Prelude.{ℕ, ◌+◌, ◌*◌, ◌^◌, ◌<◌, ◌≤◌, IsTrue, All, ℤ, pos, ◌+ℤ◌, ◌*ℤ◌, ◌≤ℤ◌, ◌<ℤ◌, unsigned_abs}
use Rattle.integers.specs.Sums.{int_sum_below, sum_below}
use Rattle.pool_model.specs.Network.{Net}
use Rattle.row_model.specs.Boxes.{Box}
use Rattle.row_model.specs.Variables.{variables, by_number, costs, lows, highs}
use Rattle.row_model.specs.Catalogue.{rows}
use Rattle.row_model.specs.Lift.{IsMet}
use Rattle.row_model.specs.Multipliers.{Proof}
use Rattle.box_space.specs.declared.coordinates.Form.{Form}
use Rattle.row_book.specs.Groups.{takes, group_of}
use Rattle.row_book.specs.PartRows.{kind_at, coef_at, constant_at}

-- a value for each variable, by its number, over a base
pub record Point : Type 0 where
  pub base : ℕ
  pub value : ℕ → ℤ

-- ---- the rows of a form

-- the number is that of a row of the form
abbrev pub IsRowOf : Net → Form → ℕ → Type 0
IsRowOf n form id = (id < rows n) × IsTrue (takes form (group_of n id))

-- each multiplier of the proof is on a row of the form
abbrev pub NamesRowsOf : Net → Form → Proof → Type 0
NamesRowsOf n form proof = All (λ q. IsRowOf n form q.row) proof.parts

-- ---- values at a point

-- a row's value at the point, times the base
abbrev pub row_value : Net → Box → Point → ℕ → ℤ
row_value n b p id = int_sum_below (λ v. coef_at n b id v *ℤ p.value v) (variables n) +ℤ constant_at n b id *ℤ pos p.base

-- the sizes of all that is added up for it
abbrev pub row_weight : Net → Box → Point → ℕ → ℕ
row_weight n b p id = sum_below (λ v. unsigned_abs (coef_at n b id v) * unsigned_abs (p.value v)) (variables n) + unsigned_abs (constant_at n b id) * p.base

-- the point's cost in picos, times the base
abbrev pub cost_value : Net → Point → ℤ
cost_value n p = int_sum_below (λ v. by_number n (costs n) v *ℤ p.value v) (variables n)

-- the sizes of all that is added up for it
abbrev pub cost_weight : Net → Point → ℕ
cost_weight n p = sum_below (λ v. unsigned_abs (by_number n (costs n) v) * unsigned_abs (p.value v)) (variables n)

-- ---- what is said of a point

-- a value, over the base, lies between its variable's ends in the box
pub record LiesBetween (n : Net) (b : Box) (p : Point) (v : ℕ) : Type 0 where
  pub low : (by_number n (lows n b) v *ℤ pos p.base) ≤ℤ p.value v
  pub high : p.value v ≤ℤ (by_number n (highs n b) v *ℤ pos p.base)

-- The point meets the box and the form: each value lies between its ends, and each row of the form holds.
pub record Meets (n : Net) (form : Form) (b : Box) (p : Point) : Type 0 where
  pub base : 0 < p.base
  pub ends : (v : ℕ) → v < variables n → LiesBetween n b p v
  pub rows : (id : ℕ) → IsRowOf n form id → IsMet (kind_at n b id) (row_value n b p id)

-- The point is light: its cost and each row of the form can be added up within 2^126.
pub record IsLight (n : Net) (form : Form) (b : Box) (p : Point) : Type 0 where
  pub cost : cost_weight n p ≤ 2 ^ 126
  pub rows : (id : ℕ) → IsRowOf n form id → row_weight n b p id ≤ 2 ^ 126

-- the point costs less than one pico above the bound
abbrev pub IsNear : Net → ℤ → Point → Type 0
IsNear n bound p = cost_value n p <ℤ ((bound +ℤ pos 1) *ℤ pos p.base)

-- The point shows that no multipliers on the form's rows show more of the box than the bound.
pub record IsWitness (n : Net) (form : Form) (b : Box) (bound : ℤ) (p : Point) : Type 0 where
  pub light : IsLight n form b p
  pub meets : Meets n form b p
  pub near : IsNear n bound p

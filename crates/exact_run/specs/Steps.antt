-- A step of the exact run: which column leaves the basis and which one enters it, and what the state is then.
use Rattle.std.specs.Prelude.{◌≡◌, ◌≢◌, ℕ, ◌*◌, ◌<◌, ◌≤◌, Some, ℤ, pos, ◌*ℤ◌, ◌≤ℤ◌, ◌<ℤ◌, unsigned_abs}
use Rattle.exact_num.specs.Fraction.{Fraction, sum_of, negative_of, difference_of, product_of, quotient_of}
use Rattle.exact_run.specs.Operations.{whole, IsReduced}
use Rattle.exact_run.specs.Programs.{Program, low_end, high_end, end_value}
use Rattle.exact_run.specs.States.{State, IsFree}
use Rattle.exact_run.specs.declared.ends.End.{End}
use Rattle.exact_run.specs.declared.ends.End.TheVariants.{Low, High}

-- the order of fractions whose denominators are above 0
abbrev pub IsBelow : Fraction → Fraction → Type 0
IsBelow x y = (x.num *ℤ pos y.den) <ℤ (y.num *ℤ pos x.den)

abbrev pub IsAtMost : Fraction → Fraction → Type 0
IsAtMost x y = (x.num *ℤ pos y.den) ≤ℤ (y.num *ℤ pos x.den)

-- ---- which column leaves

-- the value of a place's column is past its end on this side, which is this number
abbrev pub IsPast : Program → State → ℕ → End → ℤ → Type 0
IsPast p s r Low e = (low_end p (s.basic r) ≡ e) × IsBelow (s.value r) (whole e)
IsPast p s r High e = (high_end p (s.basic r) ≡ Some e) × IsBelow (whole e) (s.value r)

-- The column of the place leaves: it is past its end, and of all that are it has the least number.
pub record Leaves (p : Program) (s : State) (r : ℕ) (side : End) (e : ℤ) : Type 0 where
  pub place : r < p.rows
  pub past : IsPast p s r side e
  pub first : (q : ℕ) (other : End) (z : ℤ) → q < p.rows → IsPast p s q other z → s.basic r ≤ s.basic q

-- ---- which column enters

-- Where the column that leaves is past this end, and another stands at the second one, a factor of this sign brings the first back as the
-- second moves off its end.
abbrev pub BringsBack : End → End → ℤ → Type 0
BringsBack Low Low z = pos 0 <ℤ z
BringsBack Low High z = z <ℤ pos 0
BringsBack High Low z = z <ℤ pos 0
BringsBack High High z = pos 0 <ℤ z

-- a column that may enter: it is not basic, it can move, and as it moves it brings the place's value back
pub record IsCandidate (p : Program) (s : State) (r : ℕ) (side : End) (j : ℕ) : Type 0 where
  pub free : IsFree p s j
  pub moves : high_end p j ≢ Some (low_end p j)
  pub back : BringsBack side (s.stands j) (s.factor r j).num

-- the size of the cost's factor over that of the place's factor
abbrev pub ratio : State → ℕ → ℕ → Fraction
ratio s r j = record { num = pos (unsigned_abs (s.cost j).num * (s.factor r j).den); den = (s.cost j).den * unsigned_abs (s.factor r j).num }

-- The column enters: of all candidates its ratio is least, and it is the first of those.
pub record Enters (p : Program) (s : State) (r : ℕ) (side : End) (k : ℕ) : Type 0 where
  pub candidate : IsCandidate p s r side k
  pub least : (j : ℕ) → IsCandidate p s r side j → IsAtMost (ratio s r k) (ratio s r j)
  pub first : (j : ℕ) → IsCandidate p s r side j → j < k → IsBelow (ratio s r k) (ratio s r j)

-- ---- the step

-- What a step goes by: the place, the end that its column is past, the column that enters, how far that moves, and its factors then.
pub record Pivot : Type 0 where
  pub place : ℕ
  pub side : End
  pub end : ℤ
  pub entering : ℕ
  pub moved : Fraction
  pub own : ℕ → Fraction

-- the column that leaves
abbrev pub leaving : State → Pivot → ℕ
leaving s v = s.basic v.place

-- a column that is not basic before the step, and not after it
pub record StaysFree (p : Program) (s : State) (v : Pivot) (j : ℕ) : Type 0 where
  pub free : IsFree p s j
  pub stays : j ≢ v.entering

-- the pivot of a state
pub record IsPivot (p : Program) (s : State) (v : Pivot) : Type 0 where
  pub leaves : Leaves p s v.place v.side v.end
  pub enters : Enters p s v.place v.side v.entering
  pub moved : IsReduced (quotient_of (difference_of (whole v.end) (s.value v.place)) (s.factor v.place v.entering)) v.moved
  pub own_leaving : IsReduced (quotient_of (whole (pos 1)) (s.factor v.place v.entering)) (v.own (leaving s v))
  pub own : (j : ℕ) → StaysFree p s v j → IsReduced (quotient_of (negative_of (s.factor v.place j)) (s.factor v.place v.entering)) (v.own j)

-- Factors after a step, of a basic column that stays, or of the cost: the pivot's times that on the column that enters, added to what there
-- was.
pub record AreChanged (p : Program) (s : State) (v : Pivot) (before after : ℕ → Fraction) : Type 0 where
  pub leaving : IsReduced (product_of (before v.entering) (v.own (leaving s v))) (after (leaving s v))
  pub others : (j : ℕ) → StaysFree p s v j → IsReduced (sum_of (before j) (product_of (before v.entering) (v.own j))) (after j)

-- the state after the step of a pivot
pub record IsStep (p : Program) (s : State) (v : Pivot) (after : State) : Type 0 where
  pub basic : after.basic v.place ≡ v.entering
  pub basic_others : (q : ℕ) → q < p.rows → q ≢ v.place → after.basic q ≡ s.basic q
  pub stands : after.stands (leaving s v) ≡ v.side
  pub stands_others : (j : ℕ) → StaysFree p s v j → after.stands j ≡ s.stands j
  pub value : IsReduced (sum_of (whole (end_value p v.entering (s.stands v.entering))) v.moved) (after.value v.place)
  pub value_others : (q : ℕ) → q < p.rows → q ≢ v.place → IsReduced (sum_of (s.value q) (product_of (s.factor q v.entering) v.moved)) (after.value q)
  pub factor_leaving : after.factor v.place (leaving s v) ≡ v.own (leaving s v)
  pub factor : (j : ℕ) → StaysFree p s v j → after.factor v.place j ≡ v.own j
  pub factor_others : (q : ℕ) → q < p.rows → q ≢ v.place → AreChanged p s v (s.factor q) (after.factor q)
  pub cost : AreChanged p s v s.cost after.cost

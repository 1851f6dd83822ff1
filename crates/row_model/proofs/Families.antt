-- Rows in lists of families.
use Rattle.std.proofs.Common.{◌≡◌, ℕ, ◌+◌, ◌-◌, ◌<◌, ◌≤◌, nat_lt, Bool, true, false, if◌then◌else◌, List, [], ◌∷◌, ◌++◌, refl, arith, sym, ap, ◌∙◌, zero-add}
use Rattle.std.proofs.lemmas.Bool.Decides.{nat_tests}
use Rattle.row_model.specs.Catalogue.{Family, HoldsOfEach, Row, row_count, row_in}

pub test_true : (i m : ℕ) → i < m → nat_lt i m ≡ true
test_true i m h = grind (arith, nat_tests)

pub test_false : (i m : ℕ) → m ≤ i → nat_lt i m ≡ false
test_false i m h = grind (arith, nat_tests)

pub below_test : (i m : ℕ) → nat_lt i m ≡ true → i < m
below_test i m h = grind (arith, nat_tests)

pub past_test : (i m : ℕ) → nat_lt i m ≡ false → m ≤ i
past_test i m h = grind (arith, nat_tests)

pub row_count-append : (fs gs : List Family) → row_count (fs ++ gs) ≡ row_count fs + row_count gs
row_count-append [] gs = sym (zero-add (row_count gs))
row_count-append (f ∷ fs) gs = omega (arith, row_count-append fs gs)

-- a row among the first families
pub row_in-front : (fs gs : List Family) (i : ℕ) → i < row_count fs → row_in (fs ++ gs) i ≡ row_in fs i
row_in-front [] gs i h = absurd (omega arith)
row_in-front (f ∷ fs) gs i h = cases (λ past. row_in-front fs gs (i - f.count) (omega arith)) (nat_lt i f.count) refl
  where
    cases : (f.count ≤ i → row_in (fs ++ gs) (i - f.count) ≡ row_in fs (i - f.count)) → (test : Bool) → nat_lt i f.count ≡ test
        → (if test then f.row i else row_in (fs ++ gs) (i - f.count)) ≡ (if test then f.row i else row_in fs (i - f.count))
    cases rest true e = refl
    cases rest false e = rest (past_test i f.count e)

-- a row behind them
pub row_in-behind : (fs gs : List Family) (i : ℕ) → row_count fs ≤ i → row_in (fs ++ gs) i ≡ row_in gs (i - row_count fs)
row_in-behind [] gs i h = ap (row_in gs) none
  where
    none : i ≡ i - 0
    none = omega arith
row_in-behind (f ∷ fs) gs i h =
    ap (λ (test : Bool). if test then f.row i else row_in (fs ++ gs) (i - f.count)) (test_false i f.count (omega arith))
    ∙ row_in-behind fs gs (i - f.count) (omega arith) ∙ ap (row_in gs) place
  where
    place : i - f.count - row_count fs ≡ i - (f.count + row_count fs)
    place = omega arith

-- ---- what holds of each row of each family

pub each_row : (P : Row → Type 0) (fs : List Family) → HoldsOfEach P fs → (i : ℕ) → i < row_count fs → P (row_in fs i)
each_row P [] h i lt = absurd (omega arith)
each_row P (f ∷ fs) h i lt = cases (λ past. each_row P fs h.1 (i - f.count) (omega arith)) (nat_lt i f.count) refl
  where
    cases : (f.count ≤ i → P (row_in fs (i - f.count))) → (test : Bool) → nat_lt i f.count ≡ test → P (if test then f.row i else row_in fs (i - f.count))
    cases rest true e = h.0 i (below_test i f.count e)
    cases rest false e = rest (past_test i f.count e)

pub each-append : (P : Row → Type 0) (fs gs : List Family) → HoldsOfEach P fs → HoldsOfEach P gs → HoldsOfEach P (fs ++ gs)
each-append P [] gs h k = k
each-append P (f ∷ fs) gs h k = (h.0, each-append P fs gs h.1 k)

pub each-front : (P : Row → Type 0) (fs gs : List Family) → HoldsOfEach P (fs ++ gs) → HoldsOfEach P fs
each-front P [] gs h = tt
each-front P (f ∷ fs) gs h = (h.0, each-front P fs gs h.1)

pub each-behind : (P : Row → Type 0) (fs gs : List Family) → HoldsOfEach P (fs ++ gs) → HoldsOfEach P gs
each-behind P [] gs h = h
each-behind P (f ∷ fs) gs h = each-behind P fs gs h.1

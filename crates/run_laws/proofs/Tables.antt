-- A state over one number: whole numbers in place of its fractions, and what the program's rows say of them.
use Rattle.std.proofs.Common.{◌≡◌, ◌≢◌, ◌∙◌, sym, ap, subst, ℕ, ◌+◌, ◌-◌, ◌<◌, ◌≤◌, ◌⊎◌, inl, inr, ℤ, pos, negsuc, neg_ℤ, ◌+ℤ◌, ◌*ℤ◌, ◌≤ℤ◌, ◌<ℤ◌, Option, Some, None, unwrap_or, if◌then◌else◌, arith, refl}
use Rattle.std.proofs.Math.IntN.{zero-*ℤ}
use Rattle.std.proofs.lemmas.Int.{ints}
use Rattle.integers.specs.Sums.{piece}
use Rattle.integers.proofs.Ring.{additive, linear, mul_comm_ℤ}
use Rattle.integers.proofs.ByIndex.{piece-first, piece-rest}
use Rattle.integers.proofs.ByNode.{int_sum_below-nothing}
use Rattle.integers.proofs.AtKey.{chosen, passed}
use Rattle.exact_num.specs.Fraction.{Fraction}
use Rattle.exact_run.specs.Operations.{whole}
use Rattle.exact_run.specs.Programs.{Program, columns, row_column, high_end, end_value}
use Rattle.exact_run.specs.States.{State, IsFree, IsStart}
use Rattle.exact_run.specs.declared.ends.End.TheVariants.{High}
use Rattle.run_laws.specs.Points.{IsTimes}
use Rattle.run_laws.proofs.Times.{times_one}
use Rattle.run_laws.proofs.Sums.{dot, dot-piece, dot-same_right, at_one, dot-at_one_left}

-- a number that all is over, a line of factors for each place, the cost's factors, and the values of all columns
pub record Table : Type 0 where
  pub scale : ℤ
  pub line : ℕ → ℕ → ℤ
  pub cost : ℕ → ℤ
  pub point : ℕ → ℤ

-- values of all columns that are as the rows' coefficients say, without the constants
abbrev pub IsDirection : Program → (ℕ → ℤ) → Type 0
IsDirection p x = (r : ℕ) → r < p.rows → x (row_column p r) ≡ dot p.variables (p.coef r) x

-- What the program's rows say of a table: its lines are 0 on each direction, and together on no other values; the cost's factors give the
-- cost of each direction; and its point is one of the rows.
pub record IsTableOf (p : Program) (t : Table) : Type 0 where
  pub lines : (x : ℕ → ℤ) → IsDirection p x → (q : ℕ) → q < p.rows → dot (columns p) (t.line q) x ≡ pos 0
  pub only : (x : ℕ → ℤ) → ((q : ℕ) → q < p.rows → dot (columns p) (t.line q) x ≡ pos 0) → IsDirection p x
  pub cost : (x : ℕ → ℤ) → IsDirection p x → dot (columns p) t.cost x ≡ t.scale *ℤ dot p.variables p.cost x
  pub point : (r : ℕ) → r < p.rows → t.point (row_column p r) ≡ dot p.variables (p.coef r) t.point +ℤ p.constant r *ℤ t.scale

-- Basic columns are columns, each of one place; what has a meaning has a denominator above 0; and what stands at a high end has one.
pub record IsSound (p : Program) (s : State) : Type 0 where
  pub columns : (r : ℕ) → r < p.rows → s.basic r < columns p
  pub apart : (r q : ℕ) → r < p.rows → q < p.rows → s.basic r ≡ s.basic q → r ≡ q
  pub value : (r : ℕ) → r < p.rows → 0 < (s.value r).den
  pub factor : (r j : ℕ) → r < p.rows → IsFree p s j → 0 < (s.factor r j).den
  pub cost : (j : ℕ) → IsFree p s j → 0 < (s.cost j).den
  pub ends : (j : ℕ) → IsFree p s j → s.stands j ≡ High → high_end p j ≡ Some (end_value p j High)

-- The table has the state's fractions over its number. A line has minus that number on its own column and 0 on the other basic ones.
pub record IsShown (p : Program) (s : State) (t : Table) : Type 0 where
  pub positive : pos 0 <ℤ t.scale
  pub own : (r : ℕ) → r < p.rows → t.line r (s.basic r) ≡ neg_ℤ t.scale
  pub basic : (r q : ℕ) → r < p.rows → q < p.rows → r ≢ q → t.line r (s.basic q) ≡ pos 0
  pub factor : (r j : ℕ) → r < p.rows → IsFree p s j → IsTimes t.scale (s.factor r j) (t.line r j)
  pub cost_basic : (r : ℕ) → r < p.rows → t.cost (s.basic r) ≡ pos 0
  pub cost : (j : ℕ) → IsFree p s j → IsTimes t.scale (s.cost j) (t.cost j)
  pub value : (r : ℕ) → r < p.rows → IsTimes t.scale (s.value r) (t.point (s.basic r))
  pub stands : (j : ℕ) → IsFree p s j → t.point j ≡ end_value p j (s.stands j) *ℤ t.scale

pub times_as : (d e : ℤ) (x : Fraction) (m n : ℤ) → d ≡ e → m ≡ n → IsTimes d x m → IsTimes e x n
times_as d e x m n h k w = subst (λ (z : ℤ). IsTimes z x n) h (subst (λ (z : ℤ). IsTimes d x z) k w)

-- ---- the start

pub below_or_over : (j n : ℕ) → (j < n) ⊎ (n ≤ j)
below_or_over j n = grind arith

pub sign_or : (z : ℤ) → (pos 0 ≤ℤ z) ⊎ (z <ℤ pos 0)
sign_or z = grind (arith, ints)

minus_one : (z : ℤ) → negsuc 0 *ℤ z ≡ neg_ℤ z
minus_one z = omega (arith, linear)

module _ (p : Program) (s : State) (h : IsStart p s) where
  -- at the start the variables alone are free
  pub start-free : (j : ℕ) → IsFree p s j → j < p.variables
  start-free j f = elim (below_or_over j p.variables) [
    | inl lt ↦ lt
    | inr le ↦ let within : j - p.variables < p.rows = omega (arith, f.among) in
        absurd (f.free (j - p.variables) within (h.basic (j - p.variables) within ∙ omega arith))
  ]

  abbrev ends : ℕ → ℤ
  ends v = end_value p v (s.stands v)

  abbrev pub start_table : Table
  start_table = record {
    scale = pos 1;
    line = λ r. piece p.variables (p.coef r) (at_one r (negsuc 0));
    cost = piece p.variables p.cost (λ r. pos 0);
    point = piece p.variables ends (λ r. dot p.variables (p.coef r) ends +ℤ p.constant r);
  }

  start_line : (x : ℕ → ℤ) (q : ℕ) → q < p.rows → dot (columns p) (start_table.line q) x ≡ dot p.variables (p.coef q) x +ℤ neg_ℤ (x (row_column p q))
  start_line x q lt =
      dot-piece p.variables p.rows (p.coef q) (at_one q (negsuc 0)) x
      ∙ ap (λ (z : ℤ). dot p.variables (p.coef q) x +ℤ z)
      (dot-at_one_left p.rows (λ i. x (p.variables + i)) q (negsuc 0) lt ∙ minus_one (x (p.variables + q)))

  start_cost : (x : ℕ → ℤ) → dot (columns p) start_table.cost x ≡ dot p.variables p.cost x
  start_cost x =
      dot-piece p.variables p.rows p.cost (λ r. pos 0) x
      ∙ omega (arith, additive, int_sum_below-nothing (λ i. pos 0 *ℤ x (p.variables + i)) p.rows (λ i lt. zero-*ℤ (x (p.variables + i))))

  start_point : (r : ℕ) → r < p.rows → start_table.point (row_column p r) ≡ dot p.variables (p.coef r) start_table.point +ℤ p.constant r *ℤ pos 1
  start_point r lt =
      let point : ℕ → ℤ = start_table.point in
      piece-rest p.variables ends (λ r. dot p.variables (p.coef r) ends +ℤ p.constant r) r
      ∙ omega (
        arith,
        linear,
        dot-same_right p.variables (p.coef r) point ends (λ v within. piece-first p.variables ends (λ r. dot p.variables (p.coef r) ends +ℤ p.constant r) v within),
      )

  pub start-of : IsTableOf p start_table
  start-of = record {
    lines = λ x direction q lt. start_line x q lt ∙ omega (arith, additive, direction q lt);
    only = λ x none r lt. let here = sym (start_line x r lt) ∙ none r lt in omega (arith, additive, here);
    cost = λ x direction. start_cost x ∙ omega (arith, linear);
    point = start_point;
  }

  whole-positive : (x : Fraction) (z : ℤ) → x ≡ whole z → 0 < x.den
  whole-positive x z e = omega (arith, ap (λ (w : Fraction). w.den) e)

  pub start-sound : IsSound p s
  start-sound = record {
    columns = λ r lt. let e = h.basic r lt in omega (arith, e);
    apart = λ r q lr lq e. let er = h.basic r lr in let eq = h.basic q lq in omega (arith, er, eq, e);
    value = λ r lt. whole-positive (s.value r) _ (h.value r lt);
    factor = λ r j lt f. whole-positive (s.factor r j) (p.coef r j) (h.factor r j lt (start-free j f));
    cost = λ j f. whole-positive (s.cost j) (p.cost j) (h.cost j (start-free j f));
    ends = λ j f high.
        let there : high_end p j ≡ Some (p.high j) = piece-first p.variables (λ v. Some (p.high v)) (λ r. if p.equal r then Some (pos 0) else None) j (start-free j f) in
        there ∙ ap (λ (o : Option ℤ). Some (unwrap_or o (pos 0))) (sym there);
  }

  itself : (x : Fraction) (z n : ℤ) → x ≡ whole z → n ≡ z → IsTimes (pos 1) x n
  itself x z n e g = subst (λ (w : Fraction). IsTimes (pos 1) w n) (sym e) (subst (λ (m : ℤ). IsTimes (pos 1) (whole z) m) (sym g) (mul_comm_ℤ z (pos 1)))

  pub start-shown : IsShown p s start_table
  start-shown = record {
    positive = omega (arith, additive);
    own = λ r lt.
        ap (start_table.line r) (h.basic r lt) ∙ piece-rest p.variables (p.coef r) (at_one r (negsuc 0)) r ∙ chosen r r (negsuc 0) (pos 0) refl;
    basic = λ r q lr lq ne.
        ap (start_table.line r) (h.basic q lq) ∙ piece-rest p.variables (p.coef r) (at_one r (negsuc 0)) q ∙ passed q r (negsuc 0) (pos 0) (λ e. ne (sym e));
    factor = λ r j lt f.
        let below = start-free j f in
        itself (s.factor r j) (p.coef r j) (start_table.line r j) (h.factor r j lt below) (piece-first p.variables (p.coef r) (at_one r (negsuc 0)) j below);
    cost_basic = λ r lt. ap start_table.cost (h.basic r lt) ∙ piece-rest p.variables p.cost (λ r. pos 0) r;
    cost = λ j f. let below = start-free j f in
        itself (s.cost j) (p.cost j) (start_table.cost j) (h.cost j below) (piece-first p.variables p.cost (λ r. pos 0) j below);
    value = λ r lt.
        let there : start_table.point (s.basic r) ≡ dot p.variables (p.coef r) ends +ℤ p.constant r =
        ap start_table.point (h.basic r lt) ∙ piece-rest p.variables ends (λ r. dot p.variables (p.coef r) ends +ℤ p.constant r) r in
        itself (s.value r) (dot p.variables (p.coef r) ends +ℤ p.constant r) (start_table.point (s.basic r)) (h.value r lt) there;
    stands = λ j f.
        piece-first p.variables ends (λ r. dot p.variables (p.coef r) ends +ℤ p.constant r) j (start-free j f) ∙ sym (times_one (end_value p j (s.stands j)));
  }

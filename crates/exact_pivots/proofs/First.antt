-- The parts of the state at the start make it, and it is tidy.
use Rattle.std.proofs.Common.{◌≡◌, ◌∙◌, sym, ap, ℕ, ◌+◌, ◌<◌, ◌≤◌, ◌⊎◌, inl, inr, List, arith}
use Rattle.integers.proofs.AtKey.{same_or_other}
use Rattle.exact_num.specs.Fraction.{Fraction}
use Rattle.exact_run.specs.Programs.{Program, row_column}
use Rattle.exact_run.specs.States.{IsFree, IsStart}
use Rattle.exact_run.specs.declared.ends.End.{End}
use Rattle.exact_pivots.specs.Views.{line_at, stands_at, state_with}
use Rattle.exact_pivots.specs.Fits.{IsTidy}
use Rattle.exact_pivots.specs.Starts.{AreFirstStands, AreFirstCosts, AreFirstLines}
use Rattle.exact_pivots.specs.declared.tableau.Line.{Line}

below_or_not : (j n : ℕ) → (j < n) ⊎ (n ≤ j)
below_or_not j n = grind arith

module _ (p : Program) (ls : List Line) (es : List End) (cost : ℕ → Fraction) (lines : AreFirstLines p (stands_at es) ls) (stands : AreFirstStands p es) (costs : AreFirstCosts p cost) where
  pub start_is : IsStart p (state_with (line_at ls) (stands_at es) cost)
  start_is = record {
    basic = λ r lt. (lines.lines r lt).basic;
    factor = λ r v lt below. (lines.lines r lt).variables v below;
    cost = costs.variables;
    low = stands.low;
    high = stands.high;
    value = λ r lt. (lines.lines r lt).value;
  }

  free_variable : (j : ℕ) → j < p.variables → IsFree p (state_with (line_at ls) (stands_at es) cost) j
  free_variable j below = record {
    among = omega arith;
    free = λ r lt e. apart_from (line_at ls r).basic j p.variables r (lines.lines r lt).basic e below;
  }
    where
      apart_from : (b j n r : ℕ) → b ≡ n + r → b ≡ j → j < n → ⊥
      apart_from b j n r h k lt = omega arith

  pub start_tidy : IsTidy p (state_with (line_at ls) (stands_at es) cost)
  start_tidy = record {
    columns = λ r lt. low_enough (line_at ls r).basic p.variables p.rows r (lines.lines r lt).basic lt;
    apart = λ r q lt below ne e. ne (same_row p.variables r q (line_at ls r).basic (line_at ls q).basic (lines.lines r lt).basic (lines.lines q below).basic e);
    own = λ r lt. ap (line_at ls r).factor (lines.lines r lt).basic ∙ (lines.lines r lt).own;
    lines = λ r j lt there. elim (below_or_not j p.variables) [
      | inl below ↦ inl (free_variable j below)
      | inr le ↦ elim (same_or_other j (row_column p r)) [
        | inl e ↦ inr (e ∙ sym (lines.lines r lt).basic)
        | inr ne ↦ absurd (there (ap (λ (x : Fraction). x.num) ((lines.lines r lt).others j le ne)))
      ]
    ];
    cost = λ j there. elim (below_or_not j p.variables) [
      | inl below ↦ free_variable j below
      | inr le ↦ absurd (there (ap (λ (x : Fraction). x.num) (costs.others j le)))
    ];
  }
    where
      low_enough : (b n m r : ℕ) → b ≡ n + r → r < m → b < n + m
      low_enough b n m r h lt = omega arith

      same_row : (n r q a b : ℕ) → a ≡ n + r → b ≡ n + q → a ≡ b → r ≡ q
      same_row n r q a b h k e = omega arith

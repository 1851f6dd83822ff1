-- What is so of each state that the run reaches.
use Rattle.std.proofs.Common.{◌≡◌, ◌≢◌, ℕ, zero, suc, ◌<◌, ◌⊎◌, inl, inr, ℤ, pos, ◌≤ℤ◌, Some, subst, sym, arith}
use Rattle.integers.proofs.Ring.{additive}
use Rattle.integers.proofs.AtKey.{same_or_other}
use Rattle.exact_run.specs.Programs.{Program, columns, low_end, high_end}
use Rattle.exact_run.specs.States.{State, IsFree}
use Rattle.exact_run.specs.Runs.{Reaches}
use Rattle.exact_run.specs.declared.ends.End.{End}
use Rattle.exact_run.specs.declared.ends.End.TheVariants.{Low, High}
use Rattle.run_laws.proofs.Tables.{Table, IsTableOf, IsSound, IsShown, start_table, start-of, start-sound, start-shown}
use Rattle.run_laws.proofs.Pivots.{next, next-of}
use Rattle.run_laws.proofs.Steps.{turn_of, step-sound, step-shown}
use Rattle.run_laws.proofs.Signs.{toward, IsDual, start-dual, step-dual}

-- the state is sound, a table that the program's rows allow stands for it, and the cost's factors have their signs
pub record IsKept (p : Program) (s : State) : Type 0 where
  pub sound : IsSound p s
  pub table : Table
  pub shown : IsShown p s table
  pub of : IsTableOf p table
  pub dual : IsDual p s

pub reached : (p : Program) (steps : ℕ) (s : State) → Reaches p steps s → IsKept p s
reached p zero s h = record { sound = start-sound p s h; table = start_table p s h; shown = start-shown p s h; of = start-of p s h; dual = start-dual p s h }
reached p (suc steps) s h =
    let before : IsKept p h.0 = reached p steps h.0 h.2 in
    let t : Table = before.table in record {
      sound = step-sound p h.0 h.1 s t before.sound before.shown h.3 h.4;
      table = next p h.0 h.1 t;
      shown = step-shown p h.0 h.1 s t before.sound before.shown h.3 h.4;
      of = next-of p h.0 h.1 t (turn_of p h.0 h.1 t before.sound before.shown h.3) before.of;
      dual = step-dual p h.0 h.1 s t before.sound before.shown before.dual h.3 h.4;
    }

-- ---- columns

found_or_not : (basic : ℕ → ℕ) (j n : ℕ) → ((r : ℕ) → r < n → basic r ≢ j) ⊎ ((r : ℕ) × (r < n) × (basic r ≡ j))
found_or_not basic j zero = inl (λ r lt. absurd (omega arith))
found_or_not basic j (suc n) = elim (found_or_not basic j n) [
  | inl none ↦ elim (same_or_other (basic n) j) [
    | inl e ↦ inr (n, omega arith, e)
    | inr ne ↦ inl (λ r lt. elim (last r n lt) [
      | inl before ↦ none r before
      | inr at ↦ subst (λ (i : ℕ). basic i ≢ j) (sym at) ne
    ])
  ]
  | inr h ↦ inr (h.0, omega (arith, h.1), h.2)
]
  where
    last : (r n : ℕ) → r < suc n → (r < n) ⊎ (r ≡ n)
    last r n lt = grind arith

-- a column is free, or it is basic at a place
pub placed : (p : Program) (s : State) (j : ℕ) → j < columns p → IsFree p s j ⊎ ((r : ℕ) × (r < p.rows) × (s.basic r ≡ j))
placed p s j lt = elim (found_or_not s.basic j p.rows) [
  | inl none ↦ inl record { among = lt; free = none }
  | inr h ↦ inr h
]

-- ---- the first law

pub basis-columns : (p : Program) (steps : ℕ) (s : State) (r : ℕ) → Reaches p steps s → r < p.rows → s.basic r < columns p
basis-columns p steps s r h lt = (reached p steps s h).sound.columns r lt

pub basis-apart : (p : Program) (steps : ℕ) (s : State) (r q : ℕ) → Reaches p steps s → r < p.rows → q < p.rows → s.basic r ≡ s.basic q → r ≡ q
basis-apart p steps s r q h lr lq e = (reached p steps s h).sound.apart r q lr lq e

pub basis-value : (p : Program) (steps : ℕ) (s : State) (r : ℕ) → Reaches p steps s → r < p.rows → 0 < (s.value r).den
basis-value p steps s r h lt = (reached p steps s h).sound.value r lt

pub basis-factor : (p : Program) (steps : ℕ) (s : State) (r j : ℕ) → Reaches p steps s → r < p.rows → IsFree p s j → 0 < (s.factor r j).den
basis-factor p steps s r j h lt f = (reached p steps s h).sound.factor r j lt f

pub basis-cost : (p : Program) (steps : ℕ) (s : State) (j : ℕ) → Reaches p steps s → IsFree p s j → 0 < (s.cost j).den
basis-cost p steps s j h f = (reached p steps s h).sound.cost j f

-- ---- the law of signs

pub signs-low : (p : Program) (steps : ℕ) (s : State) (j : ℕ) → Reaches p steps s → IsFree p s j → high_end p j ≢ Some (low_end p j) → s.stands j ≡ Low
    → pos 0 ≤ℤ (s.cost j).num
signs-low p steps s j h f moves is = subst (λ (e : End). pos 0 ≤ℤ toward e (s.cost j).num) is ((reached p steps s h).dual j f moves)

pub signs-high : (p : Program) (steps : ℕ) (s : State) (j : ℕ) → Reaches p steps s → IsFree p s j → high_end p j ≢ Some (low_end p j) → s.stands j ≡ High
    → (s.cost j).num ≤ℤ pos 0
signs-high p steps s j h f moves is =
    let turned : pos 0 ≤ℤ toward High (s.cost j).num = subst (λ (e : End). pos 0 ≤ℤ toward e (s.cost j).num) is ((reached p steps s h).dual j f moves) in
    omega (arith, additive, turned)

pub ends-high : (p : Program) (steps : ℕ) (s : State) (j : ℕ) → Reaches p steps s → IsFree p s j → s.stands j ≡ High → (e : ℤ) × (high_end p j ≡ Some e)
ends-high p steps s j h f is = (_, (reached p steps s h).sound.ends j f is)

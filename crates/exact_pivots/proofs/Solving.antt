-- A row of factors, solved for the column that enters as far as a column.
use Rattle.std.proofs.Common.{◌≡◌, ◌≢◌, ◌∙◌, sym, ap, subst, ℕ, ◌+◌, ◌<◌, ◌≤◌, ◌⊎◌, inl, inr, List, [], ◌∷◌, if◌then◌else◌, ◌==◌, pos, arith, refl}
use Rattle.exact_num.specs.Fraction.{Fraction}
use Rattle.exact_num.specs.Views.{shown_frac}
use Rattle.exact_run.specs.Operations.{whole}
use Rattle.exact_pivots.specs.Entries.{factor_at, AreRising, AreBelow}
use Rattle.exact_pivots.specs.Stops.{IsSolvedFactor}
use Rattle.exact_pivots.specs.declared.entry.Entry.{Entry}
use Rattle.exact_pivots.proofs.Entries.{passed, chosen, factor-gap, factor-above}

-- the factors below `from` are there, and the rest of the list is still to come
pub record IsSolvedTo (self : List Entry) (by : Fraction) (enters leaves : ℕ) (rest done : List Entry) (from : ℕ) : Type 0 where
  pub rising : AreRising from rest
  pub under : AreBelow from done
  pub rest_is : (j : ℕ) → from ≤ j → factor_at self j ≡ factor_at rest j
  pub solved : (j : ℕ) → j < from → IsSolvedFactor by enters leaves j (factor_at self j) (factor_at done j)

-- a column without a factor, which is not the one that enters
none : (self : List Entry) (by : Fraction) (enters leaves j : ℕ) (after : Fraction) → by.num ≢ pos 0 → factor_at self enters ≡ by
    → factor_at self j ≡ whole (pos 0) → after ≡ whole (pos 0) → IsSolvedFactor by enters leaves j (factor_at self j) after
none self by enters leaves j after nz is zero done =
    let zero_num : (factor_at self j).num ≡ pos 0 = ap (λ (x : Fraction). x.num) zero in
    let other : j ≢ enters = λ e. nz (sym (ap (λ (x : Fraction). x.num) is) ∙ sym (ap (λ (i : ℕ). (factor_at self i).num) e) ∙ zero_num) in record {
      entering = λ e. absurd (other e);
      leaving = λ p q there. absurd (there zero_num);
      others = λ p q there. absurd (there zero_num);
      zero = λ p q. done;
    }

-- one entry more
pub solving-step : (self : List Entry) (by : Fraction) (enters leaves : ℕ) (rest done later done2 : List Entry) (e : Entry) (f : Fraction) (from : ℕ)
    → by.num ≢ pos 0 → factor_at self enters ≡ by → IsSolvedTo self by enters leaves rest done from → rest ≡ e ∷ later
    → AreBelow (e.column + 1) done2 → ((j : ℕ) → factor_at done2 j ≡ (if e.column == j then f else factor_at done j))
    → IsSolvedFactor by enters leaves e.column (shown_frac e.value) f → IsSolvedTo self by enters leaves later done2 (e.column + 1)
solving-step self by enters leaves rest done later done2 e f from nz is m eq under put fact =
    let r : AreRising from (e ∷ later) = subst (AreRising from) eq m.rising in
    let rest_at : (j : ℕ) → from ≤ j → factor_at self j ≡ factor_at (e ∷ later) j = λ j le. m.rest_is j le ∙ ap (λ (l : List Entry). factor_at l j) eq in record {
      rising = r.2;
      under = under;
      rest_is = λ j le. rest_at j (omega (arith, r.0)) ∙ passed e.column j (shown_frac e.value) (factor_at later j) (omega arith);
      solved = λ j lt. elim (three j from e.column r.0 lt) [
        | inl below ↦ subst (λ (x : Fraction). IsSolvedFactor by enters leaves j (factor_at self j) x)
            (sym (put j ∙ passed e.column j f (factor_at done j) (omega (arith, r.0)))) (m.solved j below)
        | inr more ↦ elim more [
          | inl between ↦ none self by enters leaves j (factor_at done2 j) nz is
              (m.rest_is j between.0 ∙ factor-gap rest e.column j (gap_from rest later e from eq m.rising) between.1)
              (put j ∙ passed e.column j f (factor_at done j) (omega (arith, between)) ∙ factor-above done from j m.under between.0)
          | inr at ↦ here j at (rest_at e.column r.0 ∙ chosen e.column e.column (shown_frac e.value) (factor_at later e.column) refl) (put e.column ∙ chosen e.column e.column f (factor_at done e.column) refl)
        ]
      ];
    }
  where
    three : (j from c : ℕ) → from ≤ c → j < c + 1 → (j < from) ⊎ (((from ≤ j) × (j < c)) ⊎ (j ≡ c))
    three j from c le lt = grind arith

    gap_from : (rest later : List Entry) (e : Entry) (from : ℕ) → rest ≡ e ∷ later → AreRising from rest → AreRising e.column rest
    gap_from rest later e from eq h =
        let r : AreRising from (e ∷ later) = subst (AreRising from) eq h in
        let s : AreRising e.column (e ∷ later) = (omega arith, r.1, r.2) in subst (AreRising e.column) (sym eq) s

    here : (j : ℕ) → j ≡ e.column → factor_at self e.column ≡ shown_frac e.value → factor_at done2 e.column ≡ f
        → IsSolvedFactor by enters leaves j (factor_at self j) (factor_at done2 j)
    here j at before after =
        subst (λ (i : ℕ). IsSolvedFactor by enters leaves i (factor_at self i) (factor_at done2 i)) (sym at)
        (subst (λ (x : Fraction). IsSolvedFactor by enters leaves e.column x (factor_at done2 e.column)) (sym before)
        (subst (λ (x : Fraction). IsSolvedFactor by enters leaves e.column (shown_frac e.value) x) (sym after) fact))

-- at the end of the list all is there
pub solving-end : (self : List Entry) (by : Fraction) (enters leaves : ℕ) (rest done : List Entry) (from : ℕ)
    → by.num ≢ pos 0 → factor_at self enters ≡ by → IsSolvedTo self by enters leaves rest done from → rest ≡ []
    → (j : ℕ) → IsSolvedFactor by enters leaves j (factor_at self j) (factor_at done j)
solving-end self by enters leaves rest done from nz is m eq j = elim (below_or_not j from) [
  | inl lt ↦ m.solved j lt
  | inr le ↦ none self by enters leaves j (factor_at done j) nz is (m.rest_is j le ∙ ap (λ (xs : List Entry). factor_at xs j) eq) (factor-above done from j m.under le)
]
  where
    below_or_not : (j n : ℕ) → (j < n) ⊎ (n ≤ j)
    below_or_not j n = grind arith

-- Numbers that are taken one after another.
use Rattle.std.proofs.Common.{◌≡◌, ℕ, ◌+◌, ◌≤◌, Bool, true, false, inl, inr, subst, sym, ◌∙◌, arith}
use Rattle.std.specs.Prelude.{IsTrue}
use Rattle.std.proofs.lemmas.Bool.{cases_eq, cases_lt}
use Rattle.file_numbers.specs.Numbers.{AreUsed, KeepsUsed, TakesLowest}

-- a number that was in use stays so
pub kept-one : (before after : ℕ → Bool) → TakesLowest before after → KeepsUsed before after
kept-one before after t n used =
    elim (cases_eq n t.number) [
      | inl same ↦ subst (λ k. IsTrue (after k)) (sym same) t.taken
      | inr other ↦ t.others n other ∙ used
    ]

-- the lowest number is not below some that are in use
pub not_below : (count : ℕ) (before after : ℕ → Bool) → (t : TakesLowest before after) → AreUsed count before → count ≤ t.number
not_below count before after t used =
    elim (cases_lt t.number count) [
      | inl below ↦ (let is : before t.number ≡ true = used t.number below in let free : before t.number ≡ false = t.free in cc)
      | inr above ↦ above
    ]

-- one more of the first numbers is in use then
pub one_more : (count : ℕ) (before after : ℕ → Bool) → TakesLowest before after → AreUsed count before → AreUsed (count + 1) after
one_more count before after t used n below =
    elim (cases_lt n t.number) [
      | inl lower ↦ kept-one before after t n (t.lowest n lower)
      | inr above ↦
          (let same : n ≡ t.number = omega (arith, not_below count before after t used) in
          subst (λ k. IsTrue (after k)) (sym same) t.taken)
    ]

-- no number changes
pub kept-all : (before after : ℕ → Bool) → after ≡ before → KeepsUsed before after
kept-all before after same n used = subst (λ f. IsTrue (f n)) (sym same) used

-- Tests of all parts of a proof, in the model's words.
use Rattle.std.proofs.Common.{◌≡◌, ℕ, suc, ◌<◌, List, All, map, length, get_or, pos, IsTrue, true, false, arith, refl, sym, subst}
use Rattle.std.proofs.lemmas.List.{length-map, get_or_default}
use Rattle.std.proofs.lemmas.List.Elements.{All-map}
use Rattle.std.proofs.Math.ListN.{get_or-map}
use Rattle.linear_program.specs.declared.multipliers.Part.{Part}
use Rattle.box_space.specs.Views.{shown_part}
use Rattle.row_model.specs.Catalogue.{Kind}
use Rattle.row_model.specs.Multipliers as multipliers
use Rattle.row_book.proofs.Rising.{rises}

pub never : {P : Type 0} → ¬ P → (IsTrue false → P) × (P → IsTrue false)
never n = (λ t. absurd (cc), λ p. absurd (n p))

pub always : {P : Type 0} → P → (IsTrue true → P) × (P → IsTrue true)
always p = (λ t. p, λ q. refl)

-- what stands behind the last part
abbrev pub no_part : Part
no_part = record { row = 0; mult = pos 0 }

-- what holds of each shown part holds at one
pub at_part : (P : multipliers.Part → Type 0) (parts : List Part) (k : ℕ) → k < length parts → All P (map shown_part parts) → P (shown_part (get_or parts k no_part))
at_part P parts k lt h = subst P (get_or-map shown_part parts k no_part) (h k (shown_part no_part) (omega (arith, length-map parts shown_part)))

-- and the other way round
pub all_parts : (P : multipliers.Part → Type 0) (parts : List Part) → ((k : ℕ) → k < length parts → P (shown_part (get_or parts k no_part))) → All P (map shown_part parts)
all_parts P parts h = All-map P shown_part parts (λ k d lt. subst (λ q. P (shown_part q)) (get_or_default parts k no_part d lt) (h k lt))

-- ---- rising rows
shown-row : (parts : List Part) (k : ℕ) → (get_or (map shown_part parts) k (shown_part no_part)).row ≡ (get_or parts k no_part).row
shown-row parts k = subst (λ (q : multipliers.Part). q.row ≡ (get_or parts k no_part).row) (sym (get_or-map shown_part parts k no_part)) refl

pub rising_at : (parts : List Part) (i j : ℕ) → i < j → j < length parts → multipliers.IsRising (map shown_part parts) → (get_or parts i no_part).row < (get_or parts j no_part).row
rising_at parts i j lt h r = omega (arith, shown-row parts i, shown-row parts j, r i j lt (omega (arith, length-map parts shown_part)))

pub rising_all : (parts : List Part) → ((k : ℕ) → suc k < length parts → (get_or parts k no_part).row < (get_or parts (suc k) no_part).row) → multipliers.IsRising (map shown_part parts)
rising_all parts h i j lt k = omega (arith, shown-row parts i, shown-row parts j, rises (λ i. (get_or parts i no_part).row) (length parts) h i j lt (omega (arith, length-map parts shown_part)))

-- ---- signs
-- a part that is read, and the same in the model
pub signed_same : (kinds : ℕ → Kind) (xs ys : List Part) (k : ℕ) → xs ≡ ys
    → multipliers.IsSigned (kinds (get_or xs k no_part).row) (get_or xs k no_part).mult → multipliers.IsSigned (kinds (get_or ys k no_part).row) (get_or ys k no_part).mult
signed_same kinds xs ys k e h =
    let P : List Part → Type 0 = λ zs. multipliers.IsSigned (kinds (get_or zs k no_part).row) (get_or zs k no_part).mult in
    subst P e h

-- The proof of an end of the run.
use Rattle.std.specs.Prelude.{◌≡◌, ◌≢◌, ℕ, ◌<◌, All, Contains, ℤ, pos}
use Rattle.exact_num.specs.Fraction.{Fraction}
use Rattle.exact_run.specs.Programs.{Program}
use Rattle.exact_run.specs.States.{State}
use Rattle.exact_run.specs.Runs.{IsSolvedMultiplier, IsEmptyMultiplier}
use Rattle.exact_run.specs.declared.ends.End.{End}
use Rattle.pool_model.specs.Network.{Net}
use Rattle.row_model.specs.Multipliers.{Part, Proof, IsRising}
use Rattle.box_space.specs.declared.coordinates.Form.{Form}
use Rattle.common_denominators.specs.Multiples.{IsDenominatorOf, IsLeastMultiple, IsTimes}
use Rattle.tight_leaf.specs.Programs.{row_number}

-- the multipliers of the rows after a point
abbrev pub IsMultiplier : Program → State → ℕ → Fraction → Type 0
IsMultiplier p s r x = (r < p.rows) × IsSolvedMultiplier p s r x

-- and where there is none, since the column of a place is past this end
abbrev pub IsMultiplierPast : Program → State → ℕ → End → ℕ → Fraction → Type 0
IsMultiplierPast p s place side r x = (r < p.rows) × IsEmptyMultiplier p s place side r x

-- so many times the multiplier of a row, which isn't 0
pub record IsPartOf (n : Net) (form : Form) (multipliers : ℕ → Fraction → Type 0) (times : ℕ) (q : Part) : Type 0 where
  pub place : ℕ
  pub multiplier : Fraction
  pub listed : multipliers place multiplier
  pub nonzero : multiplier.num ≢ pos 0
  pub row : q.row ≡ row_number n form place
  pub mult : IsTimes times multiplier q.mult

-- The parts are so many times the multipliers, by rising row, zeros left out.
pub record AreParts (n : Net) (form : Form) (multipliers : ℕ → Fraction → Type 0) (times : ℕ) (proof : Proof) : Type 0 where
  pub rising : IsRising proof.parts
  pub parts : All (IsPartOf n form multipliers times) proof.parts
  pub each : (r : ℕ) (x : Fraction) → multipliers r x → x.num ≢ pos 0
      → (z : ℤ) × IsTimes times x z × Contains proof.parts record { row = row_number n form r; mult = z }

-- A proof of multipliers: the least common multiple of their denominators times each of them, with that as its scale, or with scale 0.
pub record IsScaledProof (n : Net) (form : Form) (multipliers : ℕ → Fraction → Type 0) (proof : Proof) : Type 0 where
  pub least : IsLeastMultiple (IsDenominatorOf multipliers) proof.scale
  pub parts : AreParts n form multipliers proof.scale proof

pub record IsBareProof (n : Net) (form : Form) (multipliers : ℕ → Fraction → Type 0) (proof : Proof) : Type 0 where
  pub scale : proof.scale ≡ 0
  pub times : ℕ
  pub least : IsLeastMultiple (IsDenominatorOf multipliers) times
  pub parts : AreParts n form multipliers times proof

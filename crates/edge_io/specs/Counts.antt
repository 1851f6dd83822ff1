-- Counts of faults and of bytes.
use Rattle.std.specs.Prelude.{◌≡◌, ℕ, ◌+◌, ◌-◌, ◌^◌, ◌<◌, ◌≤◌, ◌⊎◌}

-- a count never falls, and it stands still at its last value
pub record Grows (before after : ℕ) : Type 0 where
  pub grown : before ≤ after
  pub within : before < 2 ^ 64 → after < 2 ^ 64

-- a count is greater than before, or stands at its last value
abbrev pub Rose : ℕ → ℕ → Type 0
Rose before after = (before < after) ⊎ (after ≡ 2 ^ 64 - 1)

-- a count is greater by n, or stands at its last value
abbrev pub RoseBy : ℕ → ℕ → ℕ → Type 0
RoseBy n before after = (after ≡ before + n) ⊎ (after ≡ 2 ^ 64 - 1)

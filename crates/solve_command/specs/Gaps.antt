-- The gap that a search may be asked for.
use Rattle.std.specs.Prelude.{◌^◌, ℤ, pos, ◌≤ℤ◌}

-- from 0 to 10^18 picos, which is 10^6 of money
pub record IsGapAsked (gap : ℤ) : Type 0 where
  pub least : pos 0 ≤ℤ gap
  pub most : gap ≤ℤ pos (10 ^ 18)

-- What a repair may answer.
use Rattle.std.specs.Prelude.{◌*◌, Option, pos, ◌*ℤ◌, ◌≤ℤ◌}
use Rattle.std.specs.Option.{ForSome}
use Rattle.pool_model.specs.Network.{Net}
use Rattle.pool_model.specs.Plan.{Written, IsWritten, Obeys, plan_of, cost_of}
use Rattle.row_model.specs.Entries.{IsCheaper}

-- the plan is well written, and obeys the network
pub record IsAccepted (n : Net) (w : Written) : Type 0 where
  pub written : IsWritten n w
  pub obeys : Obeys n (plan_of n w)

-- a plan costs at most what another one costs, both as they are written
abbrev pub IsNoDearer : Net → Written → Written → Type 0
IsNoDearer n w other = (pos (other.flow_base * other.base) *ℤ cost_of n (plan_of n w)) ≤ℤ (pos (w.flow_base * w.base) *ℤ cost_of n (plan_of n other))

-- the plan is accepted, and cheaper than the best one where there is one
pub record IsGain (n : Net) (best : Option Written) (w : Written) : Type 0 where
  pub accepted : IsAccepted n w
  pub cheaper : ForSome best (IsCheaper n w)

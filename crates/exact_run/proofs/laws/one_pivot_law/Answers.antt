use Rattle.exact_run.proofs.OnePivot.{one_leaving, one_entering}
use Rattle.exact_run.proofs.laws.one_pivot_law.Goals as goal

pub returns : goal.returns
returns c = record { leaving = one_leaving; entering = one_entering }

use Rattle.std.proofs.Common.{ℕ, ◌<◌, get_or, pos, []}
use Rattle.pool_model.specs.Network.{net_of}
use Rattle.plan_core.specs.Weighed.{IsAbove}
use Rattle.plan_core.proofs.check.first_above.Given as goal

abbrev pub invariant-loop-quality : goal.invariant-loop-quality
invariant-loop-quality l = (k : ℕ) → k < l.quality → ¬ IsAbove (pos (net_of l.net).scale) ((net_of l.net).most l.product k) l.inflow (get_or (get_or l.sums k []) l.product (pos 0))

use Rattle.std.proofs.Common.{◌≡◌, ℕ, ◌<◌, get_or, length, []}
use Rattle.pool_model.specs.Network.{net_of}
use Rattle.plan_core.specs.Views.{shown_plan}
use Rattle.plan_core.specs.Weighed.{AreProductQualities}
use Rattle.plan_core.proofs.qualities.qualities.Given as goal

abbrev pub invariant-loop-quality : goal.invariant-loop-quality
invariant-loop-quality l = record {
  long : length l.columns ≡ 8;
  exact : (k : ℕ) → k < l.quality → AreProductQualities (net_of l.net) (shown_plan l.plan) k (get_or l.columns k []);
}

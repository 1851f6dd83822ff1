use Rattle.std.proofs.Common.{◌≡◌, ℕ, ◌<◌, length, get_or}
use Rattle.pool_model.specs.Network.{net_of}
use Rattle.point_checks.specs.Flows.{flows_plan}
use Rattle.form_plans.specs.Parts.{IsPart}
use Rattle.form_plans.proofs.feeds.weights.Given as goal

abbrev pub invariant-loop-feed : goal.invariant-loop-feed
invariant-loop-feed l = record {
  long : length l.weights.items ≡ l.feed;
  each : (e : ℕ) → e < l.feed → IsPart (net_of l.net) (flows_plan l.flows) l.base e (get_or l.weights.items e 0);
}

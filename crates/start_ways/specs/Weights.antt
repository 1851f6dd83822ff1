-- The weights of a simple plan.
use Rattle.std.specs.Prelude.{ℕ, ◌==◌, if◌then◌else◌}
use Rattle.pool_model.specs.Network.{Net}
use Rattle.pool_model.specs.Starting.{first_weight, alone}

-- all weight of one feed's pool stands on it, and that of the other pools on their first feeds
abbrev pub weight_on : Net → ℕ → ℕ → ℕ
weight_on n e f = if n.feed_pool f == n.feed_pool e then alone e 1 f else first_weight n f

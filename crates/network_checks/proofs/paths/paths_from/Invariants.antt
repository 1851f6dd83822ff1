use Rattle.std.proofs.Common.{◌≡◌, map}
use Rattle.pool_model.specs.Paths.{paths_below}
use Rattle.network_parts.specs.Views.{shown_arc, shown_path, joined_net}
use Rattle.network_checks.proofs.paths.paths_from.Given as goal

abbrev pub invariant-loop-pool : goal.invariant-loop-pool
invariant-loop-pool l = map shown_path l.paths.items ≡ paths_below (joined_net l.pools (map shown_arc l.feeds) (map shown_arc l.outs)) l.pool

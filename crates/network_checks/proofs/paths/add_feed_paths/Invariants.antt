use Rattle.std.proofs.Common.{◌≡◌, ◌++◌, map}
use Rattle.network_parts.specs.Views.{shown_arc, shown_path, paths_behind}
use Rattle.network_checks.proofs.paths.add_feed_paths.Given as goal

abbrev pub invariant-loop-out : goal.invariant-loop-out
invariant-loop-out l = map shown_path l.paths.items ≡ map shown_path l.initial.paths.items ++ paths_behind (map shown_arc l.outs) l.feed l.pool l.out

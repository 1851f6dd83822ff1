use Rattle.std.proofs.Common.{◌≡◌, ℕ, ◌++◌, map}
use Rattle.std.specs.List.{flat_map}
use Rattle.integers.specs.Numbers.{numbers_at}
use Rattle.pool_model.specs.Paths.{feed_paths}
use Rattle.network_parts.specs.Views.{shown_arc, shown_path, joined_net}
use Rattle.network_checks.proofs.paths.add_pool_paths.Given as goal

abbrev pub invariant-loop-feed : goal.invariant-loop-feed
invariant-loop-feed l = (pools : ℕ) → map shown_path l.paths.items
    ≡ map shown_path l.initial.paths.items ++ flat_map
    (feed_paths (joined_net pools (map shown_arc l.feeds) (map shown_arc l.outs)))
    (numbers_at (joined_net pools (map shown_arc l.feeds) (map shown_arc l.outs)).feed_pool l.pool l.feed)

-- What arcs and paths are looked up by, as the code keeps them before there is a network.
use Rattle.std.specs.Prelude.{ℕ, ◌<◌, length, get_or, All, None, pos}
use Rattle.network_parts.specs.declared.arcs.Arc.{Arc}
use Rattle.network_parts.specs.declared.arcs.Path.{Path}
use Rattle.network_parts.specs.declared.arcs.Arcs.{Arcs}
use Rattle.blend_network.specs.declared.keys.Key.{Key}
use Rattle.blend_network.specs.declared.keys.Key.TheVariants.{FeedsFrom, FeedsInto, OutsFrom, OutsInto, DirectsFrom, DirectsInto, PathsFrom, PathsAlong, PathsInto}

-- what stands behind the end of a list
abbrev pub no_kept_arc : Arc
no_kept_arc = record { from = 0; to = 0; cost = pos 0; max = None }

abbrev pub no_kept_path : Path
no_kept_path = record { feed = 0; out = 0 }

-- the node of an arc or a path
abbrev pub kept_key : Arcs → Key → ℕ → ℕ
kept_key a FeedsFrom i = (get_or a.feeds.items i no_kept_arc).from
kept_key a FeedsInto i = (get_or a.feeds.items i no_kept_arc).to
kept_key a OutsFrom i = (get_or a.outs.items i no_kept_arc).from
kept_key a OutsInto i = (get_or a.outs.items i no_kept_arc).to
kept_key a DirectsFrom i = (get_or a.directs.items i no_kept_arc).from
kept_key a DirectsInto i = (get_or a.directs.items i no_kept_arc).to
kept_key a PathsFrom i = (get_or a.paths.items i no_kept_path).feed
kept_key a PathsAlong i = (get_or a.paths.items i no_kept_path).out
kept_key a PathsInto i = (get_or a.outs.items (get_or a.paths.items i no_kept_path).out no_kept_arc).to

-- how many arcs or paths there are
abbrev pub kept_count : Arcs → Key → ℕ
kept_count a FeedsFrom = length a.feeds.items
kept_count a FeedsInto = length a.feeds.items
kept_count a OutsFrom = length a.outs.items
kept_count a OutsInto = length a.outs.items
kept_count a DirectsFrom = length a.directs.items
kept_count a DirectsInto = length a.directs.items
kept_count a PathsFrom = length a.paths.items
kept_count a PathsAlong = length a.paths.items
kept_count a PathsInto = length a.paths.items

-- each path runs along an out
abbrev pub IsAlong : Arcs → Type 0
IsAlong a = All (λ p. p.out < length a.outs.items) a.paths.items

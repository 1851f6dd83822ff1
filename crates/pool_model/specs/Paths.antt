-- The paths of a network: a feed and an out of one pool.
use Rattle.std.specs.Prelude.{◌≡◌, ℕ, zero, suc, ◌<◌, ◌⊎◌, List, [], ◌++◌, get_or, map}
use Rattle.std.specs.List.{flat_map}
use Rattle.integers.specs.Numbers.{numbers_at}
use Rattle.pool_model.specs.Network.{Net}

pub record Path : Type 0 where
  pub feed : ℕ
  pub out : ℕ

-- the paths that begin with a feed
abbrev pub feed_paths : Net → ℕ → List Path
feed_paths n e = map (λ o. record { feed = e; out = o }) (numbers_at n.out_pool (n.feed_pool e) n.outs)

-- the paths through a pool
abbrev pub pool_paths : Net → ℕ → List Path
pool_paths n l = flat_map (feed_paths n) (numbers_at n.feed_pool l n.feeds)

-- the paths through the pools below a number
abbrev pub paths_below : Net → ℕ → List Path
paths_below n zero = []
paths_below n (suc l) = paths_below n l ++ pool_paths n l

-- ordered by pool, then by feed, then by out
abbrev pub paths_of : Net → List Path
paths_of n = paths_below n n.pools

-- what stands behind the end of a list of paths
abbrev pub no_path : Path
no_path = record { feed = 0; out = 0 }

-- the path of a number
abbrev pub path_at : Net → ℕ → Path
path_at n a = get_or (paths_of n) a no_path

-- by pool, then by feed, then by out
abbrev pub ComesBefore : Net → Path → Path → Type 0
ComesBefore n p q =
    (n.feed_pool p.feed < n.feed_pool q.feed)
    ⊎ ((n.feed_pool p.feed ≡ n.feed_pool q.feed) × ((p.feed < q.feed) ⊎ ((p.feed ≡ q.feed) × (p.out < q.out))))

-- What leaves a pool of each quality, as a file says it.
use Rattle.std.specs.Prelude.{ℕ, get_or}
use Rattle.pool_model.specs.Network.{Network, no_pool}

-- how many thousandths of a quality that enters a pool leave it
abbrev pub ratio_of : Network → ℕ → ℕ → ℕ
ratio_of n l k = get_or (get_or n.pools l no_pool).ratio k 1000

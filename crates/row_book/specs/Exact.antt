-- The rows that are the same in every box: of each group those before its envelopes.
use Rattle.std.specs.Prelude.{ℕ, ◌+◌, ◌*◌, length}
use Rattle.pool_model.specs.Network.{Net}
use Rattle.pool_model.specs.Limits.{most_limits, least_limits}
use Rattle.row_model.specs.Boxes.{root}
use Rattle.row_model.specs.Catalogue.{network_families, p_families, q_families, pq_families, row_count}
use Rattle.row_book.specs.declared.catalogue.Group.{Group}
use Rattle.row_book.specs.declared.catalogue.Group.TheVariants.{Network, P, Q, Further}

-- the number of the first row of a group
abbrev pub first_of : Net → Group → ℕ
first_of n Network = 0
first_of n P = row_count (network_families n)
first_of n Q = row_count (network_families n) + row_count (p_families n (root n))
first_of n Further = row_count (network_families n) + row_count (p_families n (root n)) + row_count (q_families n (root n))

-- How many rows of a group are no envelopes: all of the network's; of P mixing rows and limits; of Q proportions, feeds and limits; all
-- that PQ has beside those of Q.
abbrev pub exact_count : Net → Group → ℕ
exact_count n Network = row_count (network_families n)
exact_count n P = n.pools * n.qualities + (length (most_limits n) + length (least_limits n))
exact_count n Q = n.pools + (n.feeds + (length (most_limits n) + length (least_limits n)))
exact_count n Further = row_count (pq_families n)

-- How many rows there may be.
use Rattle.std.proofs.Common.{◌≡◌, ◌+◌, ◌*◌, ◌≤◌, length, refl, arith}
use Rattle.std.proofs.Math.Nat.{mul-le-mul}
use Rattle.pool_model.specs.Limits.{most_limits, least_limits}
use Rattle.pool_model.specs.Network.{IsLimited, Net}
use Rattle.pool_model.specs.Paths.{paths_of}
use Rattle.pool_model.proofs.Limits.{length-limits}
use Rattle.row_model.specs.Boxes.{root}
use Rattle.row_model.specs.Catalogue.{network_families, p_families, q_families, pq_families, row_count, rows}
use Rattle.row_book.proofs.Placing.{rows_is}

-- a network within its limits has no more rows than this
pub few-rows : (n : Net) → IsLimited n → length (paths_of n) ≤ 512 → rows n ≤ 13424
few-rows n limited paths =
    let of_network : row_count (network_families n) ≡ n.sources + (n.pools + (n.pools + (n.products + (n.products + 0)))) = refl in
    let of_p : row_count (p_families n (root n))
    ≡ n.pools * n.qualities + (length (most_limits n) + (length (least_limits n) + (n.outs * (n.qualities * 4) + 0))) = refl in
    let of_q : row_count (q_families n (root n))
    ≡ n.pools + (n.feeds + (length (most_limits n) + (length (least_limits n) + (length (paths_of n) * 4 + 0)))) = refl in
    let of_pq : row_count (pq_families n) ≡ n.outs + (n.feeds + 0) = refl in
    let most : length (most_limits n) ≤ n.products * n.qualities = length-limits n.most n.products n.qualities in
    let least : length (least_limits n) ≤ n.products * n.qualities = length-limits n.least n.products n.qualities in
    let limits : n.products * n.qualities ≤ 64 * 8 = mul-le-mul limited.products limited.qualities in
    let mixings : n.pools * n.qualities ≤ 16 * 8 = mul-le-mul limited.pools limited.qualities in
    let four : n.qualities * 4 ≤ 32 = omega (arith, limited.qualities) in
    let sides : n.outs * (n.qualities * 4) ≤ 256 * 32 = mul-le-mul limited.outs four in
    omega (
      arith,
      rows_is n,
      of_network,
      of_p,
      of_q,
      of_pq,
      most,
      least,
      limits,
      mixings,
      sides,
      paths,
      limited.sources,
      limited.pools,
      limited.products,
      limited.feeds,
      limited.outs,
    )

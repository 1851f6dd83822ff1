use Rattle.std.proofs.Common.{◌≡◌, ◌≤◌, ◌*◌, ◌^◌, ℕ, length, map, ℤ, pos, sym, ap, subst, refl, ◌∙◌, arith}
use Rattle.std.proofs.lemmas.Int.{ints}
use Rattle.std.proofs.lemmas.List.{length-map}
use Rattle.network_parts.specs.declared.fault.Kind.TheVariants.{Product, Quality}
use Rattle.blend_network.specs.declared.limits.LimitSide.TheVariants.{Most, Least}
use Rattle.pool_model.specs.Rows.{Rows, IsRectangular}
use Rattle.pool_model.specs.Naming.{source_of, pool_of, product_of, stand_in, network_of}
use Rattle.network_parts.specs.Parts.{rows_of, source_row, pool_row, product_row}
use Rattle.network_parts.specs.Faults.{IsSourceInRange, IsPoolInRange, IsProductInRange, IsUpTo, no_source_row, no_pool_row, no_product_row}
use Rattle.network_parts.specs.Views.{shown_path}
use Rattle.blend_network.specs.Views.{shown_pool, shown_product}
use Rattle.blend_network.specs.Built.{IsBuilt}
use Rattle.pool_model.specs.Network.{Network, net_of, IsLimited, scale_of}
use Rattle.network_parts.specs.Ready.{IsReady}
use Rattle.network_parts.specs.declared.arcs.Arcs.{Arcs}
use Rattle.blend_network.proofs.Built.{all_rows, same_network, limited, built}
use Rattle.blend_network.proofs.LimitLists.{products_wide, set_of, both_set}
use Rattle.blend_network.proofs.network.Network.assemble.Goals as goal

pub stand_in-stand_in-requires-clause-count : goal.stand_in-stand_in-requires-clause-count
stand_in-stand_in-requires-clause-count c =
    let items = c.args.parts.products.items in
    rw c.deref.ensures.value (omega (arith, length-map items product_row, c.requires.checked.faultless.counts Product))

pub stand_in-stand_in-requires-clause-ranges : goal.stand_in-stand_in-requires-clause-ranges
stand_in-stand_in-requires-clause-ranges c = rw c.deref.ensures.value (all_rows IsProductInRange product_row no_product_row c.args.parts.products.items c.requires.checked.ranges.products)

-- the network of the rows is within the limits
rows_limited : (r : Rows) (arcs : Arcs) (st : ℕ) → IsRectangular r → IsReady r arcs → pos st ≡ stand_in r → st ≤ 64 * 10 ^ 12 → IsLimited (net_of (network_of r))
rows_limited r arcs st rect checked is size =
    let up : IsUpTo (10 ^ 14) (pos st) = (omega (arith, ints), omega (arith, ints, size)) in
    limited r arcs rect checked (subst (λ (z : ℤ). IsUpTo (10 ^ 14) z) is up)

pub index_of-requires-clause-limited : goal.index_of-requires-clause-limited
index_of-requires-clause-limited c =
    let stand : pos c.stand_in-stand_in.result ≡ stand_in (rows_of c.args.parts) = rw c.deref.ensures.value at c.stand_in-stand_in.ensures.sum in
    rows_limited (rows_of c.args.parts) c.args.arcs c.stand_in-stand_in.result c.requires.rectangular c.requires.checked stand c.stand_in-stand_in.ensures.size

pub sources_from-requires : goal.sources_from-requires
sources_from-requires c = all_rows IsSourceInRange source_row no_source_row c.args.parts.sources.items c.requires.checked.ranges.sources

pub pools_from-requires : goal.pools_from-requires
pools_from-requires c = all_rows IsPoolInRange pool_row no_pool_row c.args.parts.pools.items c.requires.checked.ranges.pools

pub products_from-requires : goal.products_from-requires
products_from-requires c = all_rows IsProductInRange product_row no_product_row c.args.parts.products.items c.requires.checked.ranges.products

pub limits_from-requires-clause-few : goal.limits_from-requires-clause-few
limits_from-requires-clause-few c =
    let rows = c.args.parts.products.items in
    omega (
      arith,
      ap length c.deref-2.ensures.value,
      ap length c.in_ok-products.ensures,
      length-map c.in_ok-products.products.items shown_product,
      length-map (map product_row rows) product_of,
      length-map rows product_row,
      c.requires.checked.faultless.counts Product,
    )

pub limits_from-requires-clause-narrow : goal.limits_from-requires-clause-narrow
limits_from-requires-clause-narrow c = λ k d lt.
    omega (
      arith,
      products_wide (rows_of c.args.parts) c.deref-2.result.now Most c.requires.rectangular (ap (map shown_product) c.deref-2.ensures.value ∙ c.in_ok-products.ensures) k d lt,
      c.requires.checked.faultless.counts Quality,
    )

pub limits_from-requires-2-clause-few : goal.limits_from-requires-2-clause-few
limits_from-requires-2-clause-few c =
    let rows = c.args.parts.products.items in
    omega (
      arith,
      ap length c.deref-3.ensures.value,
      ap length c.in_ok-products.ensures,
      length-map c.in_ok-products.products.items shown_product,
      length-map (map product_row rows) product_of,
      length-map rows product_row,
      c.requires.checked.faultless.counts Product,
    )

pub limits_from-requires-2-clause-narrow : goal.limits_from-requires-2-clause-narrow
limits_from-requires-2-clause-narrow c = λ k d lt.
    omega (
      arith,
      products_wide (rows_of c.args.parts) c.deref-3.result.now Least c.requires.rectangular (ap (map shown_product) c.deref-3.ensures.value ∙ c.in_ok-products.ensures) k d lt,
      c.requires.checked.faultless.counts Quality,
    )

pub invariant_of-result : goal.invariant_of-result
invariant_of-result c =
    let r = rows_of c.args.parts in
    let stand : pos c.stand_in-stand_in.result ≡ stand_in (rows_of c.args.parts) = rw c.deref.ensures.value at c.stand_in-stand_in.ensures.sum in
    let within = rows_limited r c.args.arcs c.stand_in-stand_in.result c.requires.rectangular c.requires.checked stand c.stand_in-stand_in.ensures.size in
    let pools = c.in_ok-pools.ensures ∙ ap (λ st. map (pool_of st) r.pools) stand in
    let scaled = c.scale_of.ensures ∙ ap (λ ps. scale_of (map shown_pool ps)) c.deref-4.ensures.value ∙ ap scale_of pools in
    subst (λ (n : Network). IsBuilt n (map shown_path c.args.arcs.paths.items) c.in_ok-index.index.items record { most = c.in_ok-limits_from.field-0; least = c.in_ok-limits_from-2.field-0 }
    c.scale_of.result)
    (sym (same_network _ (network_of r) refl
    (c.in_ok-sources_from.ensures ∙ ap (λ st. map (source_of st) r.sources) stand)
    pools
    c.in_ok-products.ensures
    c.requires.checked.found.feeds
    c.requires.checked.found.outs
    c.requires.checked.found.directs))
    (built r c.args.arcs c.requires.rectangular c.requires.checked within c.in_ok-index.index.items
    c.in_ok-index.ensures record { most = c.in_ok-limits_from.field-0; least = c.in_ok-limits_from-2.field-0 }
    (both_set (net_of (network_of r)) record { most = c.in_ok-limits_from.field-0; least = c.in_ok-limits_from-2.field-0 }
    (set_of r c.deref-2.result.now Most c.in_ok-limits_from.field-0.items (ap (map shown_product) c.deref-2.ensures.value ∙ c.in_ok-products.ensures)
    (c.in_ok-limits_from.ensures (length r.qualities) (products_wide r c.deref-2.result.now Most c.requires.rectangular (ap (map shown_product) c.deref-2.ensures.value ∙ c.in_ok-products.ensures))))
    (set_of r c.deref-3.result.now Least c.in_ok-limits_from-2.field-0.items (ap (map shown_product) c.deref-3.ensures.value ∙ c.in_ok-products.ensures)
    (c.in_ok-limits_from-2.ensures (length r.qualities)
    (products_wide r c.deref-3.result.now Least c.requires.rectangular
    (ap (map shown_product) c.deref-3.ensures.value ∙ c.in_ok-products.ensures))))) c.scale_of.result scaled)

pub returns : goal.returns
returns c =
    let r = rows_of c.args.parts in
    let stand : pos c.stand_in-stand_in.result ≡ stand_in (rows_of c.args.parts) = rw c.deref.ensures.value at c.stand_in-stand_in.ensures.sum in
    same_network _ (network_of r) refl
    (c.in_ok-sources_from.ensures ∙ ap (λ st. map (source_of st) r.sources) stand)
    (c.in_ok-pools.ensures ∙ ap (λ st. map (pool_of st) r.pools) stand)
    c.in_ok-products.ensures
    c.requires.checked.found.feeds
    c.requires.checked.found.outs
    c.requires.checked.found.directs

-- The list of limits that are set, one product after another.
use Rattle.std.proofs.Common.{◌≡◌, ℕ, ◌+◌, ◌<◌, ◌≤◌, List, [], ◌∷◌, ◌++◌, length, map, get_or, All, Option, Some, None, ℤ, sym, ap, ◌∙◌, arith}
use Rattle.std.proofs.Math.Nat.{mul-le-mul}
use Rattle.std.proofs.lemmas.List.{length-map, get_or-map, map-append, append_assoc}
use Rattle.pool_model.specs.Rows.{Rows, IsRectangular}
use Rattle.pool_model.specs.Naming.{product_of, network_of}
use Rattle.pool_model.specs.Network as model
use Rattle.pool_model.specs.Network.{Net, Network, net_of, IsLimited, no_product}
use Rattle.pool_model.specs.Limits as limits
use Rattle.pool_model.specs.Limits.{product_limits, no_limit}
use Rattle.pool_model.proofs.Limits.{product_limits-some, product_limits-none, limits-more, length-limits, limits-set}
use Rattle.network_parts.specs.Faults.{no_product_row}
use Rattle.blend_network.specs.Limits.{limit_of, side_limits, limits_in, product_limit, AreLimitsOf}
use Rattle.blend_network.specs.Views.{shown_limit, shown_product}
use Rattle.blend_network.specs.declared.limits.LimitSide.{LimitSide}
use Rattle.blend_network.specs.declared.limits.LimitSide.TheVariants.{Most, Least}
use Rattle.blend_network.specs.declared.limits.Limit.{Limit}
use Rattle.blend_network.specs.declared.network.Product.{Product}
use Rattle.blend_network.specs.declared.network.limits.Limits.{Limits}

-- one limit more
pub limit_more : (values : List (Option ℤ)) (j k : ℕ) (z : ℤ) (was now : List Limit) (old : List limits.Limit)
    → map shown_limit was ≡ old ++ product_limits (λ _ q. get_or values q None) k j → get_or values k None ≡ Some z
    → now ≡ was ++ record { product = j; quality = k; limit = z } ∷ [] → map shown_limit now ≡ old ++ product_limits (λ _ q. get_or values q None) (k + 1) j
limit_more values j k z was now old is set pushed =
    let u : Limit = record { product = j; quality = k; limit = z } in
    ap (map shown_limit) pushed
    ∙ map-append shown_limit was (u ∷ [])
    ∙ ap (λ us. us ++ shown_limit u ∷ []) is
    ∙ append_assoc old (product_limits (λ _ q. get_or values q None) k j) (shown_limit u ∷ [])
    ∙ ap (λ us. old ++ us) (sym (product_limits-some (λ _ q. get_or values q None) j k z set))

pub limit_none : (values : List (Option ℤ)) (j k : ℕ) (was : List Limit) (old : List limits.Limit)
    → map shown_limit was ≡ old ++ product_limits (λ _ q. get_or values q None) k j → get_or values k None ≡ None
    → map shown_limit was ≡ old ++ product_limits (λ _ q. get_or values q None) (k + 1) j
limit_none values j k was old is unset = is ∙ ap (λ us. old ++ us) (sym (product_limits-none (λ _ q. get_or values q None) j k unset))

-- one product more
pub product_more : (products : List model.Product) (side : LimitSide) (values : List (Option ℤ)) (qualities j : ℕ)
    (was now : List limits.Limit) → was ≡ limits.limits (product_limit products side) j qualities
    → values ≡ limits_in (get_or products j no_product) side → length values ≡ qualities → now ≡ was ++ product_limits (λ _ k. get_or values k None) (length values) j
    → now ≡ limits.limits (product_limit products side) (j + 1) qualities
product_more products side values qualities j was now is at wide made =
    made
    ∙ ap (λ us. us ++ product_limits (λ _ k. get_or values k None) (length values) j) is
    ∙ ap (λ vs. limits.limits (product_limit products side) j qualities ++ product_limits (λ _ k. get_or vs k None) (length values) j) at
    ∙ ap (λ n. limits.limits (product_limit products side) j qualities ++ product_limits (product_limit products side) n j) wide
    ∙ sym (limits-more (product_limit products side) qualities j)

-- the products of a file have a limit or none for each quality
pub products_wide : (r : Rows) (products : List Product) (side : LimitSide) → IsRectangular r
    → map shown_product products ≡ (network_of r).products
    → All (λ p. length (limits_in (shown_product p) side) ≡ length r.qualities) products
products_wide r products side rect is k d lt =
    let there : k < length r.products = omega (arith, ap length is, length-map products shown_product, length-map r.products product_of, lt) in
    ap (λ (p : model.Product). length (limits_in p side))
    (sym (get_or-map shown_product products k d no_product lt) ∙ ap (λ ps. get_or ps k no_product) is ∙ get_or-map product_of r.products k no_product_row no_product there)
    ∙ row_wide side there
  where
    row_wide : (side : LimitSide) → k < length r.products → length (limits_in (product_of (get_or r.products k no_product_row)) side) ≡ length r.qualities
    row_wide Most there = rect.most k no_product_row there
    row_wide Least there = rect.least k no_product_row there

-- the limits of both kinds
pub both_set : (n : Net) (l : Limits) → map shown_limit l.most.items ≡ side_limits n Most → map shown_limit l.least.items ≡ side_limits n Least → AreLimitsOf n l
both_set n l most least Most = most
both_set n l most least Least = least

-- the limits of these products are those of the network of the rows
pub set_of : (r : Rows) (products : List Product) (side : LimitSide) (us : List Limit) → map shown_product products ≡ (network_of r).products
    → map shown_limit us ≡ limits.limits (product_limit (map shown_product products) side) (length products) (length r.qualities) → map shown_limit us ≡ side_limits (net_of (network_of r)) side
unfolding net_of
set_of r products Most us is set =
    set
    ∙ ap (λ ps. limits.limits (product_limit ps Most) (length products) (length r.qualities)) is
    ∙ ap (λ n. limits.limits (product_limit (network_of r).products Most) n (length r.qualities)) (sym (length-map products shown_product) ∙ ap length is)
set_of r products Least us is set =
    set
    ∙ ap (λ ps. limits.limits (product_limit ps Least) (length products) (length r.qualities)) is
    ∙ ap (λ n. limits.limits (product_limit (network_of r).products Least) n (length r.qualities)) (sym (length-map products shown_product) ∙ ap length is)

-- ---- what is known of the limits that are set
pub few_limits : (n : Net) (side : LimitSide) (us : List Limit) → IsLimited n → map shown_limit us ≡ side_limits n side → length us ≤ 512
few_limits n side us limited is =
    omega (arith, sym (length-map us shown_limit), ap length is, length-limits (limit_of n side) n.products n.qualities, mul-le-mul limited.products limited.qualities)

pub limits_known : (n : Net) (side : LimitSide) (us : List Limit) → map shown_limit us ≡ side_limits n side
    → (k : ℕ) (d : Limit) → k < length us
    → ((get_or us k d).product < n.products) × ((get_or us k d).quality < n.qualities)
limits_known n side us is k d lt =
    let there : k < length (side_limits n side) = omega (arith, ap length is, length-map us shown_limit, lt) in
    let at : get_or (side_limits n side) k no_limit ≡ shown_limit (get_or us k d) = ap (λ xs. get_or xs k no_limit) (sym is) ∙ get_or-map shown_limit us k d no_limit lt in
    let set = limits-set (limit_of n side) n.products n.qualities k no_limit there in
    (omega (arith, set.product, ap (λ (u : limits.Limit). u.product) at), omega (arith, set.quality, ap (λ (u : limits.Limit). u.quality) at))

-- A network that is made from rows which passed the checks is within the limits.
use Rattle.std.proofs.Common.{◌≡◌, ℕ, ◌^◌, ◌<◌, ◌≤◌, List, length, map, get_or, All, Option, None, Some, unwrap_or, ℤ, pos, ◌≤ℤ◌, unsigned_abs, refl, sym, ap, subst, ◌∙◌, arith}
use Rattle.std.specs.Option.{ForSome}
use Rattle.std.proofs.lemmas.List.{length-map, get_or-map}
use Rattle.std.proofs.lemmas.Int.{ints}
use Rattle.pool_model.specs.Rows.{Rows, IsRectangular}
use Rattle.pool_model.specs.Naming.{source_names, pool_names, product_names, source_of, pool_of, product_of, stand_in, network_of}
use Rattle.pool_model.specs.Network.{Source, Pool, Product, Network, net_of, IsWithin, IsLimited, no_source, no_pool, no_product, removes_nothing, scale_of}
use Rattle.network_parts.specs.Faults.{row_count, row_limit, IsUpTo, no_source_row, no_pool_row, no_product_row}
use Rattle.network_parts.specs.Ready.{IsReady}
use Rattle.network_parts.specs.Views.{shown_path}
use Rattle.blend_network.specs.Built.{IsBuilt}
use Rattle.blend_network.specs.Keys.{IsIndexOf}
use Rattle.blend_network.specs.Limits.{AreLimitsOf}
use Rattle.network_parts.specs.declared.fault.Kind.{Kind}
use Rattle.network_parts.specs.declared.fault.Kind.TheVariants as kind
use Rattle.network_parts.specs.declared.arcs.Arcs.{Arcs}
use Rattle.blend_network.specs.declared.network.limits.Limits.{Limits}
use Rattle.blend_network.proofs.Carried.{arcs-carried}
use Rattle.blend_network.proofs.Ratios.{share-most, scale-least, scale-most}
use Rattle.network_parts.proofs.Joined.{arcs-between, few_arcs, one_of}

-- what holds of each mapped row holds of each row
pub all_rows : {X Y : Type 0} (P : Y → Type 0) (f : X → Y) (d : Y) (xs : List X) → ((n : ℕ) → n < length (map f xs) → P (get_or (map f xs) n d)) → All (λ x. P (f x)) xs
all_rows P f d xs h k e within = subst P (get_or-map f xs k e d within) (h k (omega (arith, length-map xs f, within)))

-- two networks of the same lists are one
pub same_network : (a b : Network) → a.qualities ≡ b.qualities → a.sources ≡ b.sources → a.pools ≡ b.pools
    → a.products ≡ b.products → a.feeds ≡ b.feeds → a.outs ≡ b.outs → a.directs ≡ b.directs → a ≡ b
same_network a b q s l p f o d = λ i. record { qualities = q i; sources = s i; pools = l i; products = p i; feeds = f i; outs = o i; directs = d i }

supply_within : (max : Option ℤ) (st : ℤ) → ForSome max (IsUpTo (10 ^ 14)) → IsUpTo (10 ^ 14) st → unsigned_abs (unwrap_or max st) ≤ 10 ^ 14
supply_within None st h up = omega (arith, ints, up.0, up.1)
supply_within (Some m) st h up = let k = h m refl in omega (arith, ints, k.0, k.1)

amount_within : (size : ℕ) (z : ℤ) → IsUpTo size z → unsigned_abs z ≤ size
amount_within size z h = omega (arith, ints, h.0, h.1)

amounts_in_order : (a b : ℤ) → pos 0 ≤ℤ a → a ≤ℤ b → unsigned_abs a ≤ unsigned_abs b
amounts_in_order a b h k = omega (arith, ints)

-- what leaves a pool, of what its row says
share : (ratios : List ℤ) (k : ℕ) → All (IsUpTo 1000) ratios → k < length ratios → get_or (map unsigned_abs ratios) k 1000 ≤ 1000
share ratios k all within =
    omega (arith, get_or-map unsigned_abs ratios k (pos 0) 1000 within, amount_within 1000 (get_or ratios k (pos 0)) (all k (pos 0) within))

-- the network is within the limits
pub limited : (r : Rows) (arcs : Arcs) → IsRectangular r → IsReady r arcs → IsUpTo (10 ^ 14) (stand_in r) → IsLimited (net_of (network_of r))
unfolding net_of
limited r arcs rect checked up =
    let here_s : (i : ℕ) → i < length (map (source_of (stand_in r)) r.sources) → i < length r.sources = λ i h. omega (arith, length-map r.sources (source_of (stand_in r)), h) in
    let here_l : (l : ℕ) → l < length (map (pool_of (stand_in r)) r.pools) → l < length r.pools = λ l h. omega (arith, length-map r.pools (pool_of (stand_in r)), h) in
    let here_p : (j : ℕ) → j < length (map product_of r.products) → j < length r.products = λ j h. omega (arith, length-map r.products product_of, h) in
    let at_s : (i : ℕ) → i < length (map (source_of (stand_in r)) r.sources) → source_of (stand_in r) (get_or r.sources i no_source_row) ≡ get_or (map (source_of (stand_in r)) r.sources) i no_source
    = λ i h. sym (get_or-map (source_of (stand_in r)) r.sources i no_source_row no_source (here_s i h)) in
    let at_l : (l : ℕ) → l < length (map (pool_of (stand_in r)) r.pools) → pool_of (stand_in r) (get_or r.pools l no_pool_row) ≡ get_or (map (pool_of (stand_in r)) r.pools) l no_pool
    = λ l h. sym (get_or-map (pool_of (stand_in r)) r.pools l no_pool_row no_pool (here_l l h)) in
    let at_p : (j : ℕ) → j < length (map product_of r.products) → product_of (get_or r.products j no_product_row) ≡ get_or (map product_of r.products) j no_product
    = λ j h. sym (get_or-map product_of r.products j no_product_row no_product (here_p j h)) in
    let s_in = λ (i : ℕ) (h : i < length (map (source_of (stand_in r)) r.sources)). checked.ranges.sources i (here_s i h) in
    let p_in = λ (j : ℕ) (h : j < length (map product_of r.products)). checked.ranges.products j (here_p j h) in
    let ls = length-map r.sources (source_of (stand_in r)) in
    let ll = length-map r.pools (pool_of (stand_in r)) in
    let lp = length-map r.products product_of in
    let ns = length-map r.sources (λ s. s.name) in
    let nl = length-map r.pools (λ p. p.name) in
    let np = length-map r.products (λ p. p.name) in
    let few : (kind : Kind) → row_count r kind ≤ row_limit kind = λ kind. omega (arith, checked.faultless.counts kind) in
    let sums = few_arcs r (record { sources = checked.faultless.distinct kind.Source; pools = checked.faultless.distinct kind.Pool; products = checked.faultless.distinct kind.Product }) in
    record {
      sources = omega (arith, ls, few kind.Source);
      pools = omega (arith, ll, few kind.Pool);
      products = omega (arith, lp, few kind.Product);
      qualities = omega (arith, few kind.Quality);
      feeds = omega (arith, sums, few kind.Arc);
      outs = omega (arith, sums, few kind.Arc);
      directs = omega (arith, sums, few kind.Arc);
      arcs = omega (arith, sums, few kind.Arc);
      feed_sources = λ e h. omega (arith, (arcs-between (source_names r) (pool_names r) r e h).from, ls, ns);
      feed_pools = λ e h. omega (arith, (arcs-between (source_names r) (pool_names r) r e h).to, ll, nl);
      out_pools = λ e h. omega (arith, (arcs-between (pool_names r) (product_names r) r e h).from, ll, nl);
      out_products = λ e h. omega (arith, (arcs-between (pool_names r) (product_names r) r e h).to, lp, np);
      direct_sources = λ e h. omega (arith, (arcs-between (source_names r) (product_names r) r e h).from, ls, ns);
      direct_products = λ e h. omega (arith, (arcs-between (source_names r) (product_names r) r e h).to, lp, np);
      source_costs = λ i h. subst (λ (s : Source). IsWithin (10 ^ 12) s.cost) (at_s i h) (s_in i h).cost;
      source_maxima = λ i h. subst (λ (s : Source). s.max ≤ 10 ^ 14) (at_s i h) (supply_within (get_or r.sources i no_source_row).max (stand_in r) (s_in i h).max up);
      source_qualities = λ i k h m. subst (λ (s : Source). IsWithin (10 ^ 11) (get_or s.quality k (pos 0))) (at_s i h)
          ((s_in i h).quality k (pos 0) (omega (arith, rect.sources i no_source_row (here_s i h), m)));
      pool_maxima = λ l h. subst (λ (p : Pool). p.max ≤ 10 ^ 14) (at_l l h) (supply_within (get_or r.pools l no_pool_row).max (stand_in r) (checked.ranges.pools l (here_l l h)).max up);
      prices = λ j h. subst (λ (p : Product). IsWithin (10 ^ 12) p.price) (at_p j h) (p_in j h).price;
      product_minima = λ j h. subst (λ (p : Product). p.min ≤ p.max) (at_p j h)
          (amounts_in_order (get_or r.products j no_product_row).min (get_or r.products j no_product_row).max (p_in j h).min.0 (checked.ranges.orderly j (here_p j h)).amount);
      product_maxima = λ j h. subst (λ (p : Product). p.max ≤ 10 ^ 12) (at_p j h) (amount_within (10 ^ 12) (get_or r.products j no_product_row).max (p_in j h).max);
      least_limits = λ j k u h m is. (p_in j h).least k None (omega (arith, rect.least j no_product_row (here_p j h), m)) u (ap (λ (p : Product). get_or p.least k None) (at_p j h) ∙ is);
      most_limits = λ j k u h m is. (p_in j h).most k None (omega (arith, rect.most j no_product_row (here_p j h), m)) u (ap (λ (p : Product). get_or p.most k None) (at_p j h) ∙ is);
      limits_in_order = λ j k a b h m low high. (checked.ranges.orderly j (here_p j h)).limits k a b
          (ap (λ (p : Product). get_or p.least k None) (at_p j h) ∙ low)
          (ap (λ (p : Product). get_or p.most k None) (at_p j h) ∙ high);
      fed = λ l h. one_of (λ a. a.to) l (network_of r).feeds (λ all. checked.faultless.inputs l (here_l l h, all));
      drained = λ l h. one_of (λ a. a.from) l (network_of r).outs (λ all. checked.faultless.outputs l (here_l l h, all));
      feed_costs = λ e h. (arcs-carried (source_names r) (pool_names r) r checked.ranges.arcs e h).cost;
      out_costs = λ e h. (arcs-carried (pool_names r) (product_names r) r checked.ranges.arcs e h).cost;
      direct_costs = λ e h. (arcs-carried (source_names r) (product_names r) r checked.ranges.arcs e h).cost;
      feed_maxima = λ e m h is. (arcs-carried (source_names r) (pool_names r) r checked.ranges.arcs e h).max m is;
      out_maxima = λ e m h is. (arcs-carried (pool_names r) (product_names r) r checked.ranges.arcs e h).max m is;
      direct_maxima = λ e m h is. (arcs-carried (source_names r) (product_names r) r checked.ranges.arcs e h).max m is;
      scale = (scale-least (removes_nothing (network_of r).pools), scale-most (removes_nothing (network_of r).pools));
      shares_retained = λ l k h m. share-most (removes_nothing (network_of r).pools) (get_or (get_or (network_of r).pools l no_pool).ratio k 1000)
          (subst (λ (p : Pool). get_or p.ratio k 1000 ≤ 1000) (at_l l h)
          (share (get_or r.pools l no_pool_row).ratio k (checked.ranges.pools l (here_l l h)).ratio (omega (arith, rect.ratio l no_pool_row (here_l l h), m))));
    }

-- the whole of what a network keeps
pub built : (r : Rows) (arcs : Arcs) → IsRectangular r → IsReady r arcs → IsLimited (net_of (network_of r)) → (index : List (List (List ℕ))) → IsIndexOf (net_of (network_of r)) index
    → (limits : Limits) → AreLimitsOf (net_of (network_of r)) limits → (scale : ℕ) → scale ≡ scale_of (network_of r).pools → IsBuilt (network_of r) (map shown_path arcs.paths.items) index limits scale
unfolding net_of
built r arcs rect checked limited index is_index limits are_set scale is_scale =
    record {
      made = record { rows = r; rectangular = rect; faultless = checked.faultless; named = refl };
      limited = limited;
      quality = λ i h. let lt : i < length r.sources = omega (arith, length-map r.sources (source_of (stand_in r)), h) in
          subst (λ (s : Source). length s.quality ≡ length r.qualities) (sym (get_or-map (source_of (stand_in r)) r.sources i no_source_row no_source lt)) (rect.sources i no_source_row lt);
      least = λ j h. let lt : j < length r.products = omega (arith, length-map r.products product_of, h) in
          subst (λ (p : Product). length p.least ≡ length r.qualities) (sym (get_or-map product_of r.products j no_product_row no_product lt)) (rect.least j no_product_row lt);
      most = λ j h. let lt : j < length r.products = omega (arith, length-map r.products product_of, h) in
          subst (λ (p : Product). length p.most ≡ length r.qualities) (sym (get_or-map product_of r.products j no_product_row no_product lt)) (rect.most j no_product_row lt);
      paths = checked.found.paths;
      few = omega (arith, ap length checked.found.paths, checked.faultless.paths);
      grouped = is_index;
      set = are_set;
      ratio = λ l h. let lt : l < length r.pools = omega (arith, length-map r.pools (pool_of (stand_in r)), h) in
          subst (λ (p : Pool). length p.ratio ≡ length r.qualities) (sym (get_or-map (pool_of (stand_in r)) r.pools l no_pool_row no_pool lt))
          (length-map (get_or r.pools l no_pool_row).ratio unsigned_abs ∙ rect.ratio l no_pool_row lt);
      scaled = is_scale;
    }

-- The canonical rows of a network are rectangular and faultless.
use Rattle.std.proofs.Common.{◌≡◌, ℕ, zero, suc, ◌+◌, ◌^◌, ◌<◌, ◌≤◌, ℤ, pos, unsigned_abs, option_map, List, [], ◌∷◌, ◌++◌, length, map, take, get_or, All, Contains, ◌⊎◌, Option, None, Some}
use Rattle.std.proofs.Common.{refl, sym, ap, subst, ◌∙◌, inl, inr, arith}
use Rattle.std.specs.Option.{ForSome}
use Rattle.std.proofs.lemmas.List.{length-map, length-append, get_or-map}
use Rattle.std.proofs.lemmas.List.Elements.{All-map, All-append, All-get_or, All-from_get_or, Contains-append_cases, Contains-get_or}
use Rattle.std.proofs.lemmas.Int.{ints}
use Rattle.integers.proofs.Elements.{Contains-map}
use Rattle.pool_model.specs.Rows.{Rows, IsRectangular}
use Rattle.pool_model.specs.Naming.{source_names, pool_names, product_names, arc_between, arcs_between, stand_in, source_of, pool_of, product_of, network_of}
use Rattle.pool_model.specs.Network as model
use Rattle.pool_model.specs.Network.{Network, net_of, IsLimited, IsWithin, no_source, no_pool, no_product, no_arc}
use Rattle.pool_model.specs.Paths.{paths_of}
use Rattle.network_parts.specs.declared.fault.Kind.{Kind}
use Rattle.network_parts.specs.declared.fault.Kind.TheVariants.{Source, Pool, Product, Quality, Arc}
use Rattle.network_parts.specs.Faults.{IsTooMany, IsBadAt, IsBadName, IsRepeatAt, IsDuplicateName, IsUnknownName, IsArcBackwards, IsPoolToPool, IsDuplicateArc}
use Rattle.network_parts.specs.Faults.{IsPoolWithoutInput, IsPoolWithoutOutput, IsOutOfRange, IsLeastAboveMost, IsUpTo, IsSourceInRange, IsPoolInRange}
use Rattle.network_parts.specs.Faults.{IsProductInRange, IsArcInRange, IsOrderly, no_source_row, no_pool_row, no_product_row, no_arc_row, row_names, names_before, node_names, row_ends, ends_of}
use Rattle.network_parts.specs.Faults.{IsFaultless}
use Rattle.blend_network.specs.Kinds.{names_of}
use Rattle.blend_network.specs.Made.{IsMade}
use Rattle.blend_network.specs.Canonical.{canonical_source, canonical_pool, canonical_product, canonical_arc, canonical_arcs, canonical_rows}
use Rattle.blend_network.proofs.CanonicalArcs.{IsOnce, all_named, all_ends, ends_named, all_once, named_ends, named, kept_there, once_kept, once_from, never_again}
use Rattle.blend_network.proofs.Ratios.{ratio-most}
use Rattle.blend_network.proofs.CanonicalRows.{sources_same, pools_same, products_same, joined, arcs_are, network_again}

-- ---- rows that are as long

pub rectangular_again : (r : Rows) → IsRectangular r → IsRectangular (canonical_rows (network_of r))
rectangular_again r rect =
    let len : model.Source → Type 0 = λ s. length s.quality ≡ length r.qualities in
    let least : model.Product → Type 0 = λ p. length p.least ≡ length r.qualities in
    let most : model.Product → Type 0 = λ p. length p.most ≡ length r.qualities in
    record {
      sources = All-map (λ s. length s.quality ≡ length r.qualities) canonical_source (network_of r).sources (All-map len (source_of (stand_in r)) r.sources rect.sources);
      least = All-map (λ p. length p.least ≡ length r.qualities) canonical_product (network_of r).products (All-map least product_of r.products rect.least);
      most = All-map (λ p. length p.most ≡ length r.qualities) canonical_product (network_of r).products (All-map most product_of r.products rect.most);
      ratio = All-map (λ p. length p.ratio ≡ length r.qualities) canonical_pool (network_of r).pools
          (All-map (λ (p : model.Pool). length (map pos p.ratio) ≡ length r.qualities) (pool_of (stand_in r)) r.pools
          (λ k d lt. length-map (map unsigned_abs (get_or r.pools k d).ratio) pos ∙ length-map (get_or r.pools k d).ratio unsigned_abs ∙ rect.ratio k d lt));
    }

-- ---- counts

three_kinds : (s p d : List (List ℕ)) (feeds outs directs : List model.Arc) → length (all_named s p d feeds outs directs) ≡ length feeds + length outs + length directs
three_kinds s p d feeds outs directs =
    let f = map (canonical_arc s p) feeds in
    let o = map (canonical_arc p d) outs in
    let x = map (canonical_arc s d) directs in
    omega (
      arith,
      length-append (f ++ o) x,
      length-append f o,
      length-map feeds (canonical_arc s p),
      length-map outs (canonical_arc p d),
      length-map directs (canonical_arc s d),
    )

not_many : (n : Network) → IsLimited (net_of n) → (kind : Kind) → ¬ IsTooMany (canonical_rows n) kind
unfolding net_of
not_many n lim Source many = omega (arith, length-map n.sources canonical_source, lim.sources, many)
not_many n lim Pool many = omega (arith, length-map n.pools canonical_pool, lim.pools, many)
not_many n lim Product many = omega (arith, length-map n.products canonical_product, lim.products, many)
not_many n lim Quality many = omega (arith, lim.qualities, many)
not_many n lim Arc many =
    omega (arith, three_kinds (names_of n Source) (names_of n Pool) (names_of n Product) n.feeds n.outs n.directs, lim.arcs, many)

-- ---- numbers

up_to : (z size : ℕ) → z ≤ size → IsUpTo size (pos z)
up_to z size h = (omega (arith, ints), omega (arith, ints, h))

some_up_to : (z size : ℕ) → z ≤ size → ForSome (Some (pos z)) (IsUpTo size)
some_up_to z size h q e =
    let same : pos z ≡ q = cc in
    subst (IsUpTo size) same (up_to z size h)

some_limit : (limits : List (Option ℤ)) (k : ℕ) (a : ℤ) → get_or limits k None ≡ Some a → k < length limits
some_limit [] k a e = absurd cc
some_limit (u ∷ limits) zero a e = omega arith
some_limit (u ∷ limits) (suc k) a e = omega (arith, some_limit limits k a e)

pub held : {X Y : Type 0} (P : Y → Type 0) (f : X → Y) (xs : List X) (d : X) → All P (map f xs) → (i : ℕ) → i < length xs → P (f (get_or xs i d))
held P f xs d all i h = subst P (get_or-map f xs i d (f d) h) (all i (f d) (omega (arith, length-map xs f, h)))

-- the numbers of each row are in their ranges, where those of the network are
module _ (n : Network) (lim : IsLimited (net_of n)) (rect : IsRectangular (canonical_rows n)) where
  pub source_in : (i : ℕ) → i < length n.sources → IsSourceInRange (canonical_source (get_or n.sources i no_source))
  unfolding net_of
  source_in i h =
      let qs = (get_or n.sources i no_source).quality in
      let len : length (get_or n.sources i no_source).quality ≡ length n.qualities = held (λ s. length s.quality ≡ length n.qualities) canonical_source n.sources no_source rect.sources i h in
      record {
        cost = lim.source_costs i h;
        max = some_up_to (get_or n.sources i no_source).max (10 ^ 14) (lim.source_maxima i h);
        quality = All-from_get_or (IsWithin (10 ^ 11)) qs (pos 0) (λ k m. lim.source_qualities i k h (omega (arith, m, len)));
      }

  pub pool_in : (l : ℕ) → l < length n.pools → IsPoolInRange (canonical_pool (get_or n.pools l no_pool))
  unfolding net_of
  pool_in l h =
      let rs = (get_or n.pools l no_pool).ratio in
      let len : length (map pos (get_or n.pools l no_pool).ratio) ≡ length n.qualities = held (λ p. length p.ratio ≡ length n.qualities) canonical_pool n.pools no_pool rect.ratio l h in
      record {
        max = some_up_to (get_or n.pools l no_pool).max (10 ^ 14) (lim.pool_maxima l h);
        ratio = All-map (IsUpTo 1000) pos rs (All-from_get_or (λ r. IsUpTo 1000 (pos r)) rs 1000
            (λ k m. up_to (get_or rs k 1000) 1000 (ratio-most n lim l k h (omega (arith, m, len, length-map rs pos)))));
      }

  all_carried : (froms tos : List (List ℕ)) (arcs : List model.Arc) → ((e : ℕ) → e < length arcs → IsWithin (10 ^ 12) (get_or arcs e no_arc).cost)
      → ((e m : ℕ) → e < length arcs → (get_or arcs e no_arc).max ≡ Some m → m ≤ 10 ^ 14) → All IsArcInRange (map (canonical_arc froms tos) arcs)
  all_carried froms tos arcs costs maxima =
      All-map IsArcInRange (canonical_arc froms tos) arcs
      (All-from_get_or (λ a. IsArcInRange (canonical_arc froms tos a)) arcs no_arc (λ e h. record { cost = costs e h; max = maximum (get_or arcs e no_arc).max (λ m is. maxima e m h is) }))
    where
      maximum : (o : Option ℕ) → ((m : ℕ) → o ≡ Some m → m ≤ 10 ^ 14) → ForSome (option_map pos o) (IsUpTo (10 ^ 14))
      maximum None h = λ q e. absurd cc
      maximum (Some m) h = some_up_to m (10 ^ 14) (h m refl)

  pub arcs_in : All IsArcInRange (canonical_arcs n)
  unfolding net_of
  arcs_in =
      let s = names_of n Source in
      let p = names_of n Pool in
      let d = names_of n Product in
      All-append IsArcInRange (map (canonical_arc s p) n.feeds ++ map (canonical_arc p d) n.outs) (map (canonical_arc s d) n.directs)
      (All-append IsArcInRange (map (canonical_arc s p) n.feeds) (map (canonical_arc p d) n.outs)
      (all_carried s p n.feeds lim.feed_costs lim.feed_maxima) (all_carried p d n.outs lim.out_costs lim.out_maxima)) (all_carried s d n.directs lim.direct_costs lim.direct_maxima)

  pub product_in : (j : ℕ) → j < length n.products → IsProductInRange (canonical_product (get_or n.products j no_product))
  unfolding net_of
  product_in j h =
      let p = get_or n.products j no_product in
      let least : length (get_or n.products j no_product).least ≡ length n.qualities = held (λ x. length x.least ≡ length n.qualities) canonical_product n.products no_product rect.least j h in
      let most : length (get_or n.products j no_product).most ≡ length n.qualities = held (λ x. length x.most ≡ length n.qualities) canonical_product n.products no_product rect.most j h in
      let max = lim.product_maxima j h in
      record {
        price = lim.prices j h;
        min = up_to p.min (10 ^ 12) (omega (arith, lim.product_minima j h, max));
        max = up_to p.max (10 ^ 12) max;
        least = All-from_get_or (λ u. ForSome u (IsWithin (10 ^ 11))) p.least None (λ k m u e. lim.least_limits j k u h (omega (arith, m, least)) e);
        most = All-from_get_or (λ u. ForSome u (IsWithin (10 ^ 11))) p.most None (λ k m u e. lim.most_limits j k u h (omega (arith, m, most)) e);
      }

  product_orderly : (j : ℕ) → j < length n.products → IsOrderly (canonical_product (get_or n.products j no_product))
  unfolding net_of
  product_orderly j h =
      let p = get_or n.products j no_product in
      let least : length (get_or n.products j no_product).least ≡ length n.qualities = held (λ x. length x.least ≡ length n.qualities) canonical_product n.products no_product rect.least j h in
      record {
        amount = omega (arith, ints, lim.product_minima j h);
        limits = λ k a b ea eb. lim.limits_in_order j k a b h (omega (arith, some_limit p.least k a ea, least)) ea eb;
      }

  rows_in : {X Y : Type 0} (P : Y → Type 0) (f : X → Y) (xs : List X) (d : X) (e : Y) → ((i : ℕ) → i < length xs → P (f (get_or xs i d))) → (i : ℕ) → i < length (map f xs) → P (get_or (map f xs) i e)
  rows_in P f xs d e h i within =
      let there : i < length xs = omega (arith, length-map xs f, within) in
      subst P (sym (get_or-map f xs i d e there)) (h i there)

  not_outside : (kind : Kind) (i : ℕ) → ¬ IsOutOfRange (canonical_rows n) kind i
  not_outside Source i bad = bad.1 (rows_in IsSourceInRange canonical_source n.sources no_source no_source_row source_in i bad.0)
  not_outside Pool i bad = bad.1 (rows_in IsPoolInRange canonical_pool n.pools no_pool no_pool_row pool_in i bad.0)
  not_outside Product i bad = bad.1 (rows_in IsProductInRange canonical_product n.products no_product no_product_row product_in i bad.0)
  not_outside Quality i bad = bad
  not_outside Arc i bad = bad.1 (All-get_or IsArcInRange (canonical_arcs n) i no_arc_row bad.0 arcs_in)

  not_disorderly : (i : ℕ) → ¬ IsLeastAboveMost (canonical_rows n) i
  not_disorderly i bad = bad.1 (rows_in IsOrderly canonical_product n.products no_product no_product_row product_orderly i bad.0)

-- ---- names and arcs

module _ (r : Rows) (ok : IsFaultless r) where
  names_same : (kind : Kind) → row_names (canonical_rows (network_of r)) kind ≡ row_names r kind
  names_same Source = sources_same r ok
  names_same Pool = pools_same r ok
  names_same Product = products_same r ok
  names_same Quality = refl
  names_same Arc = refl

  before_same : (kind : Kind) → names_before (canonical_rows (network_of r)) kind ≡ names_before r kind
  before_same Source = refl
  before_same Pool = sources_same r ok
  before_same Product = ap (λ s. s ++ pool_names (canonical_rows (network_of r))) (sources_same r ok) ∙ ap (λ p. source_names r ++ p) (pools_same r ok)
  before_same Quality = refl
  before_same Arc = refl

  nodes_same : node_names (canonical_rows (network_of r)) ≡ node_names r
  nodes_same =
      ap (λ b. b ++ product_names (canonical_rows (network_of r))) (before_same Product) ∙ ap (λ d. source_names r ++ pool_names r ++ d) (products_same r ok)

  not_bad : (kind : Kind) (i : ℕ) → ¬ IsBadName (canonical_rows (network_of r)) kind i
  not_bad kind i = subst (λ names. ¬ IsBadAt names i) (sym (names_same kind)) (ok.names kind i)

  not_twice : (kind : Kind) (i : ℕ) → ¬ IsDuplicateName (canonical_rows (network_of r)) kind i
  not_twice kind i =
      subst (λ names. ¬ IsRepeatAt (names_before (canonical_rows (network_of r)) kind) names i) (sym (names_same kind))
      (subst (λ before. ¬ IsRepeatAt before (row_names r kind) i) (sym (before_same kind)) (ok.distinct kind i))

  -- the names of the ends of the canonical arcs
  ends_are : map row_ends (canonical_arcs (network_of r)) ≡ all_ends (source_names r) (pool_names r) (product_names r) (network_of r).feeds (network_of r).outs (network_of r).directs
  ends_are = ap (map row_ends) (arcs_are r ok) ∙ ends_named (source_names r) (pool_names r) (product_names r) (network_of r).feeds (network_of r).outs (network_of r).directs

  -- each arc joins what one of the file does
  from_file : (x : List ℕ × List ℕ) → Contains (map row_ends (canonical_arcs (network_of r))) x → Contains (map row_ends r.arcs) x
  from_file x there =
      let s = source_names r in
      let p = pool_names r in
      let d = product_names r in
      let n = network_of r in
      let f = map (named_ends s p) n.feeds in
      let o = map (named_ends p d) n.outs in
      elim (Contains-append_cases (f ++ o) (map (named_ends s d) n.directs) x (subst (λ arcs. Contains arcs x) ends_are there)) [
        | inl c ↦ elim (Contains-append_cases f o x c) [
          | inl a ↦ kept_there (arc_between s p) (named_ends s p) row_ends (named s p) r.arcs x a
          | inr a ↦ kept_there (arc_between p d) (named_ends p d) row_ends (named p d) r.arcs x a
        ]
        | inr a ↦ kept_there (arc_between s d) (named_ends s d) row_ends (named s d) r.arcs x a
      ]

  -- what holds of the ends of no arc of the file holds of none here
  none_here : (P : List ℕ × List ℕ → Type 0) → ((m : ℕ) → m < length r.arcs → ¬ P (ends_of r m)) → (i : ℕ)
      → i < length (canonical_arcs (network_of r)) → ¬ P (ends_of (canonical_rows (network_of r)) i)
  none_here P none i h bad =
      let x = ends_of (canonical_rows (network_of r)) i in
      let arcs = canonical_arcs (network_of r) in
      let at = from_file x (Contains-map row_ends arcs (get_or arcs i no_arc_row) (Contains-get_or arcs i no_arc_row h)) in
      let within : at.0 < length r.arcs = omega (arith, at.1, length-map r.arcs row_ends) in
      none at.0 within (subst P (sym (sym (get_or-map row_ends r.arcs at.0 no_arc_row x within) ∙ at.2)) bad)

  not_unknown : (i : ℕ) → ¬ IsUnknownName (canonical_rows (network_of r)) i
  not_unknown i bad =
      none_here (λ e. (¬ Contains (node_names r) e.0) ⊎ (¬ Contains (node_names r) e.1)) (λ m h u. ok.known m (h, u)) i bad.0
      (subst (λ names. (¬ Contains names (ends_of (canonical_rows (network_of r)) i).0) ⊎ (¬ Contains names (ends_of (canonical_rows (network_of r)) i).1)) nodes_same bad.1)

  not_backwards : (i : ℕ) → ¬ IsArcBackwards (canonical_rows (network_of r)) i
  not_backwards i bad =
      none_here (λ e. Contains (product_names r) e.0 ⊎ Contains (source_names r) e.1) (λ m h b. ok.forward m (h, b)) i bad.0
      (subst (λ names. Contains names (ends_of (canonical_rows (network_of r)) i).0 ⊎ Contains (source_names r) (ends_of (canonical_rows (network_of r)) i).1) (products_same r ok)
      (subst (λ names. Contains (product_names (canonical_rows (network_of r)))
      (ends_of (canonical_rows (network_of r)) i).0 ⊎ Contains names (ends_of (canonical_rows (network_of r)) i).1)
      (sources_same r ok) bad.1))

  not_between_pools : (i : ℕ) → ¬ IsPoolToPool (canonical_rows (network_of r)) i
  not_between_pools i bad =
      none_here (λ e. Contains (pool_names r) e.0 × Contains (pool_names r) e.1) (λ m h b. ok.single m (h, b.0, b.1)) i bad.0
      (subst (λ names. Contains names (ends_of (canonical_rows (network_of r)) i).0 × Contains names (ends_of (canonical_rows (network_of r)) i).1) (pools_same r ok) (bad.1, bad.2))

  kind_once : (froms tos : List (List ℕ)) → IsOnce (map row_ends r.arcs) → IsOnce (map (named_ends froms tos) (arcs_between froms tos r))
  kind_once froms tos once = once_kept (arc_between froms tos) (named_ends froms tos) row_ends (named froms tos) r.arcs once

  not_repeated : (i : ℕ) → ¬ IsDuplicateArc (canonical_rows (network_of r)) i
  not_repeated i bad =
      let s = source_names r in
      let p = pool_names r in
      let d = product_names r in
      let n = network_of r in
      let arcs = canonical_arcs (network_of r) in
      let once = once_from ([], []) (map row_ends r.arcs) (λ m h c.
      let within : m < length r.arcs = omega (arith, h, length-map r.arcs row_ends) in
      ok.once m (within, subst (Contains (take m (map row_ends r.arcs))) (get_or-map row_ends r.arcs m no_arc_row ([], []) within) c)) in
      let all = all_once s p d n.feeds n.outs n.directs (joined r ok) (kind_once s p once) (kind_once p d once) (kind_once s d once) in
      never_again ([], []) (map row_ends arcs) (subst IsOnce (sym ends_are) all) i (omega (arith, bad.0, length-map arcs row_ends))
      (subst (Contains (take i (map row_ends arcs))) (sym (get_or-map row_ends arcs i no_arc_row ([], []) bad.0)) bad.1)

  -- ---- pools and paths

  not_without_input : IsLimited (net_of (network_of r)) → (l : ℕ) → ¬ IsPoolWithoutInput (canonical_rows (network_of r)) l
  unfolding net_of
  not_without_input lim l bad =
      let fed = lim.fed l (omega (arith, bad.0, length-map (network_of r).pools canonical_pool)) in
      let none = subst (λ m. All (λ a. ¬ (a.to ≡ l)) m.feeds) (network_again r ok) bad.1 in
      none fed.0 no_arc fed.1 fed.2

  not_without_output : IsLimited (net_of (network_of r)) → (l : ℕ) → ¬ IsPoolWithoutOutput (canonical_rows (network_of r)) l
  unfolding net_of
  not_without_output lim l bad =
      let drained = lim.drained l (omega (arith, bad.0, length-map (network_of r).pools canonical_pool)) in
      let none = subst (λ m. All (λ a. ¬ (a.from ≡ l)) m.outs) (network_again r ok) bad.1 in
      none drained.0 no_arc drained.1 drained.2

  pub faultless_again : IsRectangular r → IsLimited (net_of (network_of r)) → IsFaultless (canonical_rows (network_of r))
  faultless_again rect lim =
      let again = rectangular_again r rect in
      record {
        counts = not_many (network_of r) lim;
        names = not_bad;
        distinct = not_twice;
        known = not_unknown;
        forward = not_backwards;
        single = not_between_pools;
        once = not_repeated;
        inputs = not_without_input lim;
        outputs = not_without_output lim;
        paths = subst (λ m. ¬ (512 < length (paths_of (net_of m)))) (sym (network_again r ok)) ok.paths;
        ranges = not_outside (network_of r) lim again;
        orderly = not_disorderly (network_of r) lim again;
      }

-- ---- of every network that was made

pub canonical_network : (n : Network) → IsMade n → network_of (canonical_rows n) ≡ n
canonical_network n made = subst (λ m. network_of (canonical_rows m) ≡ m) (sym made.named) (network_again made.rows made.faultless)

pub canonical_rectangular : (n : Network) → IsMade n → IsRectangular (canonical_rows n)
canonical_rectangular n made = subst (λ m. IsRectangular (canonical_rows m)) (sym made.named) (rectangular_again made.rows made.rectangular)

pub canonical_faultless : (n : Network) → IsMade n → IsLimited (net_of n) → IsFaultless (canonical_rows n)
canonical_faultless n made lim =
    subst (λ m. IsFaultless (canonical_rows m)) (sym made.named) (faultless_again made.rows made.faultless made.rectangular (subst (λ m. IsLimited (net_of m)) made.named lim))

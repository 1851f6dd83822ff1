-- The canonical text of a network is short, and is read as the network.
use Rattle.std.proofs.Common.{◌≡◌, ◌≢◌, ℕ, ℤ, pos, ◌^◌, ◌≤◌, ◌<◌, Bool, true, false, if◌then◌else◌, List, [], ◌∷◌, length, map, get_or, Option, Some, None, Ok, refl, sym, ap, subst, ◌∙◌, arith, unsigned_abs}
use Rattle.std.specs.Option.{ForSome}
use Rattle.std.specs.Str.{IsUtf8}
use Rattle.std.specs.List.{AllByRecursion}
use Rattle.std.proofs.lemmas.Bool.{le-ltb}
use Rattle.std.proofs.lemmas.Int.{ints}
use Rattle.std.proofs.lemmas.List.{get_or_default}
use Rattle.std.proofs.lemmas.List.Elements.{All-from_get_or, All-from_recursion, recursion_from_All}
use Rattle.serde_json.specs.Data.{Data, depth}
use Rattle.serde_json.specs.Read.{read}
use Rattle.serde_json.specs.Written.{compact_text, has_float}
use Rattle.pool_model.specs.Rows.{ArcRow}
use Rattle.pool_model.specs.Plain.{is_plain}
use Rattle.pool_model.specs.Network.{Source, Pool, Product, Network, net_of, IsLimited, IsWithin, no_source, no_pool, no_product}
use Rattle.network_parts.specs.declared.fault.Kind.TheVariants.{Quality, Arc}
use Rattle.network_parts.specs.Faults.{IsUpTo, AreLimits, IsSourceInRange, IsPoolInRange, IsProductInRange, IsArcInRange}
use Rattle.blend_network.specs.Made.{IsMade}
use Rattle.blend_network.specs.Canonical.{canonical_source, canonical_pool, canonical_product, canonical_arcs, canonical_rows}
use Rattle.blend_network.proofs.CanonicalArcs.{IsOnce, once_from}
use Rattle.blend_network.proofs.CanonicalFaults.{canonical_network, canonical_faultless}
use Rattle.blend_network.proofs.CanonicalSizes.{IsShort, AreShortEnds, qualities_short, sources_short, pools_short, products_short, arcs_short, sources_in, pools_in, products_in, carriage_in}
use Rattle.network_json.specs.Format.{rows_in}
use Rattle.network_json.specs.Reading.{ReadAs}
use Rattle.json_walk.specs.declared.version.Version.{Version}
use Rattle.json_walk.specs.declared.version.Version.TheVariants.{One, Two}
use Rattle.network_text.specs.Canonical.{version_of, network_data, canonical_text}
use Rattle.network_json.proofs.Bytes.{value_found}
use Rattle.network_text.proofs.WrittenReads.{written_read}
use Rattle.network_values.proofs.Lengths.{quality_each, least_each, most_each, ratio_each}
use Rattle.network_text.proofs.CanonicalReads.{IsRead, IsSetRead, AreDistinct, IsSourceRead, IsRatioSaid, IsPoolRead, IsProductRead, IsPriced, IsArcRead, IsAllRead, each_by, network_read}
use Rattle.network_text.proofs.CanonicalPlain.{plain_ratios, plain_arcs}
use Rattle.network_text.proofs.CanonicalSize.{IsNarrow, IsSetNarrow, IsShare, IsSourceShort, IsPoolShort, IsProductShort, IsArcShort, IsAllShort, IsSmall, network_small}

-- ---- numbers in range

within_size : (size : ℕ) (q : ℤ) → IsWithin size q → unsigned_abs q ≤ size
within_size size q h = omega (arith, ints, h.0, h.1)

-- a quantity of at most so many millionths is read, and is narrow
within_read : (size : ℕ) (q : ℤ) → IsWithin size q → size ≤ 10 ^ 14 → IsRead q
within_read size q h few = written_read q (omega (arith, within_size size q h, few))

within_narrow : (size : ℕ) (q : ℤ) → IsWithin size q → size ≤ 10 ^ 14 → IsNarrow q
within_narrow size q h few = omega (arith, within_size size q h, few)

amount_size : (size n : ℕ) → IsUpTo size (pos n) → n ≤ size
amount_size size n h = omega (arith, ints, h.1)

amount_read : (n : ℕ) → n ≤ 10 ^ 14 → IsRead (pos n)
amount_read n h = written_read (pos n) (omega (arith, h))

maximum_size : (n : ℕ) → ForSome (Some (pos n)) (IsUpTo (10 ^ 14)) → n ≤ 10 ^ 14
maximum_size n h = amount_size (10 ^ 14) n (h (pos n) refl)

up_to_within : (size : ℕ) (q : ℤ) → IsUpTo size q → IsWithin size q
up_to_within size q h = (omega (arith, ints, h.0), h.1)

limit_read : (u : Option ℤ) → ForSome u (IsWithin (10 ^ 11)) → IsSetRead u
limit_read None h = tt
limit_read (Some q) h = within_read (10 ^ 11) q (h q refl) (omega arith)

limit_narrow : (u : Option ℤ) → ForSome u (IsWithin (10 ^ 11)) → IsSetNarrow u
limit_narrow None h = tt
limit_narrow (Some q) h = within_narrow (10 ^ 11) q (h q refl) (omega arith)

limits_read : (limits : List (Option ℤ)) → AreLimits limits → AllByRecursion IsSetRead limits
limits_read limits h = recursion_from_All IsSetRead limits (λ k d m. limit_read (get_or limits k d) (h k d m))

limits_narrow : (limits : List (Option ℤ)) → AreLimits limits → AllByRecursion IsSetNarrow limits
limits_narrow limits h = recursion_from_All IsSetNarrow limits (λ k d m. limit_narrow (get_or limits k d) (h k d m))

set_narrow : (qs : List ℤ) → AllByRecursion (IsWithin (10 ^ 11)) qs → AllByRecursion IsSetNarrow (map Some qs)
set_narrow [] h = tt
set_narrow (q ∷ qs) h = (within_narrow (10 ^ 11) q h.0 (omega arith), set_narrow qs h.1)

maximum_read : (u : Option ℤ) → ForSome u (IsUpTo (10 ^ 14)) → IsSetRead u
maximum_read None h = tt
maximum_read (Some q) h = within_read (10 ^ 14) q (up_to_within (10 ^ 14) q (h q refl)) (omega arith)

maximum_narrow : (u : Option ℤ) → ForSome u (IsUpTo (10 ^ 14)) → IsSetNarrow u
maximum_narrow None h = tt
maximum_narrow (Some q) h = within_narrow (10 ^ 14) q (up_to_within (10 ^ 14) q (h q refl)) (omega arith)

shares : (rs : List ℕ) → AllByRecursion (IsUpTo 1000) (map pos rs) → AllByRecursion IsShare rs
shares [] h = tt
shares (r ∷ rs) h = (amount_size 1000 r h.0, shares rs h.1)

-- ---- rows in range

source_read : (names : List (List ℕ)) (s : Source) → IsSourceInRange (canonical_source s) → length s.quality ≡ length names → IsSourceRead names s
source_read names s is len = record {
  cost = within_read (10 ^ 12) s.cost is.cost (omega arith);
  max = amount_read s.max (maximum_size s.max is.max);
  one_each = len;
  quality = recursion_from_All IsRead s.quality (λ k d m. within_read (10 ^ 11) (get_or s.quality k d) (is.quality k d m) (omega arith));
}

source_short : (s : Source) → IsSourceInRange (canonical_source s) → IsShort s.name → IsSourceShort s
source_short s is short = record {
  name = short;
  cost = within_narrow (10 ^ 12) s.cost is.cost (omega arith);
  max = maximum_size s.max is.max;
  quality = set_narrow s.quality (recursion_from_All (IsWithin (10 ^ 11)) s.quality is.quality);
}

pool_short : (p : Pool) → IsPoolInRange (canonical_pool p) → IsShort p.name → IsPoolShort p
pool_short p is short = record {
  name = short;
  max = maximum_size p.max is.max;
  ratio = shares p.ratio (recursion_from_All (IsUpTo 1000) (map pos p.ratio) is.ratio);
}

product_read : (names : List (List ℕ)) (p : Product) → IsProductInRange (canonical_product p) → length p.least ≡ length names → length p.most ≡ length names → IsProductRead names p
product_read names p is least most = record {
  price = within_read (10 ^ 12) p.price is.price (omega arith);
  min = amount_read p.min (omega (arith, amount_size (10 ^ 12) p.min is.min));
  max = amount_read p.max (omega (arith, amount_size (10 ^ 12) p.max is.max));
  least_each = least;
  least = limits_read p.least is.least;
  most_each = most;
  most = limits_read p.most is.most;
}

product_short : (p : Product) → IsProductInRange (canonical_product p) → IsShort p.name → IsProductShort p
product_short p is short = record {
  name = short;
  price = within_narrow (10 ^ 12) p.price is.price (omega arith);
  min = omega (arith, amount_size (10 ^ 12) p.min is.min);
  max = omega (arith, amount_size (10 ^ 12) p.max is.max);
  least = limits_narrow p.least is.least;
  most = limits_narrow p.most is.most;
}

priced_read : (a : ArcRow) → IsArcInRange a → IsPriced a
priced_read a is = record { cost = within_read (10 ^ 12) a.cost is.cost (omega arith); max = maximum_read a.max is.max }

arc_short : (a : ArcRow) → IsArcInRange a → AreShortEnds a → IsArcShort a
arc_short a is short = record {
  from = short.from;
  to = short.to;
  cost = within_narrow (10 ^ 12) a.cost is.cost (omega arith);
  max = maximum_narrow a.max is.max;
}

-- ---- a network that was made

distinct_once : (names : List (List ℕ)) → IsOnce names → AreDistinct names
distinct_once [] h = tt
distinct_once (n ∷ ns) h = (recursion_from_All (λ m. m ≢ n) ns (λ k d m e. h.0 (k, m, get_or_default ns k n d m ∙ e)), distinct_once ns h.1)

module _ (n : Network) (made : IsMade n) (lim : IsLimited (net_of n)) where
  distinct : AreDistinct n.qualities
  distinct =
      subst AreDistinct (sym (ap (λ m. m.qualities) made.named))
      (distinct_once made.rows.qualities (once_from [] made.rows.qualities (λ m h c. made.faultless.distinct Quality m (h, c))))

  ratio_lengths : AllByRecursion (λ p. length p.ratio ≡ length n.qualities) n.pools
  ratio_lengths =
      let each = All-from_get_or (λ p. length p.ratio ≡ length n.qualities) n.pools no_pool (ratio_each n made) in
      recursion_from_All (λ p. length p.ratio ≡ length n.qualities) n.pools each

  -- whether the network is plain decides what its text says of ratios and arcs
  ratios_said : (plain : Bool) → is_plain n ≡ plain → AllByRecursion (λ p. IsRatioSaid (if plain then One else Two) n.qualities p.ratio) n.pools
  ratios_said true is = plain_ratios n is ratio_lengths
  ratios_said false is = ratio_lengths

  arcs_read : (plain : Bool) → is_plain n ≡ plain → AllByRecursion (IsArcRead (if plain then One else Two)) (canonical_arcs n)
  arcs_read true is = plain_arcs n is
  arcs_read false is = recursion_from_All IsPriced (canonical_arcs n) (λ e d h. priced_read (get_or (canonical_arcs n) e d) (carriage_in n made lim e d h))

  pools_read : AllByRecursion (IsPoolRead (version_of n) n.qualities) n.pools
  pools_read = recursion_from_All (IsPoolRead (version_of n) n.qualities) n.pools (λ l d h. record {
    max = amount_read (get_or n.pools l d).max (maximum_size (get_or n.pools l d).max (pools_in n made lim l d h).max);
    ratio = All-from_recursion (λ p. IsRatioSaid (version_of n) n.qualities p.ratio) n.pools (ratios_said (is_plain n) refl) l d h;
  })

  all_read : IsAllRead (version_of n) n
  all_read =
      let quality = All-from_get_or (λ s. length s.quality ≡ length n.qualities) n.sources no_source (quality_each n made) in
      let least = All-from_get_or (λ p. length p.least ≡ length n.qualities) n.products no_product (least_each n made) in
      let most = All-from_get_or (λ p. length p.most ≡ length n.qualities) n.products no_product (most_each n made) in
      record {
        distinct = distinct;
        sources = recursion_from_All (IsSourceRead n.qualities) n.sources (λ i d h. source_read n.qualities (get_or n.sources i d) (sources_in n made lim i d h) (quality i d h));
        pools = pools_read;
        products = recursion_from_All (IsProductRead n.qualities) n.products (λ j d h. product_read n.qualities (get_or n.products j d) (products_in n made lim j d h) (least j d h) (most j d h));
        arcs = arcs_read (is_plain n) refl;
      }

  all_short : IsAllShort n
  unfolding net_of
  all_short =
      let few_arcs : 256 < length (canonical_arcs n) → ⊥ = (canonical_faultless n made lim).counts Arc in
      record {
        few_qualities = lim.qualities;
        few_sources = lim.sources;
        few_pools = lim.pools;
        few_products = lim.products;
        few_arcs = omega arith;
        qualities = recursion_from_All IsShort n.qualities (qualities_short n made lim);
        sources = recursion_from_All IsSourceShort n.sources (λ i d h. source_short (get_or n.sources i d) (sources_in n made lim i d h) (sources_short n made lim i d h));
        pools = recursion_from_All IsPoolShort n.pools (λ l d h. pool_short (get_or n.pools l d) (pools_in n made lim l d h) (pools_short n made lim l d h));
        products = recursion_from_All IsProductShort n.products (λ j d h. product_short (get_or n.products j d) (products_in n made lim j d h) (products_short n made lim j d h));
        arcs = recursion_from_All IsArcShort (canonical_arcs n) (λ e d h. arc_short (get_or (canonical_arcs n) e d) (carriage_in n made lim e d h) (arcs_short n made lim e d h));
      }

  small : IsSmall 4 1048576 (network_data n)
  small = network_small (version_of n) n all_short

  -- ---- what is written

  text_read : (bytes : List ℕ) → IsUtf8 bytes → read bytes ≡ Some (network_data n) → length bytes ≤ 1048576 → rows_in bytes ≡ Ok (canonical_rows n)
  unfolding rows_in
  text_read bytes utf8 found few =
      let short : length bytes ≤ 4194304 = omega (arith, few) in
      rw (le-ltb 4194304 (length bytes) short, value_found bytes (network_data n) (utf8, found)) (network_read (version_of n) n all_read)

  -- what is written of the network's value
  module _ (bytes : List ℕ) (d : Data) (is : d ≡ network_data n) (text : has_float d ≡ false → bytes ≡ compact_text d) where
    pub text_is : bytes ≡ canonical_text n
    unfolding canonical_text
    text_is = (rw is at text) small.whole

    pub short_is : length bytes ≤ 1048576
    short_is = rw ((rw is at text) small.whole) small.short

    pub read_is : IsUtf8 bytes → (depth d ≤ 127 → read bytes ≡ Some d) → ReadAs bytes n
    read_is utf8 back =
        let shallow : depth (network_data n) ≤ 127 = omega (arith, small.shallow) in
        record {
          rows = canonical_rows n;
          read = text_read bytes utf8 ((rw is at back) shallow) short_is;
          faultless = canonical_faultless n made lim;
          named = sym (canonical_network n made);
        }

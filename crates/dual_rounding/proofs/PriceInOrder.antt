-- The price proof is in order in each proper box.
use Rattle.std.proofs.Common.{◌≡◌, ◌≢◌, ℕ, zero, suc, ◌+◌, ◌-◌, ◌*◌, ◌^◌, ◌<◌, ◌≤◌, max, min, nat_lt, Bool, true, false, if◌then◌else◌, Some, None, ◌==◌}
use Rattle.std.proofs.Common.{Option, List, [], ◌∷◌, ◌++◌, length, All, ℤ, pos, neg_ℤ, ◌+ℤ◌, ◌-ℤ◌, unsigned_abs, ◌⊎◌, inl, inr, arith, refl, sym, ap, subst, ◌∙◌}
use Rattle.std.specs.Prelude.{filter}
use Rattle.std.specs.List.{sum_by, flat_map, AllPairs}
use Rattle.std.proofs.Math.Nat.{mul-le-mul_left, mul-le-mul_right}
use Rattle.std.proofs.lemmas.Int.{ints}
use Rattle.std.proofs.lemmas.Bool.Decides.{nat_tests}
use Rattle.std.proofs.lemmas.List.{length-map, length-append}
use Rattle.std.proofs.lemmas.List.Elements.{All-filter, All-weaker, All-head, All-tail, filter_passes}
use Rattle.std.proofs.lemmas.List.Kept.{AllPairs-filter}
use Rattle.std.proofs.lemmas.List.Sums.{sum_by-cons}
use Rattle.integers.specs.Numbers.{tabulate, numbers_at}
use Rattle.integers.specs.Sums.{sum_below}
use Rattle.integers.proofs.ByNode.{sum_below-most}
use Rattle.integers.proofs.Tabulate.{length-tabulate, get_or-tabulate, All-tabulate}
use Rattle.pool_model.specs.Network.{Net, IsLimited, IsWithin, capped, feed_delivered, direct_delivered}
use Rattle.pool_model.proofs.Capped.{capped-le}
use Rattle.pool_model.specs.Starting.{pool_cost}
use Rattle.pool_model.specs.Paths.{Path, feed_paths, pool_paths, paths_below}
use Rattle.row_model.specs.Boxes.{Box, IsProper, root, flow_number}
use Rattle.row_model.specs.Variables.{PerVariable, none, variables, path_count, by_number, costs, lows, highs}
use Rattle.row_model.specs.Catalogue.{Row, rows, row_at, network_families, p_families, q_families, pq_families, balance_row}
use Rattle.row_model.specs.Multipliers.{Part, IsInOrder, IsRising, IsSigned, weight, rest_weight, constant_weight, coef}
use Rattle.row_model.proofs.Numbering.{by_number-each}
use Rattle.row_model.proofs.Families.{row_count-append, row_in-front}
use Rattle.row_book.proofs.NearEnds.{within, few_least, few_unwrapped, few_if, ends-near}
use Rattle.row_book.proofs.NetworkRows.{at_balance}
use Rattle.dual_rounding.specs.Price.{is_nonzero, pool_price, price_part, price_proof}

-- ---- the rows

pub balance-known : (n : Net) (l : ℕ) → l < n.pools → n.sources + l < rows n
balance-known n l lt = omega (arith, row_count-append (network_families n) (p_families n (root n) ++ (q_families n (root n) ++ pq_families n)))

balance-at : (n : Net) (b : Box) (l : ℕ) → l < n.pools → row_at n b (n.sources + l) ≡ balance_row n l
balance-at n b l lt =
    row_in-front (network_families n) (p_families n b ++ (q_families n b ++ pq_families n)) (n.sources + l) (omega arith)
    ∙ at_balance n (n.sources + l) (omega arith) (omega arith)
    ∙ ap (balance_row n) (back n.sources l)
  where
    back : (s l : ℕ) → s + l - s ≡ l
    back s l = omega arith

-- ---- parts in order

known : (n : Net) → All (λ q. q.row < rows n) (price_proof n).parts
known n = All-filter is_nonzero (λ q. q.row < rows n) (tabulate (price_part n) n.pools)
    (All-tabulate (λ (q : Part). q.row < rows n) (price_part n) n.pools (λ l lt. balance-known n l lt))

signed : (n : Net) (b : Box) → All (λ q. IsSigned (row_at n b q.row).kind q.mult) (price_proof n).parts
signed n b = All-filter is_nonzero (λ q. IsSigned (row_at n b q.row).kind q.mult) (tabulate (price_part n) n.pools)
    (All-tabulate (λ (q : Part). IsSigned (row_at n b q.row).kind q.mult) (price_part n) n.pools
    (λ l lt. subst (λ (r : Row). IsSigned r.kind (pool_price n l)) (sym (balance-at n b l lt)) tt))

not_zero : (m : ℤ) → nat_lt 0 (unsigned_abs m) ≡ true → m ≢ pos 0
not_zero m h e = absurd (above (unsigned_abs m) h (ap unsigned_abs e))
  where
    above : (k : ℕ) → nat_lt 0 k ≡ true → k ≡ 0 → ⊥
    above k h e = let lt : 0 < k = grind (arith, nat_tests) in omega arith

nonzero-all : (n : Net) → All (λ q. q.mult ≢ pos 0) (price_proof n).parts
nonzero-all n = All-weaker (λ q. is_nonzero q ≡ true) (λ q. q.mult ≢ pos 0) (λ q h. not_zero q.mult h) (price_proof n).parts
    (filter_passes is_nonzero (tabulate (price_part n) n.pools))

rising : (n : Net) → IsRising (price_proof n).parts
rising n i j lt in' = pairs i j record { row = 0; mult = pos 0 } lt in'
  where
    each : AllPairs (λ p q. p.row < q.row) (tabulate (price_part n) n.pools)
    each i j d lt in' = omega (
      arith,
      length-tabulate (price_part n) n.pools,
      ap (λ (q : Part). q.row) (get_or-tabulate (price_part n) n.pools i d (omega (arith, length-tabulate (price_part n) n.pools))),
      ap (λ (q : Part). q.row) (get_or-tabulate (price_part n) n.pools j d (omega (arith, length-tabulate (price_part n) n.pools))),
    )

    pairs : AllPairs (λ p q. p.row < q.row) (price_proof n).parts
    pairs = AllPairs-filter (λ p q. p.row < q.row) is_nonzero (tabulate (price_part n) n.pools) each

-- ---- sizes

out-few : (n : Net) (o : ℕ) → IsLimited n → o < n.outs → unsigned_abs (n.out_cost o) ≤ 10 ^ 12
out-few n o limited lt = within (10 ^ 12) (n.out_cost o) (omega arith) (limited.out_costs o lt)

price-few : (n : Net) (j : ℕ) → IsLimited n → j < n.products → unsigned_abs (n.price j) ≤ 10 ^ 12
price-few n j limited lt = within (10 ^ 12) (n.price j) (omega arith) (limited.prices j lt)

delivered : (cost carriage : ℤ) → IsWithin (10 ^ 12) cost → IsWithin (10 ^ 12) carriage → unsigned_abs (cost +ℤ carriage) ≤ 2 * 10 ^ 12
delivered cost carriage (low, high) (least, most) = omega (arith, ints)

feed-few : (n : Net) (e : ℕ) → IsLimited n → e < n.feeds → unsigned_abs (feed_delivered n e) ≤ 2 * 10 ^ 12
feed-few n e limited lt = delivered (n.source_cost (n.feed_source e)) (n.feed_cost e) (limited.source_costs (n.feed_source e) (limited.feed_sources e lt)) (limited.feed_costs e lt)

direct-few : (n : Net) (e : ℕ) → IsLimited n → e < n.directs → unsigned_abs (direct_delivered n e) ≤ 2 * 10 ^ 12
direct-few n e limited lt = delivered (n.source_cost (n.direct_source e)) (n.direct_cost e) (limited.source_costs (n.direct_source e) (limited.direct_sources e lt)) (limited.direct_costs e lt)

pool_price-few : (n : Net) (l : ℕ) → IsLimited n → unsigned_abs (pool_price n l) ≤ 2 * 10 ^ 12
pool_price-few n l limited = few_unwrapped (2 * 10 ^ 12) (pool_cost n l)
    (few_least (2 * 10 ^ 12) (λ e. if n.feed_pool e == l then Some (feed_delivered n e) else None) n.feeds
    (λ e lt. few_if (2 * 10 ^ 12) (n.feed_pool e == l) (feed_delivered n e) (feed-few n e limited lt)))

-- ---- variables that are flows along arcs

abbrev flows : PerVariable
flows = record none { x = λ e. pos 1; y = λ o. pos 1; z = λ e. pos 1 }

abbrev flow_at : Net → ℕ → ℕ
flow_at n v = unsigned_abs (by_number n flows v)

-- a cost is at most 3 * 10^12, and 0 where the variable is no flow
IsCost : ℤ → ℤ → Type 0
IsCost a u = unsigned_abs a ≤ 3 * 10 ^ 12 * unsigned_abs u

cost-small : (n : Net) → IsLimited n → (v : ℕ) → v < variables n → unsigned_abs (by_number n (costs n) v) ≤ 3 * 10 ^ 12 * flow_at n v
unfolding IsCost
cost-small n limited v lt = by_number-each n IsCost (costs n) flows record {
  x = λ e h. let few = feed-few n e limited h in omega arith;
  y = λ o h. less (n.out_cost o) (n.price (n.out_product o)) (omega (arith, out-few n o limited h)) (price-few n (n.out_product o) limited (limited.out_products o h));
  z = λ e h. less (direct_delivered n e) (n.price (n.direct_product e)) (direct-few n e limited h) (price-few n (n.direct_product e) limited (limited.direct_products e h));
  w = λ p h. omega arith;
  proportion = λ e h. omega arith;
  quality = λ l k h i. omega arith;
  mixed = λ o k h i. omega arith;
} v lt
  where
    less : (cost price : ℤ) → unsigned_abs cost ≤ 2 * 10 ^ 12 → unsigned_abs price ≤ 10 ^ 12 → unsigned_abs (cost -ℤ price) ≤ 3 * 10 ^ 12 * 1
    less cost price h k = omega (arith, ints)

-- a coefficient is at most 1, and 0 where the variable is no flow
IsUnit : ℤ → ℤ → Type 0
IsUnit a u = unsigned_abs a ≤ unsigned_abs u

unit_if : (test : Bool) (c : ℤ) → unsigned_abs c ≤ 1 → unsigned_abs (if test then c else pos 0) ≤ 1
unit_if true c h = h
unit_if false c h = omega arith

balance-small : (n : Net) (l v : ℕ) → v < variables n → unsigned_abs (by_number n (balance_row n l).coefs v) ≤ flow_at n v
unfolding IsUnit
balance-small n l v lt = by_number-each n IsUnit (balance_row n l).coefs flows record {
  x = λ e h. unit_if (n.feed_pool e == l) (pos 1) (omega arith);
  y = λ o h. unit_if (n.out_pool o == l) (neg_ℤ (pos 1)) (omega (arith, ints));
  z = λ e h. omega arith;
  w = λ p h. omega arith;
  proportion = λ e h. omega arith;
  quality = λ q k h i. omega arith;
  mixed = λ o k h i. omega arith;
} v lt

-- an end of a flow is at most 10^14
IsEnd : ℤ → ℤ → Type 0
IsEnd a u = unsigned_abs u * unsigned_abs a ≤ 10 ^ 14

lows-small : (n : Net) (b : Box) → IsLimited n → IsProper n b → (v : ℕ) → v < variables n → flow_at n v * unsigned_abs (by_number n (lows n b) v) ≤ 10 ^ 14
unfolding IsEnd
lows-small n b limited proper v lt = by_number-each n IsEnd (lows n b) flows record {
  x = λ e h. omega arith;
  y = λ o h. let ends = ends-near n b limited proper (flow_number n o) (omega arith) in omega (arith, ends.low);
  z = λ e h. omega arith;
  w = λ p h. omega arith;
  proportion = λ e h. omega arith;
  quality = λ l k h i. omega arith;
  mixed = λ o k h i. omega arith;
} v lt

highs-small : (n : Net) (b : Box) → IsLimited n → IsProper n b → (v : ℕ) → v < variables n → flow_at n v * unsigned_abs (by_number n (highs n b) v) ≤ 10 ^ 14
unfolding IsEnd
highs-small n b limited proper v lt = by_number-each n IsEnd (highs n b) flows record {
  x = λ e h. lesser_of (n.feed_max e) (n.source_max (n.feed_source e)) (n.pool_max (n.feed_pool e)) (limited.source_maxima (n.feed_source e) (limited.feed_sources e h));
  y = λ o h. let ends = ends-near n b limited proper (flow_number n o) (omega arith) in omega (arith, ends.high);
  z = λ e h. lesser_of (n.direct_max e) (n.source_max (n.direct_source e)) (n.product_max (n.direct_product e)) (limited.source_maxima (n.direct_source e) (limited.direct_sources e h));
  w = λ p h. omega arith;
  proportion = λ e h. omega arith;
  quality = λ l k h i. omega arith;
  mixed = λ o k h i. omega arith;
} v lt
  where
    lesser_of : (m : Option ℕ) (a b : ℕ) → a ≤ 10 ^ 14 → 1 * capped m (min a b) ≤ 10 ^ 14
    lesser_of m a b h = omega (arith, capped-le m (min a b))

-- ---- sums over few things

sum_by-most : {X : Type 0} (f : X → ℕ) (c : ℕ) (xs : List X) → All (λ x. f x ≤ c) xs → sum_by f xs ≤ length xs * c
sum_by-most f c [] h = omega arith
sum_by-most f c (x ∷ xs) h = omega (arith, sum_by-cons f x xs, All-head (λ x. f x ≤ c) x xs h, sum_by-most f c xs (All-tail (λ x. f x ≤ c) x xs h))

length-filter-most : {X : Type 0} (p : X → Bool) (xs : List X) → length (filter p xs) ≤ length xs
length-filter-most p [] = omega arith
length-filter-most p (x ∷ xs) = cases (p x) (length-filter-most p xs)
  where
    cases : (test : Bool) → length (filter p xs) ≤ length xs → length (if test then x ∷ filter p xs else filter p xs) ≤ length (x ∷ xs)
    cases true h = omega arith
    cases false h = omega arith

length-numbers_at : (key : ℕ → ℕ) (k n : ℕ) → length (numbers_at key k n) ≤ n
length-numbers_at key k zero = omega arith
length-numbers_at key k (suc n) = cases (key n == k) (length-numbers_at key k n)
  where
    cases : (test : Bool) → length (numbers_at key k n) ≤ n → length (numbers_at key k n ++ (if test then n ∷ [] else [])) ≤ suc n
    cases true h = omega (arith, length-append (numbers_at key k n) (n ∷ []))
    cases false h = omega (arith, length-append (numbers_at key k n) [])

length-flat_map-most : {X Y : Type 0} (f : X → List Y) (c : ℕ) (xs : List X) → ((x : X) → length (f x) ≤ c) → length (flat_map f xs) ≤ length xs * c
length-flat_map-most f c [] h = omega arith
length-flat_map-most f c (x ∷ xs) h = omega (arith, length-append (f x) (flat_map f xs), h x, length-flat_map-most f c xs h)

paths-few : (n : Net) → IsLimited n → path_count n ≤ 2 ^ 20
paths-few n limited = below n.pools limited.pools
  where
    of_feed : (e : ℕ) → length (feed_paths n e) ≤ 256
    of_feed e = omega (
      arith,
      limited.outs,
      length-map {B = Path} (numbers_at n.out_pool (n.feed_pool e) n.outs) (λ o. record { feed = e; out = o }),
      length-numbers_at n.out_pool (n.feed_pool e) n.outs,
    )

    of_pool : (l : ℕ) → length (pool_paths n l) ≤ 65536
    of_pool l = omega (arith, limited.feeds, length-flat_map-most (feed_paths n) 256 (numbers_at n.feed_pool l n.feeds) of_feed, length-numbers_at n.feed_pool l n.feeds)

    first : (l : ℕ) → length (paths_below n l) ≤ l * 65536
    first zero = omega arith
    first (suc l) = omega (arith, length-append (paths_below n l) (pool_paths n l), of_pool l, first l)

    below : (l : ℕ) → l ≤ 16 → length (paths_below n l) ≤ 2 ^ 20
    below l h = omega (arith, first l)

variables-few : (n : Net) → IsLimited n → variables n ≤ 2 ^ 21
variables-few n limited =
    let pools = grid n.pools n.qualities limited.qualities in
    let outs = grid n.outs n.qualities limited.qualities in
    omega (arith, pools, outs, paths-few n limited, limited.feeds, limited.outs, limited.directs, limited.pools)
  where
    grid : (m k : ℕ) → k ≤ 8 → m * k ≤ m * 8
    grid m k h = mul-le-mul_left m h

-- ---- the weight

-- a rest times an end, where the rest is 0 unless the variable is a flow
product-most : (r u c low high m : ℕ) → r ≤ c * u → u * low ≤ m → u * high ≤ m → r * max low high ≤ c * m
product-most r u c low high m h i j = elim (max-is low high) [
  | inl e ↦ subst (λ t. r * t ≤ c * m) (sym e) (one low i)
  | inr e ↦ subst (λ t. r * t ≤ c * m) (sym e) (one high j)
]
  where
    max-is : (a b : ℕ) → (max a b ≡ a) ⊎ (max a b ≡ b)
    max-is a b = grind arith

    one : (e : ℕ) → u * e ≤ m → r * e ≤ c * m
    one e k = omega (arith, mul-le-mul_right e h, mul-le-mul_left c k)

-- a part's size times a coefficient's
part-most : (m a u : ℕ) → m ≤ 2 * 10 ^ 12 → a ≤ u → m * a ≤ 2 * 10 ^ 12 * u
part-most m a u h k = omega (arith, mul-le-mul_left m k, mul-le-mul_right u h)

parts-most : (n : Net) (b : Box) → IsLimited n → (v : ℕ) → v < variables n
    → sum_by (λ q. unsigned_abs q.mult * unsigned_abs (coef n b q.row v)) (price_proof n).parts ≤ 16 * (2 * 10 ^ 12 * flow_at n v)
parts-most n b limited v lt =
    let size = λ (q : Part). unsigned_abs q.mult * unsigned_abs (coef n b q.row v) in
    let most = 2 * 10 ^ 12 * flow_at n v in
    let each = All-tabulate (λ (q : Part). size q ≤ most) (price_part n) n.pools
    (λ l in'. subst (λ (r : Row). unsigned_abs (pool_price n l) * unsigned_abs (by_number n r.coefs v) ≤ most) (sym (balance-at n b l in'))
    (part-most (unsigned_abs (pool_price n l)) (unsigned_abs (by_number n (balance_row n l).coefs v)) (flow_at n v) (pool_price-few n l limited) (balance-small n l v lt))) in
    let sum = sum_by-most size most (price_proof n).parts (All-filter is_nonzero (λ q. size q ≤ most) (tabulate (price_part n) n.pools) each) in
    bound (sum_by size (price_proof n).parts) (length (price_proof n).parts) most sum
    (omega (arith, length-filter-most is_nonzero (tabulate (price_part n) n.pools), length-tabulate (price_part n) n.pools, limited.pools))
  where
    bound : (s k m : ℕ) → s ≤ k * m → k ≤ 16 → s ≤ 16 * m
    bound s k m h i = omega (arith, mul-le-mul_right m i)

-- the constants of the rows are 0
constants-none : (n : Net) (b : Box) → constant_weight n b (price_proof n) ≤ 0
constants-none n b =
    let size = λ (q : Part). unsigned_abs q.mult * unsigned_abs (row_at n b q.row).constant in
    let each = All-tabulate (λ (q : Part). size q ≤ 0) (price_part n) n.pools
    (λ l in'. subst (λ (r : Row). unsigned_abs (pool_price n l) * unsigned_abs r.constant ≤ 0) (sym (balance-at n b l in')) (omega arith)) in
    omega (arith, sum_by-most size 0 (price_proof n).parts (All-filter is_nonzero (λ q. size q ≤ 0) (tabulate (price_part n) n.pools) each))

narrow : (n : Net) (b : Box) → IsLimited n → IsProper n b → weight n b (price_proof n) ≤ 2 ^ 126
narrow n b limited proper =
    let p = price_proof n in
    let ends = λ (v : ℕ). max (unsigned_abs (by_number n (lows n b) v)) (unsigned_abs (by_number n (highs n b) v)) in
    let term = λ (v : ℕ). rest_weight n b p v * ends v in
    let most = 35 * 10 ^ 12 * 10 ^ 14 in
    let each = λ (v : ℕ) (lt : v < variables n).
    product-most (rest_weight n b p v) (flow_at n v) (35 * 10 ^ 12) (unsigned_abs (by_number n (lows n b) v)) (unsigned_abs (by_number n (highs n b) v)) (10 ^ 14)
    (rest (flow_at n v) (unsigned_abs (by_number n (costs n) v)) (sum_by (λ q. unsigned_abs q.mult * unsigned_abs (coef n b q.row v)) p.parts)
    (cost-small n limited v lt) (parts-most n b limited v lt))
    (lows-small n b limited proper v lt) (highs-small n b limited proper v lt) in
    whole (constant_weight n b p) (sum_below term (variables n)) (variables n) (constants-none n b) (sum_below-most term most (variables n) each) (variables-few n limited)
  where
    rest : (u c s : ℕ) → c ≤ 3 * 10 ^ 12 * u → s ≤ 16 * (2 * 10 ^ 12 * u) → 1 * c + s ≤ 35 * 10 ^ 12 * u
    rest u c s h i = omega arith

    whole : (c s n : ℕ) → c ≤ 0 → s ≤ n * (35 * 10 ^ 12 * 10 ^ 14) → n ≤ 2 ^ 21 → c + s ≤ 2 ^ 126
    whole c s n h i j = omega arith

pub price-in_order : (n : Net) (b : Box) → IsLimited n → IsProper n b → IsInOrder n b (price_proof n)
price-in_order n b limited proper = record {
  rising = rising n;
  known = known n;
  signed = signed n b;
  nonzero = nonzero-all n;
  narrow = narrow n b limited proper;
  shows = λ e. absurd (not_both 1 refl e);
}
  where
    not_both : (scale : ℕ) → scale ≡ 1 → scale ≡ 0 → ⊥
    not_both scale e h = omega arith

-- The rows of a made network stand for it and have no fault, whatever the seed.
use Rattle.std.proofs.Common.{◌≡◌, ◌≢◌, ℕ, ◌+◌, ◌*◌, ◌<◌, ◌≤◌, ◌⊎◌, inl, inr, List, [], ◌∷◌, ◌++◌, length, map, take, get_or, All, Contains, Bool, true, false}
use Rattle.std.proofs.Common.{◌&&◌, ◌||◌, ◌==◌, not, is_some, is_none, unsigned_abs, refl, sym, ap, subst, ◌∙◌, arith}
use Rattle.std.proofs.lemmas.List.Elements.{All-nil, All-cons, All-get_or}
use Rattle.integers.specs.Numbers.{tabulate}
use Rattle.integers.proofs.Tabulate.{length-tabulate, get_or-tabulate, tabulate-same, All-tabulate}
use Rattle.pool_model.specs.Rows.{Rows, IsRectangular}
use Rattle.pool_model.specs.Naming.{number_of, network_of}
use Rattle.pool_model.specs.Network.{Network, net_of}
use Rattle.pool_model.specs.Paths.{paths_of}
use Rattle.pool_model.specs.Starting.{all_below}
use Rattle.pool_model.proofs.AllBelow.{all_below-each}
use Rattle.network_parts.specs.declared.fault.Kind.{Kind}
use Rattle.network_parts.specs.declared.fault.Kind.TheVariants.{Source, Pool, Product, Quality, Arc}
use Rattle.network_parts.specs.declared.fault.NetFault.{NetFault}
use Rattle.network_parts.specs.declared.fault.NetFault.TheVariants.{TooMany, BadName, DuplicateName, UnknownName, ArcBackwards, PoolToPool, DuplicateArc}
use Rattle.network_parts.specs.declared.fault.NetFault.TheVariants.{PoolWithoutInput, PoolWithoutOutput, TooManyPaths, OutOfRange, LeastAboveMost, Memory}
use Rattle.network_parts.specs.Faults.{IsTooMany, IsName, IsBadAt, IsBadName, IsRepeatAt, IsDuplicateName, IsUnknownName, IsArcBackwards, IsPoolToPool}
use Rattle.network_parts.specs.Faults.{IsDuplicateArc, IsOutOfRange, IsLeastAboveMost, IsFaultless, IsSourceInRange, IsPoolInRange, IsProductInRange, IsOrderly}
use Rattle.network_parts.specs.Faults.{IsArcInRange, no_source_row, no_pool_row, no_product_row, no_arc_row, row_ends}
use Rattle.network_parts.specs.FirstFault.{Holds, IsFirstFault}
use Rattle.blend_network.specs.Canonical.{canonical_source, canonical_pool, canonical_product, canonical_rows}
use Rattle.drawn_numbers.specs.Draws.{state_after}
use Rattle.network_maker.specs.Generated.{generated, named_source, named_pool, named_product, named_quality, drawn_source, drawn_pool, drawn_product}
use Rattle.network_maker.specs.Rows.{source_rows, pool_rows, product_rows, arc_rows}
use Rattle.drawn_numbers.proofs.Steps.{state_after-add}
use Rattle.network_maker.proofs.Tests.{has, name_code, ends_code, absent, not_all, named, left, right}
use Rattle.network_maker.proofs.Numbers.{free, source_in_range, pool_in_range, product_in_range, product_orderly}

-- ---- the network of the rows

pub same_network : (seed : ℕ) → network_of (canonical_rows (generated seed)) ≡ generated seed
unfolding generated
same_network seed = refl

every : {X : Type 0} (P : X → Type 0) (f : ℕ → X) (n : ℕ) → ((i : ℕ) → P (f i)) → All P (tabulate f n)
every P f n each = All-tabulate P f n (λ i lt. each i)

pub rectangular : (seed : ℕ) → IsRectangular (canonical_rows (generated seed))
unfolding generated
rectangular seed = record {
  sources = every (λ s. length s.quality ≡ 2) (λ i. canonical_source (drawn_source (state_after seed (4 * i)) i)) 10 (λ i. refl);
  least = every (λ p. length p.least ≡ 2) (λ j. canonical_product (drawn_product (state_after seed (43 + 4 * j)) j)) 6 (λ j. refl);
  most = every (λ p. length p.most ≡ 2) (λ j. canonical_product (drawn_product (state_after seed (43 + 4 * j)) j)) 6 (λ j. refl);
  ratio = every (λ p. length p.ratio ≡ 2) (λ l. canonical_pool (drawn_pool (state_after seed (40 + l)) l)) 3 (λ l. refl);
}

-- rows drawn kind by kind are those of the network
pub same_rows : (seed s t : ℕ) (r : Rows) → r.qualities ≡ tabulate named_quality 2 → r.sources ≡ source_rows seed 10 → s ≡ state_after seed 40
    → r.pools ≡ pool_rows s 3 → t ≡ state_after s 3 → r.products ≡ product_rows t 6 → r.arcs ≡ arc_rows → r ≡ canonical_rows (generated seed)
unfolding generated
same_rows seed s t r q so at p then d a =
    let pools : r.pools ≡ tabulate (λ l. canonical_pool (drawn_pool (state_after seed (40 + l)) l)) 3
    = p ∙ ap (λ x. pool_rows x 3) at ∙ tabulate-same (λ l. canonical_pool (drawn_pool (state_after (state_after seed 40) l) l))
    (λ l. canonical_pool (drawn_pool (state_after seed (40 + l)) l)) 3 (λ l lt. ap (λ x. canonical_pool (drawn_pool x l)) (state_after-add seed 40 l)) in
    let behind : t ≡ state_after seed 43 = then ∙ ap (λ x. state_after x 3) at ∙ state_after-add seed 40 3 in
    let products : r.products ≡ tabulate (λ j. canonical_product (drawn_product (state_after seed (43 + 4 * j)) j)) 6
    = d ∙ ap (λ x. product_rows x 6) behind ∙ tabulate-same (λ j. canonical_product (drawn_product (state_after (state_after seed 43) (4 * j)) j))
    (λ j. canonical_product (drawn_product (state_after seed (43 + 4 * j)) j)) 6 (λ j lt. ap (λ x. canonical_product (drawn_product x j)) (state_after-add seed 43 (4 * j))) in
    λ k. record { qualities = q k; sources = so k; pools = pools k; products = products k; arcs = a k }

-- ---- names

abbrev source_list : List (List ℕ)
source_list = tabulate named_source 10

abbrev pool_list : List (List ℕ)
pool_list = tabulate named_pool 3

abbrev product_list : List (List ℕ)
product_list = tabulate named_product 6

abbrev quality_list : List (List ℕ)
quality_list = tabulate named_quality 2

abbrev node_list : List (List ℕ)
node_list = source_list ++ pool_list ++ product_list

good : (letter n : ℕ) → 32 ≤ letter → letter ≤ 126 → n < 10 → IsName (letter ∷ (48 + n) ∷ [])
good letter n low high small = record {
  least = omega arith;
  most = omega arith;
  printable = All-cons (λ b. (32 ≤ b) × (b ≤ 126)) letter ((48 + n) ∷ []) (
    low,
    high,
  ) (All-cons (λ b. (32 ≤ b) × (b ≤ 126)) (48 + n) [] (omega arith, omega arith) (All-nil (λ b. (32 ≤ b) × (b ≤ 126))));
}

good_names : (letter count : ℕ) → 32 ≤ letter → letter ≤ 126 → count ≤ 10 → (n : ℕ) → ¬ IsBadAt (tabulate (λ i. letter ∷ (48 + i) ∷ []) count) n
good_names letter count low high few n bad =
    let f : ℕ → List ℕ = λ i. letter ∷ (48 + i) ∷ [] in
    let here : n < count = omega (arith, bad.0, length-tabulate f count) in
    bad.1 (subst IsName (sym (get_or-tabulate f count n [] here)) (good letter n low high (omega (arith, here, few))))

names_good : (seed : ℕ) (kind : Kind) (n : ℕ) → ¬ IsBadName (canonical_rows (generated seed)) kind n
unfolding generated
names_good seed Source n bad = good_names 83 10 (omega arith) (omega arith) (omega arith) n bad
names_good seed Pool n bad = good_names 80 3 (omega arith) (omega arith) (omega arith) n bad
names_good seed Product n bad = good_names 88 6 (omega arith) (omega arith) (omega arith) n bad
names_good seed Quality n bad = good_names 75 2 (omega arith) (omega arith) (omega arith) n bad
names_good seed Arc n bad = absurd (omega (arith, bad.0))

-- no name below the count stands before, or among those
abbrev is_fresh : List (List ℕ) → List (List ℕ) → ℕ → Bool
is_fresh before names n = not (has (name_code (get_or names n [])) (map name_code (before ++ take n names)))

refuted : (b : Bool) → not b ≡ true → b ≡ false
refuted true e = cc
refuted false e = refl

fresh : (before names : List (List ℕ)) (count : ℕ) → length names ≡ count → all_below (is_fresh before names) count ≡ true → (n : ℕ) → ¬ IsRepeatAt before names n
fresh before names count len all n again =
    absent name_code (before ++ take n names) (get_or names n [])
    (refuted (has (name_code (get_or names n [])) (map name_code (before ++ take n names))) (all_below-each (is_fresh before names) count n all (omega (arith, again.0, len)))) again.1

distinct : (seed : ℕ) (kind : Kind) (n : ℕ) → ¬ IsDuplicateName (canonical_rows (generated seed)) kind n
unfolding generated
distinct seed Source n again = fresh [] source_list 10 refl refl n again
distinct seed Pool n again = fresh source_list pool_list 3 refl refl n again
distinct seed Product n again = fresh (source_list ++ pool_list) product_list 6 refl refl n again
distinct seed Quality n again = fresh [] quality_list 2 refl refl n again
distinct seed Arc n again = absurd (omega (arith, again.0))

-- ---- arcs

abbrev ends_at : ℕ → List ℕ × List ℕ
ends_at n = row_ends (get_or arc_rows n no_arc_row)

-- the names of the ends of all arcs
abbrev all_ends : List (List ℕ × List ℕ)
all_ends = map row_ends arc_rows

abbrev is_known : ℕ → Bool
is_known n = is_some (number_of (ends_at n).0 node_list) && is_some (number_of (ends_at n).1 node_list)

all_known : (n : ℕ) → ¬ ((n < 44) × ((¬ Contains node_list (ends_at n).0) ⊎ (¬ Contains node_list (ends_at n).1)))
all_known n bad =
    let both : is_known n ≡ true = all_below-each is_known 44 n refl bad.0 in
    let a : is_some (number_of (ends_at n).0 node_list) ≡ true = left (is_some (number_of (ends_at n).0 node_list)) (is_some (number_of (ends_at n).1 node_list)) both in
    let b : is_some (number_of (ends_at n).1 node_list) ≡ true = right (is_some (number_of (ends_at n).0 node_list)) (is_some (number_of (ends_at n).1 node_list)) both in
    elim bad.1 [ inl h ↦ h (named (ends_at n).0 node_list a) | inr h ↦ h (named (ends_at n).1 node_list b) ]

abbrev is_among : List (List ℕ) → List ℕ → Bool
is_among names name = has (name_code name) (map name_code names)

abbrev is_forward : ℕ → Bool
is_forward n = not (is_among product_list (ends_at n).0) && not (is_among source_list (ends_at n).1)

all_forward : (n : ℕ) → ¬ ((n < 44) × (Contains product_list (ends_at n).0 ⊎ Contains source_list (ends_at n).1))
all_forward n bad =
    let both : is_forward n ≡ true = all_below-each is_forward 44 n refl bad.0 in
    let a = refuted (is_among product_list (ends_at n).0) (left (not (is_among product_list (ends_at n).0)) (not (is_among source_list (ends_at n).1)) both) in
    let b = refuted (is_among source_list (ends_at n).1) (right (not (is_among product_list (ends_at n).0)) (not (is_among source_list (ends_at n).1)) both) in
    elim bad.1 [ inl h ↦ absent name_code product_list (ends_at n).0 a h | inr h ↦ absent name_code source_list (ends_at n).1 b h ]

abbrev is_single : ℕ → Bool
is_single n = not (is_among pool_list (ends_at n).0) || not (is_among pool_list (ends_at n).1)

one_of : (a b : Bool) → (not a || not b) ≡ true → (a ≡ false) ⊎ (b ≡ false)
one_of false b e = inl refl
one_of true false e = inr refl
one_of true true e = cc

all_single : (n : ℕ) → ¬ ((n < 44) × Contains pool_list (ends_at n).0 × Contains pool_list (ends_at n).1)
all_single n bad = elim (one_of (is_among pool_list (ends_at n).0) (is_among pool_list (ends_at n).1) (all_below-each is_single 44 n refl bad.0)) [
  | inl a ↦ absent name_code pool_list (ends_at n).0 a bad.1
  | inr b ↦ absent name_code pool_list (ends_at n).1 b bad.2
]

abbrev is_once : ℕ → Bool
is_once n = not (has (ends_code (ends_at n)) (map ends_code (take n all_ends)))

all_once : (n : ℕ) → ¬ ((n < 44) × Contains (take n all_ends) (ends_at n))
all_once n bad =
    absent ends_code (take n all_ends) (ends_at n) (refuted (has (ends_code (ends_at n)) (map ends_code (take n all_ends))) (all_below-each is_once 44 n refl bad.0)) bad.1

-- no arc costs anything or has a maximum
abbrev is_free : ℕ → Bool
is_free n = (unsigned_abs (get_or arc_rows n no_arc_row).cost == 0) && is_none (get_or arc_rows n no_arc_row).max

all_free : (n : ℕ) → ¬ ((n < 44) × ¬ IsArcInRange (get_or arc_rows n no_arc_row))
all_free n bad =
    let a = get_or arc_rows n no_arc_row in
    let both : is_free n ≡ true = all_below-each is_free 44 n refl bad.0 in
    bad.1 (free a (left (unsigned_abs a.cost == 0) (is_none a.max) both) (right (unsigned_abs a.cost == 0) (is_none a.max) both))

-- ---- pools and paths

fed : (seed l : ℕ) → ¬ ((l < 3) × All (λ a. ¬ (a.to ≡ l)) (generated seed).feeds)
unfolding generated
fed seed l bad = not_all (λ a. a.to) (generated seed).feeds l (all_below-each (λ k. has k (map (λ a. a.to) (generated seed).feeds)) 3 l refl bad.0) bad.1

drained : (seed l : ℕ) → ¬ ((l < 3) × All (λ a. ¬ (a.from ≡ l)) (generated seed).outs)
unfolding generated
drained seed l bad = not_all (λ a. a.from) (generated seed).outs l (all_below-each (λ k. has k (map (λ a. a.from) (generated seed).outs)) 3 l refl bad.0) bad.1

pub path_count : (seed : ℕ) → length (paths_of (net_of (generated seed))) ≡ 120
unfolding generated net_of
path_count seed = refl

-- ---- numbers

in_range : (seed : ℕ) (kind : Kind) (n : ℕ) → ¬ IsOutOfRange (canonical_rows (generated seed)) kind n
unfolding generated
in_range seed Source n bad =
    let f = λ (i : ℕ). canonical_source (drawn_source (state_after seed (4 * i)) i) in
    bad.1 (All-get_or IsSourceInRange (tabulate f 10) n no_source_row bad.0 (every IsSourceInRange f 10 (λ i. source_in_range (state_after seed (4 * i)) i)))
in_range seed Pool n bad =
    let f = λ (l : ℕ). canonical_pool (drawn_pool (state_after seed (40 + l)) l) in
    bad.1 (All-get_or IsPoolInRange (tabulate f 3) n no_pool_row bad.0 (every IsPoolInRange f 3 (λ l. pool_in_range (state_after seed (40 + l)) l)))
in_range seed Product n bad =
    let f = λ (j : ℕ). canonical_product (drawn_product (state_after seed (43 + 4 * j)) j) in
    bad.1 (All-get_or IsProductInRange (tabulate f 6) n no_product_row bad.0 (every IsProductInRange f 6 (λ j. product_in_range (state_after seed (43 + 4 * j)) j)))
in_range seed Quality n bad = bad
in_range seed Arc n bad = all_free n bad

in_order : (seed n : ℕ) → ¬ IsLeastAboveMost (canonical_rows (generated seed)) n
unfolding generated
in_order seed n bad =
    let f = λ (j : ℕ). canonical_product (drawn_product (state_after seed (43 + 4 * j)) j) in
    bad.1 (All-get_or IsOrderly (tabulate f 6) n no_product_row bad.0 (every IsOrderly f 6 (λ j. product_orderly (state_after seed (43 + 4 * j)) j)))

-- ---- all of them

few : (seed : ℕ) (kind : Kind) → ¬ IsTooMany (canonical_rows (generated seed)) kind
unfolding generated
few seed Source many = omega (arith, many)
few seed Pool many = omega (arith, many)
few seed Product many = omega (arith, many)
few seed Quality many = omega (arith, many)
few seed Arc many = omega (arith, many)

known : (seed n : ℕ) → ¬ IsUnknownName (canonical_rows (generated seed)) n
unfolding generated
known seed n bad = all_known n bad

forward : (seed n : ℕ) → ¬ IsArcBackwards (canonical_rows (generated seed)) n
unfolding generated
forward seed n bad = all_forward n bad

single : (seed n : ℕ) → ¬ IsPoolToPool (canonical_rows (generated seed)) n
unfolding generated
single seed n bad = all_single n bad

once : (seed n : ℕ) → ¬ IsDuplicateArc (canonical_rows (generated seed)) n
unfolding generated
once seed n bad = all_once n bad

three_pools : (seed : ℕ) → length (canonical_rows (generated seed)).pools ≡ 3
unfolding generated
three_pools seed = refl

pub faultless : (seed : ℕ) → IsFaultless (canonical_rows (generated seed))
faultless seed = record {
  counts = few seed;
  names = names_good seed;
  distinct = distinct seed;
  known = known seed;
  forward = forward seed;
  single = single seed;
  once = once seed;
  inputs = λ l bad. fed seed l (omega (arith, bad.0, three_pools seed), subst (λ (n : Network). All (λ a. ¬ (a.to ≡ l)) n.feeds) (same_network seed) bad.1);
  outputs = λ l bad. drained seed l (omega (arith, bad.0, three_pools seed), subst (λ (n : Network). All (λ a. ¬ (a.from ≡ l)) n.outs) (same_network seed) bad.1);
  paths = λ many. omega (arith, many, ap (λ n. length (paths_of (net_of n))) (same_network seed), path_count seed);
  ranges = in_range seed;
  orderly = in_order seed;
}

-- so nothing but want of memory is told of them
pub no_fault : (r : Rows) (fault : NetFault) → IsFaultless r → fault ≢ Memory → ¬ IsFirstFault r fault
no_fault r fault less other first = holds r fault less other (first other).holds
  where
    holds : (r : Rows) (fault : NetFault) → IsFaultless r → fault ≢ Memory → ¬ Holds r fault
    holds r (TooMany kind) less other h = less.counts kind h
    holds r (BadName kind n) less other h = less.names kind n h
    holds r (DuplicateName kind n) less other h = less.distinct kind n h
    holds r (UnknownName n) less other h = less.known n h
    holds r (ArcBackwards n) less other h = less.forward n h
    holds r (PoolToPool n) less other h = less.single n h
    holds r (DuplicateArc n) less other h = less.once n h
    holds r (PoolWithoutInput n) less other h = less.inputs n h
    holds r (PoolWithoutOutput n) less other h = less.outputs n h
    holds r TooManyPaths less other h = less.paths h
    holds r (OutOfRange kind n) less other h = less.ranges kind n h
    holds r (LeastAboveMost n) less other h = less.orderly n h
    holds r Memory less other h = h

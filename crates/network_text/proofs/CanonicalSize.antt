-- How deep a canonical value nests and how long its text is, and that it has no float.
use Rattle.std.proofs.Common.{◌≡◌, ℕ, ℤ, pos, negsuc, zero, suc, ◌+◌, ◌*◌, ◌/◌, ◌%◌, ◌^◌, ◌≤◌, ◌<◌, Bool, true, false, cond, ltb, eqb, ◌||◌, List, [], ◌∷◌}
use Rattle.std.proofs.Common.{◌++◌, length, map, Option, Some, None, Ordering, Less, Equal, Greater, codes, refl, arith, unsigned_abs}
use Rattle.std.specs.Prelude.{int_lt, decimal}
use Rattle.std.specs.List.{AllByRecursion}
use Rattle.std.specs.Ordering.{match_ordering, nat_cmp}
use Rattle.std.specs.Cmp.Lexicographic.{slice_cmp}
use Rattle.std.proofs.lemmas.Fmt.{length-decimal-le_wide}
use Rattle.std.proofs.lemmas.List.{length-append, length-map}
use Rattle.std.proofs.lemmas.Int.{ints}
use Rattle.std.proofs.Math.Nat.{mul-le-mul_left}
use Rattle.json.specs.Print.{escape_byte, escape_letter, escape, quoted}
use Rattle.serde_json.specs.Data.{Data, number, unsigned, string, object, Members, no_members, member, put, depth, items_depth, members_depth}
use Rattle.serde_json.specs.Find.{of_integer}
use Rattle.serde_json.specs.View.{items_of}
use Rattle.serde_json.specs.Written.{compact_text, items_text, members_text, comma_if, has_float, items_have_float, members_have_float, number_text}
use Rattle.pool_model.specs.Quantity.{sign, behind_point, signed, fixed, trimmed, spelled, shortest}
use Rattle.pool_model.specs.Rows.{ArcRow}
use Rattle.pool_model.specs.Network.{Source, Pool, Product, Network}
use Rattle.blend_network.specs.Canonical.{canonical_arcs}
use Rattle.blend_network.proofs.CanonicalSizes.{IsShort}
use Rattle.json_walk.specs.declared.version.Version.{Version}
use Rattle.json_walk.specs.declared.version.Version.TheVariants.{One, Two}
use Rattle.json_walk.specs.Walk.{version_number}
use Rattle.network_text.proofs.CanonicalReads.{each_by}
use Rattle.network_values.specs.Values.{units_of, quantity_data, ratio_data, set_at, set_members, list_data, source_data, pool_data, product_data, arc_data}
use Rattle.network_text.specs.Canonical.{data_in}

-- ---- texts

escaped_cases : (special low : Bool) (short long plain : List ℕ) → length short ≤ 6 → length long ≤ 6 → length plain ≤ 6 → length (cond special short (cond low long plain)) ≤ 6
escaped_cases true low short long plain s l p = s
escaped_cases false true short long plain s l p = l
escaped_cases false false short long plain s l p = p

length-escape_byte : (x : ℕ) → length (escape_byte x) ≤ 6
unfolding escape_byte
length-escape_byte x = escaped_cases (ltb 0 (escape_letter x)) (ltb x 32) _ _ (x ∷ []) (omega arith) (omega arith) (omega arith)

length-escape : (s : List ℕ) → length (escape s) ≤ 6 * length s
length-escape [] = omega arith
length-escape (x ∷ s) = omega (arith, length-append (escape_byte x) (escape s), length-escape_byte x, length-escape s)

length-quoted : (s : List ℕ) → length (quoted s) ≤ 2 + 6 * length s
length-quoted s = omega (arith, length-append (escape s) (34 ∷ []), length-escape s)

-- ---- values that are small

-- nests at most so deep, has no float, and has a text of at most so many bytes
pub record IsSmall (k size : ℕ) (d : Data) : Type 0 where
  pub shallow : depth d ≤ k
  pub whole : has_float d ≡ false
  pub short : length (compact_text d) ≤ size

-- the same of members, with the bracket that closes them
pub record AreSmall (k size : ℕ) (ms : Members) : Type 0 where
  pub shallow : members_depth ms ≤ k
  pub whole : members_have_float ms ≡ false
  pub short : length (members_text true ms) ≤ size

pub weaker : (k k' size size' : ℕ) (d : Data) → IsSmall k size d → k ≤ k' → size ≤ size' → IsSmall k' size' d
weaker k k' size size' d is h m = record { shallow = omega (arith, is.shallow, h); whole = is.whole; short = omega (arith, is.short, m) }

pub string_small : (m : ℕ) (s : List ℕ) → length s ≤ m → IsSmall 0 (2 + 6 * m) (string s)
string_small m s h = record { shallow = omega arith; whole = refl; short = omega (arith, length-quoted s, h) }

pub none_small : (k : ℕ) → AreSmall k 1 no_members
none_small k = record { shallow = omega arith; whole = refl; short = omega arith }

no_float : (a b : Bool) → a ≡ false → b ≡ false → (a || b) ≡ false
no_float true b h m = h
no_float false b h m = m

-- the text of one more member
length-member : (n : List ℕ) (d : Data) (ms : Members) → length (members_text true (member n d ms)) ≡ 2 + length (quoted n) + length (compact_text d) + length (members_text true ms)
length-member n d ms =
    omega (arith, length-append (quoted n) (58 ∷ (compact_text d ++ members_text true ms)), length-append (compact_text d) (members_text true ms))

pub member_small : (k m a b : ℕ) (n : List ℕ) (d : Data) (ms : Members) → length n ≤ m → IsSmall k a d → AreSmall k b ms → AreSmall k (4 + 6 * m + a + b) (member n d ms)
member_small k m a b n d ms h is are = record {
  shallow = omega (arith, is.shallow, are.shallow);
  whole = no_float (has_float d) (members_have_float ms) is.whole are.whole;
  short = omega (arith, length-member n d ms, length-quoted n, h, is.short, are.short);
}

first_float : (a b : Bool) → (a || b) ≡ false → a ≡ false
first_float true b h = h
first_float false b h = refl

later_float : (a b : Bool) → (a || b) ≡ false → b ≡ false
later_float true b h = absurd cc
later_float false b h = h

put_at : (o : Ordering) (k m a b : ℕ) (n l : List ℕ) (d e : Data) (ms later : Members) → length n ≤ m → IsSmall k a d → AreSmall k b (member l e ms)
    → members_depth later ≤ k → members_have_float later ≡ false → length (members_text true later) ≤ 4 + 6 * m + a + length (members_text true ms)
    → AreSmall k (4 + 6 * m + a + b) (match_ordering o (member n d (member l e ms)) (member l d ms) (member l e later))
put_at Less k m a b n l d e ms later h is are shallow whole short = member_small k m a b n d (member l e ms) h is are
put_at Equal k m a b n l d e ms later h is are shallow whole short = record {
  shallow = omega (arith, is.shallow, are.shallow);
  whole = no_float (has_float d) (members_have_float ms) is.whole (later_float (has_float e) (members_have_float ms) are.whole);
  short = omega (arith, length-member l d ms, length-member l e ms, is.short, are.short);
}
put_at Greater k m a b n l d e ms later h is are shallow whole short = record {
  shallow = omega (arith, are.shallow, shallow);
  whole = no_float (has_float e) (members_have_float later) (first_float (has_float e) (members_have_float ms) are.whole) whole;
  short = omega (arith, length-member l e later, length-member l e ms, short, are.short);
}

pub put_small : (k m a b : ℕ) (n : List ℕ) (d : Data) (ms : Members) → length n ≤ m → IsSmall k a d → AreSmall k b ms → AreSmall k (4 + 6 * m + a + b) (put n d ms)
put_small k m a b n d no_members h is are = member_small k m a b n d no_members h is are
put_small k m a b n d (member l e ms) h is are =
    let inner : AreSmall k (length (members_text true ms)) ms
    = record { shallow = omega (arith, are.shallow); whole = later_float (has_float e) (members_have_float ms) are.whole; short = omega arith } in
    let more = put_small k m a (length (members_text true ms)) n d ms h is inner in
    put_at (slice_cmp nat_cmp n l) k m a b n l d e ms (put n d ms) h is are more.shallow more.whole more.short

unspaced : (ms : Members) → length (members_text false ms) ≤ length (members_text true ms)
unspaced no_members = omega arith
unspaced (member n d ms) = omega arith

pub object_small : (k size : ℕ) (ms : Members) → AreSmall k size ms → IsSmall (suc k) (1 + size) (object ms)
object_small k size ms are = record { shallow = omega (arith, are.shallow); whole = are.whole; short = omega (arith, are.short, unspaced ms) }

-- ---- lists

items_shallow : (k a : ℕ) (ds : List Data) → AllByRecursion (IsSmall k a) ds → items_depth (items_of ds) ≤ k
items_shallow k a [] h = omega arith
items_shallow k a (d ∷ ds) h = omega (arith, h.0.shallow, items_shallow k a ds h.1)

items_whole : (k a : ℕ) (ds : List Data) → AllByRecursion (IsSmall k a) ds → items_have_float (items_of ds) ≡ false
items_whole k a [] h = refl
items_whole k a (d ∷ ds) h = no_float (has_float d) (items_have_float (items_of ds)) h.0.whole (items_whole k a ds h.1)

comma_short : (later : Bool) → length (comma_if later) ≤ 1
comma_short true = omega arith
comma_short false = omega arith

items_short : (k a : ℕ) (later : Bool) (ds : List Data) → AllByRecursion (IsSmall k a) ds → length (items_text later (items_of ds)) ≤ 1 + length ds * (a + 1)
items_short k a later [] h = omega arith
items_short k a later (d ∷ ds) h =
    omega (
      arith,
      length-append (comma_if later) (compact_text d ++ items_text true (items_of ds)),
      length-append
          (compact_text d) (items_text true (items_of ds)),
      comma_short later,
      h.0.short,
      items_short k a true ds h.1,
    )

all_mapped : {X : Type 0} (P : Data → Type 0) (f : X → Data) (xs : List X) → AllByRecursion (λ x. P (f x)) xs → AllByRecursion P (map f xs)
all_mapped P f [] h = tt
all_mapped P f (x ∷ xs) h = (h.0, all_mapped P f xs h.1)

pub list_small : {X : Type 0} (k a m : ℕ) (f : X → Data) (xs : List X) → AllByRecursion (λ x. IsSmall k a (f x)) xs → length xs ≤ m → IsSmall (suc k) (2 + m * (a + 1)) (list_data f xs)
list_small k a m f xs h few =
    let are = all_mapped (IsSmall k a) f xs h in
    record {
      shallow = omega (arith, items_shallow k a (map f xs) are);
      whole = items_whole k a (map f xs) are;
      short = omega (arith, rw (length-map xs f) at (items_short k a false (map f xs) are), mul-le-mul_left (a + 1) few);
    }

-- ---- quantities

-- at most 10^14 in size
abbrev pub IsNarrow : ℤ → Type 0
IsNarrow q = unsigned_abs q ≤ 10 ^ 14

integer_whole : (z : ℤ) → has_float (number (of_integer z)) ≡ false
integer_whole (pos n) = refl
integer_whole (negsuc n) = refl

integer_short : (z : ℤ) → unsigned_abs z < 10 ^ 9 → length (number_text (of_integer z)) ≤ 10
integer_short (pos n) h = omega (arith, length-decimal-le_wide 9 n (omega arith) h (omega (arith, h)))
integer_short (negsuc n) h = omega (arith, length-decimal-le_wide 9 (suc n) (omega arith) h (omega (arith, h)))

pub integer_small : (z : ℤ) → unsigned_abs z < 10 ^ 9 → IsSmall 0 10 (number (of_integer z))
integer_small z h = record { shallow = omega arith; whole = integer_whole z; short = integer_short z h }

signed_size : (negative : Bool) (size : ℕ) → unsigned_abs (signed negative size) ≡ size
signed_size true size = omega (arith, ints)
signed_size false size = refl

length-fixed : (k n : ℕ) → length (fixed k n) ≡ k
unfolding fixed
length-fixed zero n = refl
length-fixed (suc k) n = omega (arith, length-append (fixed k (n / 10)) ((48 + n % 10) ∷ []), length-fixed k (n / 10))

either_short : (b : Bool) (k : ℕ) (x y : List ℕ) → length x ≤ k → length y ≤ k → length (cond b x y) ≤ k
either_short true k x y h m = h
either_short false k x y h m = m

length-trimmed : (k n : ℕ) → length (trimmed k n) ≤ k
unfolding trimmed
length-trimmed zero n = omega arith
length-trimmed (suc k) n =
    either_short (eqb (n % 10) 0) (suc k) (trimmed k (n / 10)) (fixed (suc k) n) (omega (arith, length-trimmed k (n / 10))) (omega (arith, length-fixed (suc k) n))

length-sign : (negative : Bool) → length (sign negative) ≤ 1
length-sign true = omega arith
length-sign false = omega arith

length-behind_point : (ds : List ℕ) → length (behind_point ds) ≤ 1 + length ds
length-behind_point [] = omega arith
length-behind_point (d ∷ ds) = omega arith

length-spelled : (negative : Bool) (size : ℕ) → size ≤ 10 ^ 14 → length (spelled negative size) ≤ 17
length-spelled negative size h =
    let whole = decimal (size / 10 ^ 6) in
    let rest = trimmed 6 (size % 10 ^ 6) in
    let few : size / 10 ^ 6 < 10 ^ 9 = omega (arith, h) in
    omega (
      arith,
      length-append (sign negative ++ whole) (behind_point rest),
      length-append (sign negative) whole,
      length-sign negative,
      length-decimal-le_wide 9 (size / 10 ^ 6) (omega arith) few (omega (arith, few)),
      length-behind_point rest,
      length-trimmed 6 (size % 10 ^ 6),
    )

written_small : (b : Bool) (d e : Data) → IsSmall 0 104 d → IsSmall 0 104 e → IsSmall 0 104 (cond b d e)
written_small true d e h m = h
written_small false d e h m = m

pub quantity_small : (q : ℤ) → IsNarrow q → IsSmall 0 104 (quantity_data q)
quantity_small q h =
    let negative = int_lt q (pos 0) in
    let size = unsigned_abs q in
    let few : unsigned_abs (units_of q) < 10 ^ 9 = omega (arith, signed_size negative (size / 10 ^ 6), h) in
    written_small (eqb (size % 10 ^ 6) 0) (number (of_integer (units_of q))) (string (shortest q))
    (weaker 0 0 10 104 (number (of_integer (units_of q))) (integer_small (units_of q) few) (omega arith) (omega arith))
    (string_small 17 (shortest q) (length-spelled negative size h))

-- ---- what is set, under its name

-- the value of what is set nests nothing and has at most 104 bytes
abbrev IsSetSmall : {X : Type 0} → (X → Data) → Option X → Type 0
IsSetSmall data_of None = Unit {0}
IsSetSmall data_of (Some x) = IsSmall 0 104 (data_of x)

set_at_small : {X : Type 0} (data_of : X → Data) (b : ℕ) (n : List ℕ) (x : Option X) (ms : Members) → IsShort n → IsSetSmall data_of x → AreSmall 0 b ms → AreSmall 0 (348 + b) (set_at data_of n x ms)
set_at_small data_of b n None ms h is are = record { shallow = are.shallow; whole = are.whole; short = omega (arith, are.short) }
set_at_small data_of b n (Some x) ms h is are = put_small 0 40 104 b n (data_of x) ms h is are

set_small : {X : Type 0} (data_of : X → Data) (ns : List (List ℕ)) (xs : List (Option X)) → AllByRecursion IsShort ns → AllByRecursion (IsSetSmall data_of) xs → AreSmall 0 (1 + length ns * 348) (set_members data_of ns xs)
set_small data_of [] xs h are = none_small 0
set_small data_of (n ∷ ns) [] h are = record { shallow = omega arith; whole = refl; short = omega arith }
set_small data_of (n ∷ ns) (x ∷ xs) h are =
    let rest = set_at_small data_of (1 + length ns * 348) n x (set_members data_of ns xs) h.0 are.0 (set_small data_of ns xs h.1 are.1) in
    record { shallow = rest.shallow; whole = rest.whole; short = omega (arith, rest.short) }

-- at most eight
few_set_small : {X : Type 0} (data_of : X → Data) (ns : List (List ℕ)) (xs : List (Option X)) → length ns ≤ 8 → AllByRecursion IsShort ns → AllByRecursion (IsSetSmall data_of) xs → IsSmall 1 2786 (object (set_members data_of ns xs))
few_set_small data_of ns xs few h are =
    let all = set_small data_of ns xs h are in
    object_small 0 2785 (set_members data_of ns xs) (record { shallow = all.shallow; whole = all.whole; short = omega (arith, all.short, few) })

-- ---- quantities and ratios under the names of the qualities

abbrev pub IsSetNarrow : Option ℤ → Type 0
IsSetNarrow None = Unit {0}
IsSetNarrow (Some q) = IsNarrow q

set_quantity_small : (q : Option ℤ) → IsSetNarrow q → IsSetSmall quantity_data q
set_quantity_small None is = tt
set_quantity_small (Some q) is = quantity_small q is

quantities_small : (ns : List (List ℕ)) (qs : List (Option ℤ)) → length ns ≤ 8 → AllByRecursion IsShort ns → AllByRecursion IsSetNarrow qs → IsSmall 1 2786 (object (set_members quantity_data ns qs))
quantities_small ns qs few h are = few_set_small quantity_data ns qs few h (each_by IsSetNarrow (IsSetSmall quantity_data) qs set_quantity_small are)

-- at most so many thousandths as there are
abbrev pub IsShare : ℕ → Type 0
IsShare r = r ≤ 1000

ratio_small : (r : ℕ) → IsShare r → IsSmall 0 104 (ratio_data r)
ratio_small r h = weaker 0 0 10 104 (ratio_data r) (integer_small (pos r) (omega (arith, h))) (omega arith) (omega arith)

each_ratio_small : (rs : List ℕ) → AllByRecursion IsShare rs → AllByRecursion (IsSetSmall ratio_data) (map Some rs)
each_ratio_small [] h = tt
each_ratio_small (r ∷ rs) h = (ratio_small r h.0, each_ratio_small rs h.1)

ratios_small : (ns : List (List ℕ)) (rs : List ℕ) → length ns ≤ 8 → AllByRecursion IsShort ns → AllByRecursion IsShare rs → IsSmall 1 2786 (object (set_members ratio_data ns (map Some rs)))
ratios_small ns rs few h are = few_set_small ratio_data ns (map Some rs) few h (each_ratio_small rs are)

-- ---- rows

next : {k a b : ℕ} {d : Data} {ms : Members} (m : ℕ) (n : List ℕ) → length n ≤ m → IsSmall k a d → AreSmall k b ms → AreSmall k (4 + 6 * m + a + b) (member n d ms)
next {k} {a} {b} {d} {ms} m n h is are = member_small k m a b n d ms h is are

raised : {k a : ℕ} {d : Data} (k' : ℕ) → k ≤ k' → IsSmall k a d → IsSmall k' a d
raised {k} {a} {d} k' h is = weaker k k' a a d is h (omega arith)

-- a row whose name is short and whose numbers are narrow
pub record IsSourceShort (s : Source) : Type 0 where
  pub name : IsShort s.name
  pub cost : IsNarrow s.cost
  pub max : s.max ≤ 10 ^ 14
  pub quality : AllByRecursion IsSetNarrow (map Some s.quality)

pub record IsPoolShort (p : Pool) : Type 0 where
  pub name : IsShort p.name
  pub max : p.max ≤ 10 ^ 14
  pub ratio : AllByRecursion IsShare p.ratio

pub record IsProductShort (p : Product) : Type 0 where
  pub name : IsShort p.name
  pub price : IsNarrow p.price
  pub min : p.min ≤ 10 ^ 14
  pub max : p.max ≤ 10 ^ 14
  pub least : AllByRecursion IsSetNarrow p.least
  pub most : AllByRecursion IsSetNarrow p.most

pub record IsArcShort (a : ArcRow) : Type 0 where
  pub from : IsShort a.from
  pub to : IsShort a.to
  pub cost : IsNarrow a.cost
  pub max : IsSetNarrow a.max

source_small : (names : List (List ℕ)) (s : Source) → length names ≤ 8 → AllByRecursion IsShort names → IsSourceShort s → IsSmall 2 3362 (source_data names s)
source_small names s few short is =
    object_small 1 3361 _
    (next 4 (codes "cost") (omega arith) (raised 1 (omega arith) (quantity_small s.cost is.cost))
    (next 3 (codes "max") (omega arith) (raised 1 (omega arith) (quantity_small (pos s.max) is.max))
    (next 4 (codes "name") (omega arith) (raised 1 (omega arith) (string_small 40 s.name is.name))
    (next 7 (codes "quality") (omega arith) (quantities_small names (map Some s.quality) few short is.quality) (none_small 1)))))

pool_small : (version : Version) (names : List (List ℕ)) (p : Pool) → length names ≤ 8 → AllByRecursion IsShort names → IsPoolShort p → IsSmall 2 3218 (pool_data version names p)
pool_small One names p few short is =
    weaker 1 2 398 3218 (pool_data One names p)
    (object_small 0 397 _
    (next 3 (codes "max") (omega arith) (quantity_small (pos p.max) is.max) (next 4 (codes "name") (omega arith) (string_small 40 p.name is.name) (none_small 0))))
    (omega arith) (omega arith)
pool_small Two names p few short is =
    object_small 1 3217 _
    (next 3 (codes "max") (omega arith) (raised 1 (omega arith) (quantity_small (pos p.max) is.max))
    (next 4 (codes "name") (omega arith) (raised 1 (omega arith) (string_small 40 p.name is.name))
    (next 5 (codes "ratio") (omega arith) (ratios_small names p.ratio few short is.ratio) (none_small 1))))

product_small : (names : List (List ℕ)) (p : Product) → length names ≤ 8 → AllByRecursion IsShort names → IsProductShort p → IsSmall 2 6296 (product_data names p)
product_small names p few short is =
    object_small 1 6295 _
    (next 5 (codes "least") (omega arith) (quantities_small names p.least few short is.least)
    (next 3 (codes "max") (omega arith) (raised 1 (omega arith) (quantity_small (pos p.max) is.max))
    (next 3 (codes "min") (omega arith) (raised 1 (omega arith) (quantity_small (pos p.min) is.min))
    (next 4 (codes "most") (omega arith) (quantities_small names p.most few short is.most)
    (next 4 (codes "name") (omega arith) (raised 1 (omega arith) (string_small 40 p.name is.name))
    (next 5 (codes "price") (omega arith) (raised 1 (omega arith) (quantity_small p.price is.price)) (none_small 1)))))))

arc_small : (version : Version) (a : ArcRow) → IsArcShort a → IsSmall 1 1010 (arc_data version a)
arc_small One a is =
    weaker 1 1 488 1010 (arc_data One a) (list_small 0 242 2 string (a.from ∷ a.to ∷ []) (string_small 40 a.from is.from, (string_small 40 a.to is.to, tt)) (omega arith)) (omega arith) (omega arith)
arc_small Two a is =
    object_small 0 1009 _
    (set_at_small quantity_data 661 (codes "max") a.max _ (omega arith) (set_quantity_small a.max is.max)
    (next 4 (codes "cost") (omega arith) (quantity_small a.cost is.cost)
    (next 4 (codes "from") (omega arith) (string_small 40 a.from is.from)
    (next 2 (codes "to") (omega arith) (string_small 40 a.to is.to) (none_small 0)))))

-- ---- the whole network

-- a network with few rows, whose names are short and whose numbers are narrow
pub record IsAllShort (n : Network) : Type 0 where
  pub few_qualities : length n.qualities ≤ 8
  pub few_sources : length n.sources ≤ 64
  pub few_pools : length n.pools ≤ 16
  pub few_products : length n.products ≤ 64
  pub few_arcs : length (canonical_arcs n) ≤ 256
  pub qualities : AllByRecursion IsShort n.qualities
  pub sources : AllByRecursion IsSourceShort n.sources
  pub pools : AllByRecursion IsPoolShort n.pools
  pub products : AllByRecursion IsProductShort n.products
  pub arcs : AllByRecursion IsArcShort (canonical_arcs n)

version_small : (version : Version) → IsSmall 0 10 (number (unsigned (version_number version)))
version_small One = integer_small (pos 1) (omega arith)
version_small Two = integer_small (pos 2) (omega arith)

pub network_small : (version : Version) (n : Network) → IsAllShort n → IsSmall 4 1048576 (data_in version n)
network_small version n are =
    let qs = n.qualities in
    let arcs : IsSmall 3 258818 (list_data (arc_data version) (canonical_arcs n)) =
    raised 3 (omega arith) (list_small 1 1010 256 (arc_data version) (canonical_arcs n)
    (each_by IsArcShort (λ a. IsSmall 1 1010 (arc_data version a)) (canonical_arcs n) (arc_small version)
    are.arcs) are.few_arcs) in
    let pools : IsSmall 3 51506 (list_data (pool_data version qs) n.pools) =
    list_small 2 3218 16 (pool_data version qs) n.pools
    (each_by IsPoolShort (λ p. IsSmall 2 3218 (pool_data version qs p)) n.pools
    (λ p h. pool_small version qs p are.few_qualities are.qualities h) are.pools) are.few_pools in
    let products : IsSmall 3 403010 (list_data (product_data qs) n.products) =
    list_small 2 6296 64 (product_data qs) n.products
    (each_by IsProductShort (λ p. IsSmall 2 6296 (product_data qs p)) n.products
    (λ p h. product_small qs p are.few_qualities are.qualities h) are.products) are.few_products in
    let qualities : IsSmall 3 1946 (list_data string qs) =
    raised 3 (omega arith) (list_small 0 242 8 string qs (each_by IsShort (λ t. IsSmall 0 242 (string t)) qs (λ t h. string_small 40 t h) are.qualities) are.few_qualities) in
    let sources : IsSmall 3 215234 (list_data (source_data qs) n.sources) =
    list_small 2 3362 64 (source_data qs) n.sources
    (each_by IsSourceShort (λ s. IsSmall 2 3362 (source_data qs s)) n.sources
    (λ s h. source_small qs s are.few_qualities are.qualities h) are.sources) are.few_sources in
    let said : IsSmall 3 10 (number (unsigned (version_number version))) = raised 3 (omega arith) (version_small version) in
    weaker 4 4 930790 1048576 (data_in version n)
    (object_small 3 930789 _
    (next 4 (codes "arcs") (omega arith) arcs
    (next 5 (codes "pools") (omega arith) pools
    (next 8 (codes "products") (omega arith) products
    (next 9 (codes "qualities") (omega arith) qualities
    (next 7 (codes "sources") (omega arith) sources
    (next 7 (codes "version") (omega arith) said (none_small 3))))))))
    (omega arith) (omega arith)

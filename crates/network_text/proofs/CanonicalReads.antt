-- The canonical value of a network is read as its canonical rows.
use Rattle.std.proofs.Common.{◌≡◌, ◌≢◌, ℕ, ℤ, pos, ◌+◌, Bool, true, false, ◌||◌, List, [], ◌∷◌, length, map, Option, Some, None, Result, Ok, bytes_eq, is_some}
use Rattle.std.proofs.Common.{Ordering, Less, Equal, Greater, refl, sym, ap, ◌∙◌, arith}
use Rattle.std.specs.List.{list_all, AllByRecursion}
use Rattle.std.specs.Ordering.{match_ordering, nat_cmp}
use Rattle.std.specs.Cmp.Lexicographic.{slice_cmp}
use Rattle.std.proofs.lemmas.List.{length-map}
use Rattle.std.proofs.lemmas.Bool.{and_from, and_parts}
use Rattle.std.proofs.lemmas.Slice.Eq.{bytes_eq-Decides}
use Rattle.serde_json.specs.Data.{Data, number, unsigned, string, object, Members, no_members, member, put}
use Rattle.serde_json.specs.Find.{get, get_member}
use Rattle.serde_json.specs.View.{items_of}
use Rattle.serde_json.proofs.Views.{get_member-put, get_member-put_other}
use Rattle.pool_model.specs.Rows.{ArcRow}
use Rattle.pool_model.specs.Network.{Source, Pool, Product, Network}
use Rattle.blend_network.specs.Canonical.{canonical_source, canonical_pool, canonical_product, canonical_arcs, canonical_rows}
use Rattle.json_walk.specs.declared.fault.Place.{Place}
use Rattle.json_walk.specs.declared.fault.ReadNet.{ReadNet}
use Rattle.json_walk.specs.declared.fault.Section.{Section}
use Rattle.json_walk.specs.declared.version.Version.{Version}
use Rattle.json_walk.specs.declared.version.Version.TheVariants.{One, Two}
use Rattle.json_walk.specs.declared.fault.Section.TheVariants.{Qualities, Sources, Pools, Products, Arcs}
use Rattle.json_walk.specs.Walk.{◌>>=◌, Walk, text, quantity, ratio, object as object_at, names_in, is_among, present, needs, allows, if_there, each, list_of, items, rows, place, top, version, version_number}
use Rattle.network_json.specs.Format.{quality, limit, limits, source, ratios, untreated, pool, product, plain_arc, priced_arc, arc, lists, network}
use Rattle.network_values.specs.Values.{quantity_data, ratio_data, set_at, set_members, members_in, list_data, source_data, pool_data, product_data, arc_data}
use Rattle.network_text.specs.Canonical.{data_in}

-- a quantity is read from its value
abbrev pub IsRead : ℤ → Type 0
IsRead q = (at : Place) → quantity at (quantity_data q) ≡ Ok q

-- a quantity is read, where it is set
abbrev pub IsSetRead : Option ℤ → Type 0
IsSetRead None = Unit {0}
IsSetRead (Some q) = IsRead q

-- no name stands twice
abbrev pub AreDistinct : List (List ℕ) → Type 0
AreDistinct [] = Unit {0}
AreDistinct (n ∷ ns) = AllByRecursion (λ m. m ≢ n) ns × AreDistinct ns

-- ---- lists

-- each item is read as the row that it stands for
pub each_read : {A X Y : Type 0} (w : ℕ → A → Result Y ReadNet) (f : X → A) (g : X → Y) (xs : List X) (n : ℕ)
    → AllByRecursion (λ x. (k : ℕ) → w k (f x) ≡ Ok (g x)) xs → each w n (map f xs) ≡ Ok (map g xs)
each_read w f g [] n h = refl
each_read w f g (x ∷ xs) n h = rw (h.0 n, each_read w f g xs (n + 1) h.1) refl

list_of-items_of : (ds : List Data) → list_of (items_of ds) ≡ ds
list_of-items_of [] = refl
list_of-items_of (d ∷ ds) = ap (λ es. d ∷ es) (list_of-items_of ds)

pub list_read : {X Y : Type 0} (section : Section) (walk : Place → Walk Y) (f : X → Data) (g : X → Y) (xs : List X) → AllByRecursion (λ x. (k : ℕ) → walk (place section k) (f x) ≡ Ok (g x)) xs
    → (items top (list_data f xs) >>= rows section walk) ≡ Ok (map g xs)
unfolding items rows
list_read section walk f g xs h = rw list_of-items_of (each_read (λ k. walk (place section k)) f g xs 0 h)

-- ---- an object of given names

known_at : (p : List ℕ → Bool) (o : Ordering) (k l : List ℕ) (d e : Data) (ms later : Members) → p k ≡ true → p l ≡ true → list_all p (names_in ms) ≡ true → list_all p (names_in later) ≡ true
    → list_all p (names_in (match_ordering o (member k d (member l e ms)) (member l d ms) (member l e later))) ≡ true
known_at p Less k l d e ms later pk pl pms plater = and_from _ _ pk (and_from _ _ pl pms)
known_at p Equal k l d e ms later pk pl pms plater = and_from _ _ pl pms
known_at p Greater k l d e ms later pk pl pms plater = and_from _ _ pl plater

known_put : (p : List ℕ → Bool) (k : List ℕ) (d : Data) (ms : Members) → p k ≡ true → list_all p (names_in ms) ≡ true → list_all p (names_in (put k d ms)) ≡ true
known_put p k d no_members pk pms = and_from _ _ pk refl
known_put p k d (member l e ms) pk pms =
    let parts = and_parts (p l) (list_all p (names_in ms)) pms in
    known_at p (slice_cmp nat_cmp k l) k l d e ms (put k d ms) pk parts.0 parts.1 (known_put p k d ms pk parts.1)

known_set : {X : Type 0} (data_of : X → Data) (p : List ℕ → Bool) (k : List ℕ) (x : Option X) (ms : Members) → p k ≡ true → list_all p (names_in ms) ≡ true
    → list_all p (names_in (set_at data_of k x ms)) ≡ true
known_set data_of p k None ms pk pms = pms
known_set data_of p k (Some x) ms pk pms = known_put p k (data_of x) ms pk pms

set_known : {X : Type 0} (data_of : X → Data) (p : List ℕ → Bool) (ns : List (List ℕ)) (xs : List (Option X)) → list_all p ns ≡ true → list_all p (names_in (set_members data_of ns xs)) ≡ true
set_known data_of p [] xs h = refl
set_known data_of p (n ∷ ns) [] h = refl
set_known data_of p (n ∷ ns) (x ∷ xs) h =
    let parts = and_parts (p n) (list_all p ns) h in
    known_set data_of p n x (set_members data_of ns xs) parts.0 (set_known data_of p ns xs parts.1)

or_left : (a b : Bool) → a ≡ true → (a || b) ≡ true
or_left true b h = refl
or_left false b h = absurd cc

or_right : (a b : Bool) → b ≡ true → (a || b) ≡ true
or_right true b h = refl
or_right false b h = h

-- more names know what fewer know
still_among : (n : List ℕ) (names ks : List (List ℕ)) → list_all (is_among names) ks ≡ true → list_all (is_among (n ∷ names)) ks ≡ true
still_among n names [] h = refl
still_among n names (k ∷ ks) h =
    let parts = and_parts (is_among names k) _ h in
    and_from _ _ (or_right (bytes_eq n k) (is_among names k) parts.0) (still_among n names ks parts.1)

all_among : (names : List (List ℕ)) → list_all (is_among names) names ≡ true
all_among [] = refl
all_among (n ∷ ns) = and_from _ _ (or_left _ _ ((bytes_eq-Decides n n).1 refl)) (still_among n ns ns (all_among ns))

-- a test that holds where another does
list_all_weaker : (p q : List ℕ → Bool) (ks : List (List ℕ)) → ((k : List ℕ) → p k ≡ true → q k ≡ true) → list_all p ks ≡ true → list_all q ks ≡ true
list_all_weaker p q [] h e = refl
list_all_weaker p q (k ∷ ks) h e =
    let parts = and_parts (p k) (list_all p ks) e in
    and_from _ _ (h k parts.0) (list_all_weaker p q ks h parts.1)

-- ---- what stands under each name

-- the value of what is set
abbrev data_if : {X : Type 0} → (X → Data) → Option X → Option Data
data_if data_of None = None
data_if data_of (Some x) = Some (data_of x)

-- under each name stands its value, if it is set
abbrev HoldsMembers : {X : Type 0} → (X → Data) → Members → List (List ℕ) → List (Option X) → Type 0
HoldsMembers data_of ms [] [] = Unit {0}
HoldsMembers data_of ms [] (x ∷ xs) = ⊥
HoldsMembers data_of ms (n ∷ ns) [] = ⊥
HoldsMembers data_of ms (n ∷ ns) (x ∷ xs) = (get_member n ms ≡ data_if data_of x) × HoldsMembers data_of ms ns xs

absent_put : (n m : List ℕ) (d : Data) (ms : Members) → m ≢ n → get_member n ms ≡ None → get_member n (put m d ms) ≡ None
absent_put n m d ms apart h = get_member-put_other n m d ms (λ e. apart (sym e)) ∙ h

-- by the value of each
module _ {X : Type 0} (data_of : X → Data) where
  get_other : (m n : List ℕ) (x : Option X) (ms : Members) → m ≢ n → get_member m (set_at data_of n x ms) ≡ get_member m ms
  get_other m n None ms apart = refl
  get_other m n (Some x) ms apart = get_member-put_other m n (data_of x) ms apart

  holds_set : (n : List ℕ) (o : Option X) (ms : Members) (ns : List (List ℕ)) (xs : List (Option X)) → AllByRecursion (λ m. m ≢ n) ns → HoldsMembers data_of ms ns xs → HoldsMembers data_of (set_at data_of n o ms) ns xs
  holds_set n o ms [] [] apart h = tt
  holds_set n o ms [] (x ∷ xs) apart h = h
  holds_set n o ms (m ∷ ns) [] apart h = h
  holds_set n o ms (m ∷ ns) (x ∷ xs) apart h = (get_other m n o ms apart.0 ∙ h.0, holds_set n o ms ns xs apart.1 h.1)

  absent : (n : List ℕ) (ns : List (List ℕ)) (xs : List (Option X)) → AllByRecursion (λ m. m ≢ n) ns → get_member n (set_members data_of ns xs) ≡ None
  absent n [] xs apart = refl
  absent n (m ∷ ns) [] apart = refl
  absent n (m ∷ ns) (None ∷ xs) apart = absent n ns xs apart.1
  absent n (m ∷ ns) (Some x ∷ xs) apart = absent_put n m (data_of x) (set_members data_of ns xs) apart.0 (absent n ns xs apart.1)

  get_set : (n : List ℕ) (x : Option X) (ms : Members) → get_member n ms ≡ None → get_member n (set_at data_of n x ms) ≡ data_if data_of x
  get_set n None ms h = h
  get_set n (Some x) ms h = get_member-put n (data_of x) ms

  holds : (ns : List (List ℕ)) (xs : List (Option X)) → AreDistinct ns → length xs ≡ length ns → HoldsMembers data_of (set_members data_of ns xs) ns xs
  holds [] [] distinct len = tt
  holds [] (x ∷ xs) distinct len = absurd (omega arith)
  holds (n ∷ ns) [] distinct len = absurd (omega arith)
  holds (n ∷ ns) (x ∷ xs) distinct len = (
    get_set n x (set_members data_of ns xs) (absent n ns xs distinct.0),
    holds_set n x (set_members data_of ns xs) ns xs distinct.0 (holds ns xs distinct.1 (omega arith)),
  )

-- ---- qualities, limits and ratios

-- an object of some of the names has no other member
some_known : {X : Type 0} (data_of : X → Data) (ns : List (List ℕ)) (xs : List (Option X)) → list_all (λ k. is_among [] k || is_among ns k) (names_in (set_members data_of ns xs)) ≡ true
some_known data_of ns xs =
    set_known data_of (λ k. is_among [] k || is_among ns k) ns xs (list_all_weaker (is_among ns) (λ k. is_among [] k || is_among ns k) ns (λ k h. h) (all_among ns))

limit_there : (at : Place) (q : Option ℤ) (o : Option Data) → o ≡ data_if quantity_data q → IsSetRead q → if_there (limit at) None o ≡ Ok q
unfolding limit
limit_there at None o e h = rw e refl
limit_there at (Some q) o e h = rw (e, h at) refl

each_limit : (at : Place) (ms : Members) (i : ℕ) (ns : List (List ℕ)) (qs : List (Option ℤ)) → HoldsMembers quantity_data ms ns qs
    → AllByRecursion IsSetRead qs → each (λ n k. allows k None (limit at) (object ms)) i ns ≡ Ok qs
each_limit at ms i [] [] h are = refl
each_limit at ms i [] (q ∷ qs) h are = absurd h
each_limit at ms i (n ∷ ns) [] h are = absurd h
each_limit at ms i (n ∷ ns) (q ∷ qs) h are = rw (limit_there at q (get_member n ms) h.0 are.0, each_limit at ms (i + 1) ns qs h.1 are.1) refl

pub limits_read : (at : Place) (ns : List (List ℕ)) (qs : List (Option ℤ)) → AreDistinct ns → length qs ≡ length ns → AllByRecursion IsSetRead qs → limits ns at (object (set_members quantity_data ns qs)) ≡ Ok qs
unfolding limits object_at
limits_read at ns qs distinct len are =
    rw (some_known quantity_data ns qs) (each_limit at (set_members quantity_data ns qs) 0 ns qs (holds quantity_data ns qs distinct len) are)

all_there : (ms : Members) (ns : List (List ℕ)) (qs : List ℤ) → HoldsMembers quantity_data ms ns (map Some qs) → list_all (λ k. is_some (get k (object ms))) ns ≡ true
all_there ms [] qs h = refl
all_there ms (n ∷ ns) [] h = absurd h
all_there ms (n ∷ ns) (q ∷ qs) h = rw h.0 (all_there ms ns qs h.1)

each_quality : (at : Place) (ms : Members) (i : ℕ) (ns : List (List ℕ)) (qs : List ℤ) → HoldsMembers quantity_data ms ns (map Some qs)
    → AllByRecursion IsRead qs → each (λ n k. needs at k (quantity at) (object ms)) i ns ≡ Ok qs
unfolding present
each_quality at ms i [] [] h are = refl
each_quality at ms i [] (q ∷ qs) h are = absurd h
each_quality at ms i (n ∷ ns) [] h are = absurd h
each_quality at ms i (n ∷ ns) (q ∷ qs) h are = rw (h.0, are.0 at, each_quality at ms (i + 1) ns qs h.1 are.1) refl

pub quality_read : (at : Place) (ns : List (List ℕ)) (qs : List ℤ) → AreDistinct ns → length qs ≡ length ns → AllByRecursion IsRead qs → quality ns at (object (set_members quantity_data ns (map Some qs))) ≡ Ok qs
unfolding quality object_at
quality_read at ns qs distinct len are =
    let held = holds quantity_data ns (map Some qs) distinct (length-map qs Some ∙ len) in
    let known : list_all (λ k. is_among ns k || is_among [] k) (names_in (set_members quantity_data ns (map Some qs))) ≡ true
    = set_known quantity_data (λ k. is_among ns k || is_among [] k) ns (map Some qs)
    (list_all_weaker (is_among ns) (λ k. is_among ns k || is_among [] k) ns
    (λ k h. or_left (is_among ns k) (is_among [] k) h) (all_among ns)) in
    rw (known, all_there (set_members quantity_data ns (map Some qs)) ns qs held) (each_quality at (set_members quantity_data ns (map Some qs)) 0 ns qs held are)

each_ratio : (at : Place) (ms : Members) (i : ℕ) (ns : List (List ℕ)) (rs : List ℕ) → HoldsMembers ratio_data ms ns (map Some rs)
    → each (λ n k. allows k (pos 1000) (ratio at) (object ms)) i ns ≡ Ok (map pos rs)
unfolding ratio
each_ratio at ms i [] [] h = refl
each_ratio at ms i [] (r ∷ rs) h = absurd h
each_ratio at ms i (n ∷ ns) [] h = absurd h
each_ratio at ms i (n ∷ ns) (r ∷ rs) h = rw (h.0, each_ratio at ms (i + 1) ns rs h.1) refl

pub ratios_read : (at : Place) (ns : List (List ℕ)) (rs : List ℕ) → AreDistinct ns → length rs ≡ length ns → ratios ns at (object (set_members ratio_data ns (map Some rs))) ≡ Ok (map pos rs)
unfolding ratios object_at
ratios_read at ns rs distinct len =
    rw (some_known ratio_data ns (map Some rs)) (each_ratio at (set_members ratio_data ns (map Some rs)) 0 ns rs (holds ratio_data ns (map Some rs) distinct (length-map rs Some ∙ len)))

-- ---- rows

-- a row whose quantities are read, with one place for each quality
pub record IsSourceRead (names : List (List ℕ)) (s : Source) : Type 0 where
  pub cost : IsRead s.cost
  pub max : IsRead (pos s.max)
  pub one_each : length s.quality ≡ length names
  pub quality : AllByRecursion IsRead s.quality

pub record IsProductRead (names : List (List ℕ)) (p : Product) : Type 0 where
  pub price : IsRead p.price
  pub min : IsRead (pos p.min)
  pub max : IsRead (pos p.max)
  pub least_each : length p.least ≡ length names
  pub least : AllByRecursion IsSetRead p.least
  pub most_each : length p.most ≡ length names
  pub most : AllByRecursion IsSetRead p.most

source_read : (names : List (List ℕ)) (s : Source) → AreDistinct names → IsSourceRead names s → (at : Place) → source names at (source_data names s) ≡ Ok (canonical_source s)
unfolding source object_at present text limit
source_read names s distinct is at = rw (is.cost at, is.max at, quality_read at names s.quality distinct is.one_each is.quality) refl

-- what a text of a version says of ratios: in version 1 each is the whole
abbrev pub IsRatioSaid : Version → List (List ℕ) → List ℕ → Type 0
IsRatioSaid One names rs = map pos rs ≡ untreated names
IsRatioSaid Two names rs = length rs ≡ length names

pub record IsPoolRead (version : Version) (names : List (List ℕ)) (p : Pool) : Type 0 where
  pub max : IsRead (pos p.max)
  pub ratio : IsRatioSaid version names p.ratio

pool_read : (version : Version) (names : List (List ℕ)) (p : Pool) → AreDistinct names → IsPoolRead version names p → (at : Place) → pool version names at (pool_data version names p) ≡ Ok (canonical_pool p)
unfolding pool object_at present text limit
pool_read One names p distinct is at = rw (is.max at, is.ratio) refl
pool_read Two names p distinct is at = rw (is.max at, ratios_read at names p.ratio distinct is.ratio) refl

product_read : (names : List (List ℕ)) (p : Product) → AreDistinct names → IsProductRead names p → (at : Place) → product names at (product_data names p) ≡ Ok (canonical_product p)
unfolding product object_at present text
product_read names p distinct is at =
    rw (
      is.price at,
      is.min at,
      is.max at,
      limits_read at names p.least distinct is.least_each is.least,
      limits_read at names p.most distinct is.most_each is.most,
    ) refl

-- an arc that costs nothing and has no maximum
pub record IsFree (a : ArcRow) : Type 0 where
  pub cost : a.cost ≡ pos 0
  pub max : a.max ≡ None

-- an arc whose cost and maximum are read
pub record IsPriced (a : ArcRow) : Type 0 where
  pub cost : IsRead a.cost
  pub max : IsSetRead a.max

-- an arc that a text of a version can say
abbrev pub IsArcRead : Version → ArcRow → Type 0
IsArcRead One a = IsFree a
IsArcRead Two a = IsPriced a

priced_read : (from to : List ℕ) (cost : ℤ) (max : Option ℤ) → IsRead cost → IsSetRead max → (at : Place)
    → priced_arc at (arc_data Two (record { from = from; to = to; cost = cost; max = max })) ≡ Ok (record { from = from; to = to; cost = cost; max = max })
unfolding priced_arc object_at present text limit
priced_read from to cost None c m at = rw (c at) refl
priced_read from to cost (Some q) c m at = rw (c at, m at) refl

arc_read : (version : Version) (a : ArcRow) → IsArcRead version a → (at : Place) → arc version at (arc_data version a) ≡ Ok a
unfolding arc plain_arc items text
arc_read One a is at = rw (← is.cost, ← is.max) refl
arc_read Two a is at = priced_read a.from a.to a.cost a.max is.cost is.max at

version_read : (v : Version) (at : Place) → version at (number (unsigned (version_number v))) ≡ Ok v
unfolding version
version_read One at = refl
version_read Two at = refl

text_read : (x : List ℕ) (at : Place) → text at (string x) ≡ Ok x
unfolding text
text_read x at = refl

-- each element is read, whatever its number
pub each_by : {X : Type 0} (P : X → Type 0) (Q : X → Type 0) (xs : List X) → ((x : X) → P x → Q x) → AllByRecursion P xs → AllByRecursion Q xs
each_by P Q [] h are = tt
each_by P Q (x ∷ xs) h are = (h x are.0, each_by P Q xs h are.1)

each_always : {X : Type 0} (Q : X → Type 0) (xs : List X) → ((x : X) → Q x) → AllByRecursion Q xs
each_always Q [] h = tt
each_always Q (x ∷ xs) h = (h x, each_always Q xs h)

-- ---- the whole network

-- a network whose names are distinct, and whose rows are read of a text of this version
pub record IsAllRead (version : Version) (n : Network) : Type 0 where
  pub distinct : AreDistinct n.qualities
  pub sources : AllByRecursion (IsSourceRead n.qualities) n.sources
  pub pools : AllByRecursion (IsPoolRead version n.qualities) n.pools
  pub products : AllByRecursion (IsProductRead n.qualities) n.products
  pub arcs : AllByRecursion (IsArcRead version) (canonical_arcs n)

same_list : {X : Type 0} (xs : List X) → map (λ x. x) xs ≡ xs
same_list [] = refl
same_list (x ∷ xs) = ap (λ ys. x ∷ ys) (same_list xs)

pub network_read : (v : Version) (n : Network) → IsAllRead v n → network (data_in v n) ≡ Ok (canonical_rows n)
unfolding network lists object_at present
network_read v n are =
    let qs = n.qualities in
    let arcs = canonical_arcs n in
    rw (
      version_read v top,
      list_read Qualities text string (λ x. x) qs (each_always (λ x. (k : ℕ) → text (place Qualities k) (string x) ≡ Ok x) qs (λ x k. text_read x (place Qualities k))),
      same_list qs,
      list_read Sources (source qs) (source_data qs) canonical_source n.sources
          (each_by (IsSourceRead qs) (λ s. (k : ℕ)
          → source qs (place Sources k) (source_data qs s) ≡ Ok (canonical_source s)) n.sources
          (λ s h k. source_read qs s are.distinct h (place Sources k)) are.sources),
      list_read Pools (pool v qs) (pool_data v qs) canonical_pool n.pools
          (each_by (IsPoolRead v qs) (λ p. (k : ℕ)
          → pool v qs (place Pools k) (pool_data v qs p) ≡ Ok (canonical_pool p)) n.pools
          (λ p h k. pool_read v qs p are.distinct h (place Pools k)) are.pools),
      list_read Products (product qs) (product_data qs) canonical_product n.products
          (each_by (IsProductRead qs) (λ p. (k : ℕ)
          → product qs (place Products k) (product_data qs p) ≡ Ok (canonical_product p)) n.products
          (λ p h k. product_read qs p are.distinct h (place Products k)) are.products),
      list_read Arcs (arc v) (arc_data v) (λ x. x) arcs
          (each_by (IsArcRead v) (λ x. (k : ℕ)
          → arc v (place Arcs k) (arc_data v x) ≡ Ok x) arcs
          (λ x h k. arc_read v x h (place Arcs k)) are.arcs),
      same_list arcs,
    ) refl

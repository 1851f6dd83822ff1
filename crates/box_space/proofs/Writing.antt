-- Terms that are written number by number, and table part by table part.
use Rattle.std.proofs.Common.{◌≡◌, ℕ, zero, suc, ◌+◌, ◌*◌, ◌<◌, ◌≤◌, nat_lt, List, [], ◌∷◌, ◌++◌, length, get_or, take, if◌then◌else◌, ℤ, arith, refl, sym, ap, subst, ◌∙◌, append_assoc, length-append}
use Rattle.std.specs.List.{flat_map, sum_by}
use Rattle.std.proofs.lemmas.Bool.Decides.{nat_tests}
use Rattle.std.proofs.lemmas.List.{append-nil, take_more}
use Rattle.std.proofs.lemmas.List.Sums.{sum_by-cons}
use Rattle.std.proofs.lemmas.Grind.{flat_map-append}
use Rattle.integers.specs.Numbers.{numbers_at}
use Rattle.number_groups.proofs.Grouped.{numbers_at-few}
use Rattle.pool_model.specs.Network.{Net, IsLimited}
use Rattle.row_model.specs.Variables.{path_count}
use Rattle.row_model.specs.Catalogue.{Row}
use Rattle.box_space.specs.declared.table.Block.{Block}
use Rattle.box_space.specs.declared.table.Block.TheVariants.{Feeds, Outs, Directs, Paths, Proportions, Qualities, Mixed}
use Rattle.box_space.specs.declared.table.Terms.{Terms}
use Rattle.box_space.specs.declared.table.Terms.TheVariants.{Nothing, One, All as Every}
use Rattle.box_space.specs.Blocks.{rank, size_of, number_of}
use Rattle.blend_network.specs.Keys.{key_of, count_of}
use Rattle.box_space.specs.declared.rows.RowKind.{RowKind}
use Rattle.box_space.specs.Lines.{Line, term_of, terms_at}
use Rattle.box_space.specs.Tables.{AreTerms, AreKnown, AreRising, factor_of, terms_of, most_of}
use Rattle.box_space.specs.Written.{IsLineOf}
use Rattle.box_space.proofs.TermLists.{length-term_of}

-- ---- one item more of a list whose items have pieces

pub more : {X A : Type 0} (f : X → List A) (old row after : List A) (xs : List X) (k : ℕ) (d : X) → k < length xs → row ≡ old ++ flat_map f (take k xs)
    → after ≡ row ++ f (get_or xs k d) → after ≡ old ++ flat_map f (take (k + 1) xs)
more {X} {A} f old row after xs k d lt h new =
    new ∙ ap (λ (ts : List A). ts ++ f x) h ∙ append_assoc old (flat_map f (take k xs)) (f x)
    ∙ ap (λ (ts : List A). old ++ (flat_map f (take k xs) ++ ts)) (sym (append-nil (f x)))
    ∙ ap (λ (ts : List A). old ++ ts) (sym (flat_map-append f (take k xs) (x ∷ [])))
    ∙ ap (λ (ys : List X). old ++ flat_map f ys) (sym (take_more xs k d lt))
  where
    x : X
    x = get_or xs k d

-- there is room for it, where no piece is longer than is counted
pub more-room : {X A : Type 0} (f : X → List A) (most : X → ℕ) (old row : List A) (xs : List X) (k : ℕ) (d : X) → k < length xs
    → ((i : ℕ) → i < length xs → length (f (get_or xs i d)) ≤ most (get_or xs i d)) → row ≡ old ++ flat_map f (take k xs) → length row + most (get_or xs k d) ≤ length old + sum_by most xs
more-room {X} {A} f most old row xs k d lt short h =
    omega (arith, ap (length {A = A}) h, length-append old (flat_map f (take k xs)), within f most xs k d lt short)
  where
    within : (f : X → List A) (most : X → ℕ) (xs : List X) (k : ℕ) (d : X) → k < length xs → ((i : ℕ) → i < length xs → length (f (get_or xs i d)) ≤ most (get_or xs i d))
        → length (flat_map f (take k xs)) + most (get_or xs k d) ≤ sum_by most xs
    within f most [] k d lt short = absurd (omega arith)
    within f most (x ∷ xs) zero d lt short = omega (arith, sum_by-cons most x xs)
    within f most (x ∷ xs) (suc k) d lt short =
        omega (arith, sum_by-cons most x xs, length-append (f x) (flat_map f (take k xs)), short 0 (omega arith), within f most xs k d (omega arith) (λ i le. short (suc i) (omega arith)))

-- the same, where each piece is one element at most
pub one-room : {X A : Type 0} (f : X → List A) (old row : List A) (xs : List X) (k : ℕ) (d : X) → k < length xs → ((x : X) → length (f x) ≤ 1)
    → row ≡ old ++ flat_map f (take k xs) → length row < length old + length xs
one-room {X} {A} f old row xs k d lt short h = omega (arith, more-room f (λ x. 1) old row xs k d lt (λ i le. short (get_or xs i d)) h, ones xs)
  where
    ones : (xs : List X) → sum_by (λ x. 1) xs ≡ length xs
    ones [] = refl
    ones (x ∷ xs) = omega (arith, sum_by-cons (λ x. 1) x xs, ones xs)

-- ---- terms of tables

-- no more terms than numbers
short-terms_at : (var : ℕ → ℕ) (c : ℕ → ℤ) (numbers : List ℕ) → length (terms_at var c numbers) ≤ length numbers
short-terms_at var c [] = omega arith
short-terms_at var c (i ∷ is) = omega (arith, length-append (term_of (var i) (c i)) (terms_at var c is), length-term_of (var i) (c i), short-terms_at var c is)

pub short-terms : (n : Net) (t : Terms) → AreTerms n t → length (terms_of n t) ≤ most_of n t
short-terms n Nothing h = omega arith
short-terms n (One b i c) h = length-term_of (number_of n b i) c
short-terms n (Every b key node f) h =
    let numbers = numbers_at (key_of n key) node (count_of n key) in
    omega (arith, short-terms_at (number_of n b) (factor_of n b f) numbers, numbers_at-few (key_of n key) node (count_of n key), h.1)

-- what holds of a table's terms holds of each
pub known-at : (n : Net) (ts : List Terms) (k : ℕ) (d : Terms) → k < length ts → AreKnown n ts → AreTerms n (get_or ts k d)
known-at n [] k d lt h = absurd (omega arith)
known-at n (t ∷ ts) zero d lt h = h.0
known-at n (t ∷ ts) (suc k) d lt h = known-at n ts k d (omega arith) h.1

-- ---- a whole table has few terms

-- the paths may come yet
abbrev spare : ℕ → ℕ
spare r = if nat_lt 3 r then 0 else 256

spare-less : (q r : ℕ) → q ≤ r → spare r ≤ spare q
spare-less q r le = grind (arith, nat_tests)

block-few : (n : Net) (b : Block) → IsLimited n → path_count n ≤ 512 → size_of n b + spare (suc (rank b)) ≤ 256 + spare (rank b)
block-few n Feeds l p = omega (arith, l.feeds)
block-few n Outs l p = omega (arith, l.outs)
block-few n Directs l p = omega (arith, l.directs)
block-few n Paths l p = omega arith
block-few n Proportions l p = omega (arith, l.feeds)
block-few n (Qualities k) l p = omega (arith, l.pools)
block-few n (Mixed k) l p = omega (arith, l.outs)

pub table-few : (n : Net) (r : ℕ) (ts : List Terms) → IsLimited n → path_count n ≤ 512 → AreKnown n ts → AreRising r ts → sum_by (most_of n) ts ≤ 256 * length ts + spare r
table-few n r [] l p known rising = omega arith
table-few n r (Nothing ∷ ts) l p known rising = omega (arith, sum_by-cons (most_of n) Nothing ts, table-few n r ts l p known.1 rising)
table-few n r (One b i c ∷ ts) l p known rising =
    omega (arith, sum_by-cons (most_of n) (One b i c) ts, table-few n (suc (rank b)) ts l p known.1 rising.1, block-few n b l p, spare-less r (rank b) rising.0, known.0.1)
table-few n r (Every b key node f ∷ ts) l p known rising =
    omega (arith, sum_by-cons (most_of n) (Every b key node f) ts, table-few n (suc (rank b)) ts l p known.1 rising.1, block-few n b l p, spare-less r (rank b) rising.0)

-- ---- a line of a row

-- is one of the same row by another name
pub line-same : (n : Net) (r s : Row) (line : Line) (said : RowKind) → r ≡ s → IsLineOf n r line said → IsLineOf n s line said
line-same n r s line said e h = subst (λ (t : Row). IsLineOf n t line said) e h

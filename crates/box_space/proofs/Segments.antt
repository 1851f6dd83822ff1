-- The terms of a table, block by block, are those of its row by rising variable.
use Rattle.std.proofs.Common.{◌≡◌, ℕ, zero, suc, ◌+◌, ◌*◌, ◌/◌, ◌%◌, ◌<◌, ◌≤◌, List, [], ◌∷◌, ◌++◌, length, ℤ, pos, add-zero, arith, refl, sym, ap, subst, ◌∙◌}
use Rattle.std.specs.List.{flat_map}
use Rattle.std.proofs.lemmas.List.{append-nil}
use Rattle.integers.specs.Numbers.{numbers_at}
use Rattle.integers.specs.Sums.{piece}
use Rattle.pool_model.specs.Network.{Net}
use Rattle.row_model.specs.Variables.{PerVariable, none, path_count, variables, by_number}
use Rattle.row_model.specs.Catalogue.{when}
use Rattle.linear_program.specs.declared.terms.Term.{Term}
use Rattle.box_space.specs.declared.table.Block.{Block}
use Rattle.box_space.specs.declared.table.Block.TheVariants.{Feeds, Outs, Directs, Paths, Proportions, Qualities, Mixed}
use Rattle.box_space.specs.declared.table.Terms.{Terms}
use Rattle.box_space.specs.declared.table.Terms.TheVariants.{Nothing, One, All}
use Rattle.box_space.specs.Blocks.{IsBlock, rank, size_of, number_of, with_block}
use Rattle.blend_network.specs.Keys.{key_of, count_of}
use Rattle.box_space.specs.Lines.{term_of, terms_by, terms_from, terms_at}
use Rattle.box_space.specs.Tables.{AreRising, AreKnown, factor_of, coefs_of, terms_of}
use Rattle.box_space.proofs.TermLists.{terms_by-same, terms_by-zero, terms_by-one, terms_by-key, terms_from-split, column, terms_from-column}

-- ---- numbers kind by kind

-- so many variables, and a number for each
record Segment : Type 0 where
  size : ℕ
  of : ℕ → ℤ

-- the same by the variable's number
abbrev joined : List Segment → ℕ → ℤ
joined [] i = pos 0
joined (s ∷ []) i = s.of i
joined (s ∷ t ∷ ss) i = piece s.size s.of (joined (t ∷ ss)) i

abbrev total : List Segment → ℕ
total [] = 0
total (s ∷ ss) = s.size + total ss

-- how many stand in the first ones
abbrev start : ℕ → List Segment → ℕ
start zero ss = 0
start (suc r) [] = 0
start (suc r) (s ∷ ss) = s.size + start r ss

-- the size of one of them
abbrev size_at : ℕ → List Segment → ℕ
size_at r [] = 0
size_at zero (s ∷ ss) = s.size
size_at (suc r) (s ∷ ss) = size_at r ss

-- the numbers of one of them are f
abbrev put : ℕ → (ℕ → ℤ) → List Segment → List Segment
put r f [] = []
put zero f (s ∷ ss) = record { size = s.size; of = f } ∷ ss
put (suc r) f (s ∷ ss) = s ∷ put r f ss

abbrev terms_in : ℕ → List Segment → List Term
terms_in first [] = []
terms_in first (s ∷ ss) = terms_from first s.of s.size ++ terms_in (first + s.size) ss

terms_in-joined : (first : ℕ) (ss : List Segment) → terms_from first (joined ss) (total ss) ≡ terms_in first ss
terms_in-joined first [] = refl
terms_in-joined first (s ∷ []) = ap (λ (m : ℕ). terms_from first s.of m) (add-zero s.size) ∙ sym (append-nil (terms_from first s.of s.size))
terms_in-joined first (s ∷ t ∷ ss) =
    terms_from-split first s.size s.of (joined (t ∷ ss)) (total (t ∷ ss)) ∙ ap (λ (ts : List Term). terms_from first s.of s.size ++ ts) (terms_in-joined (first + s.size) (t ∷ ss))

-- ---- where the first numbers are 0

-- the numbers of the first ones are 0
abbrev AreZero : ℕ → List Segment → Type 0
AreZero zero ss = Unit {0}
AreZero (suc r) [] = Unit {0}
AreZero (suc r) (s ∷ ss) = ((i : ℕ) → s.of i ≡ pos 0) × AreZero r ss

zero-less : (q r : ℕ) (ss : List Segment) → q ≤ r → AreZero r ss → AreZero q ss
zero-less zero r ss le h = tt
zero-less (suc q) zero ss le h = absurd (omega arith)
zero-less (suc q) (suc r) [] le h = tt
zero-less (suc q) (suc r) (s ∷ ss) le h = (h.0, zero-less q r ss (omega arith) h.1)

zero-put : (r j : ℕ) (f : ℕ → ℤ) (ss : List Segment) → r ≤ j → AreZero r ss → AreZero r (put j f ss)
zero-put zero j f ss le h = tt
zero-put (suc r) j f [] le h = tt
zero-put (suc r) zero f (s ∷ ss) le h = absurd (omega arith)
zero-put (suc r) (suc j) f (s ∷ ss) le h = (h.0, zero-put r j f ss (omega arith) h.1)

zero-any : (ss : List Segment) → AreZero (length ss) ss → (r : ℕ) → AreZero r ss
zero-any ss h zero = tt
zero-any [] h (suc r) = tt
zero-any (s ∷ ss) h (suc r) = (h.0, zero-any ss h.1 r)

terms_in-zero : (first : ℕ) (ss : List Segment) → AreZero (length ss) ss → terms_in first ss ≡ []
terms_in-zero first [] h = refl
terms_in-zero first (s ∷ ss) h =
    ap (λ (ts : List Term). ts ++ terms_in (first + s.size) ss) (terms_by-zero (λ i. first + i) s.of s.size (λ i lt. h.0 i)) ∙ terms_in-zero (first + s.size) ss h.1

-- numbers that are put behind zeros stand in front of the others
terms_in-put : (first r : ℕ) (f : ℕ → ℤ) (ss : List Segment) → r < length ss → AreZero (suc r) ss
    → terms_in first (put r f ss) ≡ terms_from (first + start r ss) f (size_at r ss) ++ terms_in first ss
terms_in-put first r f [] lt h = absurd (omega arith)
terms_in-put first zero f (s ∷ ss) lt h =
    ap (λ (ts : List Term). terms_from first f s.size ++ (ts ++ terms_in (first + s.size) ss)) (sym (terms_by-zero (λ i. first + i) s.of s.size (λ i le. h.0 i)))
    ∙ ap (λ (a : ℕ). terms_from a f s.size ++ terms_in first (s ∷ ss)) (sym (add-zero first))
terms_in-put first (suc r) f (s ∷ ss) lt h =
    let nothing : terms_from first s.of s.size ≡ [] = terms_by-zero (λ i. first + i) s.of s.size (λ i le. h.0 i) in
    let place : first + s.size + start r ss ≡ first + (s.size + start r ss) = omega arith in
    ap (λ (ts : List Term). ts ++ terms_in (first + s.size) (put r f ss)) nothing
    ∙ terms_in-put (first + s.size) r f ss (omega arith) h.1
    ∙ ap (λ (a : ℕ). terms_from a f (size_at r ss) ++ terms_in (first + s.size) ss) place
    ∙ ap (λ (ts : List Term). terms_from (first + (s.size + start r ss)) f (size_at r ss) ++ (ts ++ terms_in (first + s.size) ss)) (sym nothing)

-- ---- the variables of a network

abbrev segments : Net → PerVariable → List Segment
segments n a =
    record { size = n.feeds; of = a.x }
    ∷ record { size = n.outs; of = a.y }
    ∷ record { size = n.directs; of = a.z }
    ∷ record { size = path_count n; of = a.w }
    ∷ record { size = n.feeds; of = a.proportion }
    ∷ record { size = n.pools * n.qualities; of = λ i. a.quality (i / n.qualities) (i % n.qualities) }
    ∷ record { size = n.outs * n.qualities; of = λ i. a.mixed (i / n.qualities) (i % n.qualities) }
    ∷ []

all_terms : (n : Net) (a : PerVariable) → terms_from 0 (by_number n a) (variables n) ≡ terms_in 0 (segments n a)
all_terms n a = ap (λ (m : ℕ). terms_from 0 (by_number n a) m) count ∙ terms_in-joined 0 (segments n a)
  where
    count : variables n ≡ total (segments n a)
    count = omega arith

-- the numbers of a block, among those of its kind
abbrev spread : Net → Block → (ℕ → ℤ) → ℕ → ℤ
spread n (Qualities k) f = column n.qualities k f
spread n (Mixed k) f = column n.qualities k f
spread n _ f = f

with-put : (n : Net) (b : Block) (f : ℕ → ℤ) (a : PerVariable) → segments n (with_block b f a) ≡ put (rank b) (spread n b f) (segments n a)
with-put n Feeds f a = refl
with-put n Outs f a = refl
with-put n Directs f a = refl
with-put n Paths f a = refl
with-put n Proportions f a = refl
with-put n (Qualities k) f a = refl
with-put n (Mixed k) f a = refl

block_terms : (n : Net) (b : Block) (f : ℕ → ℤ) (a : PerVariable) → IsBlock n b
    → terms_from (0 + start (rank b) (segments n a)) (spread n b f) (size_at (rank b) (segments n a)) ≡ terms_by (number_of n b) f (size_of n b)
block_terms n Feeds f a h = refl
block_terms n Outs f a h = terms_by-same _ (number_of n Outs) f f n.outs (λ i lt. omega arith) (λ i lt. refl)
block_terms n Directs f a h = terms_by-same _ (number_of n Directs) f f n.directs (λ i lt. omega arith) (λ i lt. refl)
block_terms n Paths f a h = terms_by-same _ (number_of n Paths) f f (path_count n) (λ i lt. omega arith) (λ i lt. refl)
block_terms n Proportions f a h = terms_by-same _ (number_of n Proportions) f f n.feeds (λ i lt. omega arith) (λ i lt. refl)
block_terms n (Qualities k) f a h = terms_from-column _ n.qualities k f n.pools h ∙ terms_by-same _ (number_of n (Qualities k)) f f n.pools (λ i lt. omega arith) (λ i lt. refl)
block_terms n (Mixed k) f a h = terms_from-column _ n.qualities k f n.outs h ∙ terms_by-same _ (number_of n (Mixed k)) f f n.outs (λ i lt. omega arith) (λ i lt. refl)

-- a block more, in front of those that follow it
block_more : (n : Net) (b : Block) (f : ℕ → ℤ) (a : PerVariable) → IsBlock n b → AreZero (suc (rank b)) (segments n a)
    → terms_by (number_of n b) f (size_of n b) ++ terms_in 0 (segments n a) ≡ terms_in 0 (segments n (with_block b f a))
block_more n b f a h none =
    ap (λ (ts : List Term). ts ++ terms_in 0 (segments n a)) (sym (block_terms n b f a h))
    ∙ sym (terms_in-put 0 (rank b) (spread n b f) (segments n a) (few b) none)
    ∙ ap (λ (ss : List Segment). terms_in 0 ss) (sym (with-put n b f a))
  where
    few : (b : Block) → rank b < 7
    few Feeds = omega arith
    few Outs = omega arith
    few Directs = omega arith
    few Paths = omega arith
    few Proportions = omega arith
    few (Qualities k) = omega arith
    few (Mixed k) = omega arith

-- ---- tables

-- what the terms of blocks from a rank on are, and that no block of a lower rank has any
record IsWhole (n : Net) (r : ℕ) (ts : List Terms) : Type 0 where
  terms : flat_map (terms_of n) ts ≡ terms_in 0 (segments n (coefs_of n ts))
  zero : AreZero r (segments n (coefs_of n ts))

whole_more : (n : Net) (r : ℕ) (b : Block) (f : ℕ → ℤ) (ts : List Terms) (own : List Term) → own ≡ terms_by (number_of n b) f (size_of n b) → IsBlock n b → r ≤ rank b
    → IsWhole n (suc (rank b)) ts
    → (own ++ flat_map (terms_of n) ts ≡ terms_in 0 (segments n (with_block b f (coefs_of n ts)))) × AreZero r (segments n (with_block b f (coefs_of n ts)))
whole_more n r b f ts own e h le w =
    let a = coefs_of n ts in (
      ap (λ (us : List Term). us ++ flat_map (terms_of n) ts) e ∙ ap (λ (us : List Term). terms_by (number_of n b) f (size_of n b) ++ us) w.terms ∙ block_more n b f a h w.zero,
      subst (λ (ss : List Segment). AreZero r ss) (sym (with-put n b f a)) (zero-put r (rank b) (spread n b f) (segments n a) le (zero-less r (suc (rank b)) (segments n a) (omega arith) w.zero)),
    )

whole : (n : Net) (r : ℕ) (ts : List Terms) → AreKnown n ts → AreRising r ts → IsWhole n r ts
whole n r [] known rising =
    let zeros : AreZero 7 (segments n none) = (λ i. refl, (λ i. refl, (λ i. refl, (λ i. refl, (λ i. refl, (λ i. refl, (λ i. refl, tt))))))) in
    record { terms = sym (terms_in-zero 0 (segments n none) zeros); zero = zero-any (segments n none) zeros r }
whole n r (Nothing ∷ ts) known rising = let w = whole n r ts known.1 rising in record { terms = w.terms; zero = w.zero }
whole n r (One b i c ∷ ts) known rising =
    let own = sym (terms_by-one (number_of n b) i c (size_of n b) known.0.1) in
    let more = whole_more n r b (λ j. when j i c) ts (term_of (number_of n b i) c) own known.0.0 rising.0 (whole n (suc (rank b)) ts known.1 rising.1) in
    record { terms = more.0; zero = more.1 }
whole n r (All b key node f ∷ ts) known rising =
    let numbers = numbers_at (key_of n key) node (count_of n key) in
    let own = sym (ap (λ (m : ℕ). terms_by (number_of n b) (λ i. when (key_of n key i) node (factor_of n b f i)) m) (sym known.0.1)
    ∙ terms_by-key (number_of n b) (key_of n key) node (factor_of n b f) (count_of n key)) in
    let more = whole_more n r b (λ i. when (key_of n key i) node (factor_of n b f i)) ts
    (terms_at (number_of n b) (factor_of n b f) numbers) own known.0.0 rising.0 (whole n (suc (rank b)) ts known.1 rising.1) in
    record { terms = more.0; zero = more.1 }

pub whole_terms : (n : Net) (ts : List Terms) → AreKnown n ts → AreRising 0 ts → flat_map (terms_of n) ts ≡ terms_from 0 (by_number n (coefs_of n ts)) (variables n)
whole_terms n ts known rising = (whole n 0 ts known rising).terms ∙ sym (all_terms n (coefs_of n ts))

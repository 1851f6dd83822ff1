-- The groups after one number more.
use Rattle.std.proofs.Common.{◌≡◌, ℕ, zero, suc, ◌+◌, ◌<◌, ◌≤◌, inl, inr, Bool, true, false, ◌==◌, if◌then◌else◌, List, [], ◌∷◌, ◌++◌, length, get_or, set, map}
use Rattle.std.proofs.Common.{All, sym, ap, ◌∙◌, arith, length-append}
use Rattle.std.proofs.lemmas.List.{map-set, length-set, get_or-set_same, get_or-set_other, get_or-map, length-map}
use Rattle.integers.specs.Numbers.{numbers_at, tabulate}
use Rattle.integers.proofs.AtKey.{same_or_other}
use Rattle.integers.proofs.Numbers.{numbers_at-each, numbers_at-yes, numbers_at-no, numbers_at-same}
use Rattle.integers.proofs.Tabulate.{length-tabulate, get_or-tabulate, tabulate-same, same-tabulate}
use Rattle.number_groups.specs.Groups.{groups_of}

-- how many there are
pub length-groups : {X : Type 0} (items : X → List ℕ) (xs : List X) (key : ℕ → ℕ) (n count : ℕ) → map items xs ≡ groups_of key n count → length xs ≡ count
length-groups items xs key n count is = sym (length-map xs items) ∙ ap length is ∙ length-tabulate (λ k. numbers_at key k n) count

-- the number is added to the group of its key
group_more : (key : ℕ → ℕ) (n count k : ℕ) (group : List ℕ) → k < count → key n ≡ k → group ≡ numbers_at key k n ++ n ∷ [] → set (groups_of key n count) k group ≡ groups_of key (n + 1) count
group_more key n count k group lt at is =
    let many : length (groups_of key n count) ≡ count = length-tabulate (λ j. numbers_at key j n) count in
    same-tabulate (set (groups_of key n count) k group) (λ j. numbers_at key j (n + 1)) count [] (length-set (groups_of key n count) k group ∙ many)
    (λ i below. elim (same_or_other i k) [
      | inl e ↦ ap (λ j. get_or (set (groups_of key n count) k group) j []) e
          ∙ get_or-set_same (groups_of key n count) k group [] (omega (arith, many)) ∙ is
          ∙ sym (numbers_at-yes key k n at) ∙ ap (λ j. numbers_at key j (n + 1)) (sym e)
      | inr d ↦ get_or-set_other (groups_of key n count) k i group [] d ∙ get_or-tabulate (λ j. numbers_at key j n) count i [] below ∙ sym (numbers_at-no key i n (λ e. d (sym e ∙ at)))
    ])

-- the same where a list is shown by the numbers in its elements
pub groups_more : {X : Type 0} (items : X → List ℕ) (xs : List X) (key : ℕ → ℕ) (n count k : ℕ) (old new : X) → map items xs ≡ groups_of key n count → k < count → key n ≡ k → old ≡ get_or xs k old
    → items new ≡ items old ++ n ∷ [] → map items (set xs k new) ≡ groups_of key (n + 1) count
groups_more items xs key n count k old new is lt at was more =
    let here : items old ≡ numbers_at key k n
    = sym (get_or-map items xs k old [] (omega (arith, length-groups items xs key n count is)) ∙ ap items (sym was))
    ∙ ap (λ gs. get_or gs k []) is ∙ get_or-tabulate (λ j. numbers_at key j n) count k [] lt in
    map-set items xs k new
    ∙ ap (λ gs. set gs k (items new)) is
    ∙ group_more key n count k (items new) lt at (more ∙ ap (λ ns. ns ++ n ∷ []) here)

-- ---- what is known of groups
pub group_there : (groups : List (List ℕ)) (key : ℕ → ℕ) (n count k : ℕ) → groups ≡ groups_of key n count → k < count → k < length groups
group_there groups key n count k is lt = omega (arith, ap length is, length-tabulate (λ j. numbers_at key j n) count, lt)

pub group_at : (groups : List (List ℕ)) (key : ℕ → ℕ) (n count k : ℕ) → groups ≡ groups_of key n count → k < count → get_or groups k [] ≡ numbers_at key k n
group_at groups key n count k is lt = ap (λ gs. get_or gs k []) is ∙ get_or-tabulate (λ j. numbers_at key j n) count k [] lt

-- by keys that are the same below the count
pub groups_of-same : (key other : ℕ → ℕ) (n count : ℕ) → ((i : ℕ) → i < n → key i ≡ other i) → groups_of key n count ≡ groups_of other n count
groups_of-same key other n count same = tabulate-same (λ k. numbers_at key k n) (λ k. numbers_at other k n) count (λ k lt. numbers_at-same key other k n same)

-- by keys that a list has in order
pub groups_of-tabulate : (f : ℕ → ℕ) (n count : ℕ) (keys : List ℕ) → keys ≡ tabulate f n → groups_of (λ i. get_or keys i 0) (length keys) count ≡ groups_of f n count
groups_of-tabulate f n count keys is =
    ap (λ ks. groups_of (λ i. get_or ks i 0) (length ks) count) is
    ∙ ap (λ l. groups_of (λ i. get_or (tabulate f n) i 0) l count) (length-tabulate f n)
    ∙ groups_of-same (λ i. get_or (tabulate f n) i 0) f n count (λ i lt. get_or-tabulate f n i 0 lt)

-- ---- what is known of the numbers of a key
pub numbers_at-below : (key : ℕ → ℕ) (k n : ℕ) → All (λ i. i < n) (numbers_at key k n)
numbers_at-below key k n i d lt = (numbers_at-each key k n i d lt).0

pub numbers_at-few : (key : ℕ → ℕ) (k n : ℕ) → length (numbers_at key k n) ≤ n
numbers_at-few key k zero = omega arith
numbers_at-few key k (suc n) = omega (arith, numbers_at-few key k n, length-append (numbers_at key k n) (if key n == k then n ∷ [] else []), one (key n == k))
  where
    one : (b : Bool) → length (if b then n ∷ [] else []) ≤ 1
    one true = omega arith
    one false = omega arith

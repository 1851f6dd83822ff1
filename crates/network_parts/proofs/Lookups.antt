-- What looking up a name says of the list of names.
use Rattle.std.proofs.Common.{◌≡◌, ℕ, zero, suc, ◌+◌, ◌-◌, ◌<◌, List, [], ◌∷◌, ◌++◌, length, get_or, take, Contains, Bool, true, false, Option, None, Some}
use Rattle.std.proofs.Common.{option_map, is_some, if◌then◌else◌, bytes_eq, refl, sym, ap, subst, ◌∙◌, arith}
use Rattle.std.proofs.lemmas.Slice.Eq.{bytes_eq-Decides}
use Rattle.std.proofs.lemmas.List.Elements.{Contains-append_left, Contains-append_right, Contains-get_or}
use Rattle.std.proofs.lemmas.List.{length-map, length-append}
use Rattle.std.proofs.lemmas.Bool.Decides.{nat_tests}
use Rattle.pool_model.specs.Rows.{Rows}
use Rattle.pool_model.specs.Naming.{number_of, source_names, pool_names, product_names}
use Rattle.network_parts.specs.Faults.{IsRepeatAt, node_names}
use Rattle.network_parts.specs.declared.arcs.Node.{Node}
use Rattle.network_parts.specs.declared.arcs.Node.TheVariants.{Source, Pool, Product}
use Rattle.network_parts.specs.Nodes.{node_by_place, node_of, source_number, pool_number, product_number}
use Rattle.network_parts.specs.Ready.{IsDistinct}

-- where a name was found
pub record IsFound (name : List ℕ) (names : List (List ℕ)) (i : ℕ) : Type 0 where
  pub within : i < length names
  pub here : get_or names i [] ≡ name

found_by : (name n : List ℕ) (ns : List (List ℕ)) (b : Bool) (o : Option ℕ) (i : ℕ) → bytes_eq n name ≡ b → ((j : ℕ) → o ≡ Some j → IsFound name ns j)
    → (if b then Some 0 else option_map suc o) ≡ Some i → IsFound name (n ∷ ns) i
found_by name n ns true o zero e h is = record { within = omega arith; here = (bytes_eq-Decides n name).0 e }
found_by name n ns true o (suc i) e h is = cc
found_by name n ns false None i e h is = cc
found_by name n ns false (Some j) zero e h is = cc
found_by name n ns false (Some j) (suc i) e h is =
    let f = h j refl in
    let same : j ≡ i = cc in
    record { within = omega (arith, f.within); here = rw (← same) f.here }

pub number_of_some : (name : List ℕ) (names : List (List ℕ)) (i : ℕ) → number_of name names ≡ Some i → IsFound name names i
number_of_some name [] i e = cc
number_of_some name (n ∷ ns) i e = found_by name n ns (bytes_eq n name) (number_of name ns) i refl (λ j is. number_of_some name ns j is) e

numbered_by : (b : Bool) (o : Option ℕ) → is_some o ≡ true → is_some (if b then Some 0 else option_map suc o) ≡ true
numbered_by true o e = refl
numbered_by false (Some j) e = refl
numbered_by false None e = e

-- a name that is there has a number
pub has_number : (name : List ℕ) (names : List (List ℕ)) (k : ℕ) → k < length names → get_or names k name ≡ name → is_some (number_of name names) ≡ true
has_number name [] k h e = absurd (omega (arith, h))
has_number name (n ∷ ns) zero h e = ap (λ b. is_some (if b then Some 0 else option_map suc (number_of name ns))) ((bytes_eq-Decides n name).1 e)
has_number name (n ∷ ns) (suc k) h e = numbered_by (bytes_eq n name) (number_of name ns) (has_number name ns k (omega (arith, h)) e)

-- ---- the names of the nodes, one kind after another

-- the first of two, where the second is counted on
abbrev or_else : Option ℕ → ℕ → Option ℕ → Option ℕ
or_else (Some i) k o = Some i
or_else None k o = option_map (λ j. k + j) o

zero_on : (o : Option ℕ) → o ≡ option_map (λ j. 0 + j) o
zero_on None = refl
zero_on (Some j) = ap Some (omega arith)

suc_on : (a : Option ℕ) (k : ℕ) (o : Option ℕ) → option_map suc (or_else a k o) ≡ or_else (option_map suc a) (suc k) o
suc_on (Some i) k o = refl
suc_on None k None = refl
suc_on None k (Some j) = ap Some (omega arith)

cons_on : (b : Bool) (a : Option ℕ) (k : ℕ) (o : Option ℕ) → (if b then Some 0 else option_map suc (or_else a k o)) ≡ or_else (if b then Some 0 else option_map suc a) (suc k) o
cons_on true a k o = refl
cons_on false a k o = suc_on a k o

number_of-append : (name : List ℕ) (xs ys : List (List ℕ)) → number_of name (xs ++ ys) ≡ or_else (number_of name xs) (length xs) (number_of name ys)
number_of-append name [] ys = zero_on (number_of name ys)
number_of-append name (x ∷ xs) ys =
    ap (λ o. if bytes_eq x name then Some 0 else option_map suc o) (number_of-append name xs ys) ∙ cons_on (bytes_eq x name) (number_of name xs) (length xs) (number_of name ys)

-- the node by its number in each kind
abbrev node_from : Option ℕ → Option ℕ → Option ℕ → Option Node
node_from (Some i) p d = Some (Source i)
node_from None (Some l) d = Some (Pool l)
node_from None None (Some j) = Some (Product j)
node_from None None None = None

by_source : (s p i : ℕ) → i < s → node_by_place s p i ≡ Source i
by_source s p i h = grind (arith, nat_tests)

by_pool : (s p l : ℕ) → l < p → node_by_place s p (s + l) ≡ Pool l
by_pool s p l h = let e : s + l - s ≡ l = omega arith in grind (arith, nat_tests)

by_product : (s p j : ℕ) → node_by_place s p (s + p + j) ≡ Product j
by_product s p j = let e : s + p + j - s ≡ p + j = omega arith in let f : s + p + j - s - p ≡ j = omega arith in grind (arith, nat_tests)

by_place : (s p : ℕ) (a b c : Option ℕ) → ((i : ℕ) → a ≡ Some i → i < s) → ((l : ℕ) → b ≡ Some l → l < p)
    → option_map (node_by_place s p) (or_else (or_else a s b) (s + p) c) ≡ node_from a b c
by_place s p (Some i) b c ha hb = ap Some (by_source s p i (ha i refl))
by_place s p None (Some l) c ha hb = ap Some (by_pool s p l (hb l refl))
by_place s p None None (Some j) ha hb = ap Some (by_product s p j)
by_place s p None None None ha hb = refl

node_of_is : (r : Rows) (name : List ℕ) → node_of r name ≡ node_from (number_of name (source_names r)) (number_of name (pool_names r)) (number_of name (product_names r))
node_of_is r name =
    let ls = length-map r.sources (λ s. s.name) in
    let lp = length-map r.pools (λ p. p.name) in
    let e : number_of name (node_names r)
    ≡ or_else (or_else (number_of name (source_names r)) (length r.sources) (number_of name (pool_names r))) (length r.sources + length r.pools) (number_of name (product_names r))
    = number_of-append name (source_names r ++ pool_names r) (product_names r)
    ∙ ap (λ o. or_else o (length (source_names r ++ pool_names r)) (number_of name (product_names r))) (number_of-append name (source_names r) (pool_names r))
    ∙ ap (λ k. or_else (or_else (number_of name (source_names r)) (length (source_names r)) (number_of name (pool_names r))) k (number_of name (product_names r)))
    (length-append (source_names r) (pool_names r))
    ∙ ap (λ k. or_else (or_else (number_of name (source_names r)) k (number_of name (pool_names r))) (k + length (pool_names r)) (number_of name (product_names r))) ls
    ∙ ap (λ k. or_else (or_else (number_of name (source_names r)) (length r.sources) (number_of name (pool_names r))) (length r.sources + k) (number_of name (product_names r))) lp in
    ap (option_map (node_by_place (length r.sources) (length r.pools))) e
    ∙ by_place (length r.sources) (length r.pools) (number_of name (source_names r)) (number_of name (pool_names r)) (number_of name (product_names r))
    (λ i is. omega (arith, (number_of_some name (source_names r) i is).within, ls))
    (λ l is. omega (arith, (number_of_some name (pool_names r) l is).within, lp))

-- ---- distinct names

pub found_contains : (name : List ℕ) (names : List (List ℕ)) (i : ℕ) → number_of name names ≡ Some i → Contains names name
found_contains name names i is =
    let found = number_of_some name names i is in
    subst (λ x. Contains names x) found.here (Contains-get_or names i [] found.within)

-- a name that is among the first is not among those that repeat none
pub apart : (before names : List (List ℕ)) (name : List ℕ) (j : ℕ) → ((n : ℕ) → ¬ IsRepeatAt before names n) → Contains before name → number_of name names ≡ Some j → ⊥
apart before names name j fresh there is =
    let found = number_of_some name names j is in
    fresh j (found.within, Contains-append_left before (take j names) (get_or names j []) (subst (λ x. Contains before x) (sym found.here) there))

source_is : (a b c : Option ℕ) → source_number (node_from a b c) ≡ a
source_is (Some i) b c = refl
source_is None (Some l) c = refl
source_is None None (Some j) = refl
source_is None None None = refl

pool_is : (a b c : Option ℕ) → ((i l : ℕ) → a ≡ Some i → b ≡ Some l → ⊥) → pool_number (node_from a b c) ≡ b
pool_is (Some i) (Some l) c h = absurd (h i l refl refl)
pool_is (Some i) None c h = refl
pool_is None (Some l) c h = refl
pool_is None None (Some j) h = refl
pool_is None None None h = refl

product_is : (a b c : Option ℕ) → ((i j : ℕ) → a ≡ Some i → c ≡ Some j → ⊥) → ((l j : ℕ) → b ≡ Some l → c ≡ Some j → ⊥) → product_number (node_from a b c) ≡ c
product_is (Some i) b (Some j) h k = absurd (h i j refl refl)
product_is (Some i) b None h k = refl
product_is None (Some l) (Some j) h k = absurd (k l j refl refl)
product_is None (Some l) None h k = refl
product_is None None (Some j) h k = refl
product_is None None None h k = refl

pub source_number_is : (r : Rows) (name : List ℕ) → source_number (node_of r name) ≡ number_of name (source_names r)
source_number_is r name = ap source_number (node_of_is r name) ∙ source_is (number_of name (source_names r)) (number_of name (pool_names r)) (number_of name (product_names r))

pub pool_number_is : (r : Rows) (name : List ℕ) → IsDistinct r → pool_number (node_of r name) ≡ number_of name (pool_names r)
pool_number_is r name d =
    ap pool_number (node_of_is r name)
    ∙ pool_is (number_of name (source_names r)) (number_of name (pool_names r)) (number_of name (product_names r))
    (λ i l is at. apart (source_names r) (pool_names r) name l d.pools (found_contains name (source_names r) i is) at)

pub product_number_is : (r : Rows) (name : List ℕ) → IsDistinct r → product_number (node_of r name) ≡ number_of name (product_names r)
product_number_is r name d =
    ap product_number (node_of_is r name)
    ∙ product_is (number_of name (source_names r)) (number_of name (pool_names r)) (number_of name (product_names r))
    (λ i j is at. apart (source_names r ++ pool_names r) (product_names r) name j d.products
    (Contains-append_left (source_names r) (pool_names r) name (found_contains name (source_names r) i is)) at)
    (λ l j is at. apart (source_names r ++ pool_names r) (product_names r) name j d.products
    (Contains-append_right (source_names r) (pool_names r) name (found_contains name (pool_names r) l is)) at)

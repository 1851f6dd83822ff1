-- The arcs of a network, from the nodes at their ends.
use Rattle.std.proofs.Common.{◌≡◌, ◌≢◌, ℕ, zero, suc, ◌+◌, ◌<◌, ◌≤◌, ◌⊎◌, inl, inr, List, [], ◌∷◌, ◌++◌, length, map, drop, get_or, All, Option, None, Some, option_map, refl, sym, ap, ◌∙◌, arith}
use Rattle.std.specs.List.{filter_map, cons_option, zip}
use Rattle.std.proofs.lemmas.List.Elements.{All-nil, All-cons, Contains-append_right}
use Rattle.integers.proofs.AtKey.{same_or_other}
use Rattle.integers.proofs.Elements.{length-filter_map}
use Rattle.pool_model.specs.Rows.{ArcRow, Rows}
use Rattle.pool_model.specs.Naming.{number_of, source_names, pool_names, product_names, arc_between, arcs_between}
use Rattle.pool_model.specs.Network.{Arc, no_arc}
use Rattle.network_parts.specs.Parts.{arc_row}
use Rattle.network_parts.specs.declared.parts.ArcRow as row
use Rattle.network_parts.specs.declared.arcs.Node.{Node}
use Rattle.network_parts.specs.declared.arcs.Ends.{Ends}
use Rattle.network_parts.specs.Nodes.{known, nodes_of, node_of, join, pool_number, product_number, feed_between, out_between, direct_between}
use Rattle.network_parts.specs.Ready.{IsDistinct, AreEndsOf}
use Rattle.network_parts.specs.Views.{shown_arc, kept_arc}
use Rattle.network_parts.proofs.Lookups.{source_number_is, pool_number_is, product_number_is, number_of_some, found_contains, apart}

-- ---- filter_map

filter_map_same : {X Z : Type 0} (g h : X → Option Z) (xs : List X) → ((x : X) → g x ≡ h x) → filter_map g xs ≡ filter_map h xs
filter_map_same g h [] e = refl
filter_map_same g h (x ∷ xs) e = cc (e x, filter_map_same g h xs e)

kept_by : {X : Type 0} (o : Option Arc) (rest : List X) (g : X → Option Arc) → map shown_arc (filter_map (λ e. option_map kept_arc (g e)) rest) ≡ filter_map g rest → (x : X) → g x ≡ o
    → map shown_arc (filter_map (λ e. option_map kept_arc (g e)) (x ∷ rest)) ≡ filter_map g (x ∷ rest)
kept_by None rest g e x is = rw is e
kept_by (Some a) rest g e x is = rw is (ap (λ arcs. a ∷ arcs) e)

-- what the network's own arcs show
shown-filter_map : {X : Type 0} (g : X → Option Arc) (xs : List X) → map shown_arc (filter_map (λ e. option_map kept_arc (g e)) xs) ≡ filter_map g xs
shown-filter_map g [] = refl
shown-filter_map g (x ∷ xs) = kept_by (g x) xs g (shown-filter_map g xs) x refl

-- rows beside what is found of each are rows alone
beside : (between : ArcRow → Option Node × Option Node → Option Arc) (find : ArcRow → Option Node × Option Node) (rows : List row.ArcRow) (ends : List Ends)
    → map known ends ≡ map find (map arc_row rows)
    → filter_map (λ x. between (arc_row x.0) (known x.1)) (zip rows ends) ≡ filter_map (λ a. between a (find a)) (map arc_row rows)
beside between find [] [] are = refl
beside between find [] (e ∷ ends) are = refl
beside between find (a ∷ rows) [] are = absurd cc
beside between find (a ∷ rows) (e ∷ ends) are =
    let here : known e ≡ find (arc_row a) = ap (λ (xs : List (Option Node × Option Node)). get_or xs 0 (known e)) are in
    let rest : map known ends ≡ map find (map arc_row rows) = ap (λ (xs : List (Option Node × Option Node)). drop 1 xs) are in
    cc (ap (between (arc_row a)) here, beside between find rows ends rest)

-- ---- the arcs of each kind

arcs_by : (r : Rows) (rows : List row.ArcRow) (ends : List Ends) (between : ArcRow → Option Node × Option Node → Option Arc) (froms tos : List (List ℕ)) → map arc_row rows ≡ r.arcs
    → AreEndsOf r ends → ((a : ArcRow) → between a (nodes_of r a) ≡ arc_between froms tos a)
    → map shown_arc (filter_map (λ x. option_map kept_arc (between (arc_row x.0) (known x.1))) (zip rows ends)) ≡ arcs_between froms tos r
arcs_by r rows ends between froms tos here are same =
    shown-filter_map (λ x. between (arc_row x.0) (known x.1)) (zip rows ends)
    ∙ beside between (nodes_of r) rows ends (are ∙ ap (map (nodes_of r)) (sym here))
    ∙ ap (filter_map (λ a. between a (nodes_of r a))) here
    ∙ filter_map_same (λ a. between a (nodes_of r a)) (arc_between froms tos) r.arcs same

pub feeds_are : (r : Rows) (rows : List row.ArcRow) (ends : List Ends) → map arc_row rows ≡ r.arcs → IsDistinct r → AreEndsOf r ends
    → map shown_arc (filter_map (λ x. option_map kept_arc (feed_between (arc_row x.0) (known x.1))) (zip rows ends)) ≡ arcs_between (source_names r) (pool_names r) r
feeds_are r rows ends here d are =
    arcs_by r rows ends feed_between (source_names r) (pool_names r) here are
    (λ a. ap (λ o. join a o (pool_number (node_of r a.to))) (source_number_is r a.from)
    ∙ ap (λ o. join a (number_of a.from (source_names r)) o) (pool_number_is r a.to d))

pub outs_are : (r : Rows) (rows : List row.ArcRow) (ends : List Ends) → map arc_row rows ≡ r.arcs → IsDistinct r → AreEndsOf r ends
    → map shown_arc (filter_map (λ x. option_map kept_arc (out_between (arc_row x.0) (known x.1))) (zip rows ends)) ≡ arcs_between (pool_names r) (product_names r) r
outs_are r rows ends here d are =
    arcs_by r rows ends out_between (pool_names r) (product_names r) here are
    (λ a. ap (λ o. join a o (product_number (node_of r a.to))) (pool_number_is r a.from d)
    ∙ ap (λ o. join a (number_of a.from (pool_names r)) o) (product_number_is r a.to d))

pub directs_are : (r : Rows) (rows : List row.ArcRow) (ends : List Ends) → map arc_row rows ≡ r.arcs → IsDistinct r → AreEndsOf r ends
    → map shown_arc (filter_map (λ x. option_map kept_arc (direct_between (arc_row x.0) (known x.1))) (zip rows ends)) ≡ arcs_between (source_names r) (product_names r) r
directs_are r rows ends here d are =
    arcs_by r rows ends direct_between (source_names r) (product_names r) here are
    (λ a. ap (λ o. join a o (product_number (node_of r a.to))) (source_number_is r a.from)
    ∙ ap (λ o. join a (number_of a.from (source_names r)) o) (product_number_is r a.to d))

-- ---- how many there are, and what they join

pub length-arcs : (froms tos : List (List ℕ)) (r : Rows) → length (arcs_between froms tos r) ≤ length r.arcs
length-arcs froms tos r = length-filter_map (arc_between froms tos) r.arcs

three_step : {Z : Type 0} (a b c : Option Z) (xs ys zs : List Z) (n : ℕ) → ((y z : Z) → a ≡ Some y → b ≡ Some z → ⊥)
    → ((y z : Z) → a ≡ Some y → c ≡ Some z → ⊥) → ((y z : Z) → b ≡ Some y → c ≡ Some z → ⊥)
    → length xs + length ys + length zs ≤ n → length (cons_option a xs) + length (cons_option b ys) + length (cons_option c zs) ≤ suc n
three_step None None None xs ys zs n ab ac bc h = omega arith
three_step None None (Some z) xs ys zs n ab ac bc h = omega arith
three_step None (Some y) None xs ys zs n ab ac bc h = omega arith
three_step None (Some y) (Some z) xs ys zs n ab ac bc h = absurd (bc y z refl refl)
three_step (Some x) None None xs ys zs n ab ac bc h = omega arith
three_step (Some x) None (Some z) xs ys zs n ab ac bc h = absurd (ac x z refl refl)
three_step (Some x) (Some y) c xs ys zs n ab ac bc h = absurd (ab x y refl refl)

-- three lists of which each element goes to one at the most
length-three : {X Z : Type 0} (f g h : X → Option Z) (xs : List X) → ((x : X) (y z : Z) → f x ≡ Some y → g x ≡ Some z → ⊥) → ((x : X) (y z : Z) → f x ≡ Some y → h x ≡ Some z → ⊥)
    → ((x : X) (y z : Z) → g x ≡ Some y → h x ≡ Some z → ⊥) → length (filter_map f xs) + length (filter_map g xs) + length (filter_map h xs) ≤ length xs
length-three f g h [] ab ac bc = omega arith
length-three f g h (x ∷ xs) ab ac bc =
    three_step (f x) (g x) (h x) (filter_map f xs) (filter_map g xs) (filter_map h xs) (length xs) (ab x) (ac x) (bc x) (length-three f g h xs ab ac bc)

joined_from : (r : ArcRow) (a b : Option ℕ) (c : Arc) → join r a b ≡ Some c → (i : ℕ) × (a ≡ Some i)
joined_from r (Some i) b c e = (i, refl)
joined_from r None b c e = cc

joined_to : (r : ArcRow) (a b : Option ℕ) (c : Arc) → join r a b ≡ Some c → (j : ℕ) × (b ≡ Some j)
joined_to r (Some i) (Some j) c e = (j, refl)
joined_to r (Some i) None c e = cc
joined_to r None b c e = cc

-- no name is that of a source and of a pool, or of a pool and of a product
source_or_pool : (r : Rows) (name : List ℕ) (i l : ℕ) → IsDistinct r → number_of name (source_names r) ≡ Some i → number_of name (pool_names r) ≡ Some l → ⊥
source_or_pool r name i l d is at = apart (source_names r) (pool_names r) name l d.pools (found_contains name (source_names r) i is) at

pool_or_product : (r : Rows) (name : List ℕ) (l j : ℕ) → IsDistinct r → number_of name (pool_names r) ≡ Some l → number_of name (product_names r) ≡ Some j → ⊥
pool_or_product r name l j d is at =
    apart (source_names r ++ pool_names r) (product_names r) name j d.products
    (Contains-append_right (source_names r) (pool_names r) name (found_contains name (pool_names r) l is)) at

pub few_arcs : (r : Rows) → IsDistinct r
    → length (arcs_between (source_names r) (pool_names r) r) + length (arcs_between (pool_names r) (product_names r) r) + length (arcs_between (source_names r) (product_names r) r) ≤ length r.arcs
few_arcs r d =
    let s = source_names r in
    let p = pool_names r in
    let x = product_names r in
    length-three (arc_between s p) (arc_between p x) (arc_between s x) r.arcs
    (λ a y z f o. let i = joined_from a (number_of a.from s) (number_of a.to p) y f in let l = joined_from a (number_of a.from p) (number_of a.to x) z o in source_or_pool r a.from i.0 l.0 d i.1 l.1)
    (λ a y z f o. let l = joined_to a (number_of a.from s) (number_of a.to p) y f in let j = joined_to a (number_of a.from s) (number_of a.to x) z o in pool_or_product r a.to l.0 j.0 d l.1 j.1)
    (λ a y z f o. let l = joined_from a (number_of a.from p) (number_of a.to x) y f in let i = joined_from a (number_of a.from s) (number_of a.to x) z o in source_or_pool r a.from i.0 l.0 d i.1 l.1)

-- an arc at an end of which a node stands, where not all arcs pass the node by
one_by : (key : Arc → ℕ) (l : ℕ) (x : Arc) (xs : List Arc) → ((key x ≡ l) ⊎ (key x ≢ l)) → ¬ All (λ a. ¬ (key a ≡ l)) (x ∷ xs)
    → (¬ All (λ a. ¬ (key a ≡ l)) xs → (e : ℕ) × (e < length xs) × (key (get_or xs e no_arc) ≡ l)) → (e : ℕ) × (e < length (x ∷ xs)) × (key (get_or (x ∷ xs) e no_arc) ≡ l)
one_by key l x xs (inl e) h rest = (0, omega arith, e)
one_by key l x xs (inr d) h rest =
    let found = rest (λ all. h (All-cons (λ a. ¬ (key a ≡ l)) x xs d all)) in
    (suc found.0, omega (arith, found.1), found.2)

pub one_of : (key : Arc → ℕ) (l : ℕ) (xs : List Arc) → ¬ All (λ a. ¬ (key a ≡ l)) xs → (e : ℕ) × (e < length xs) × (key (get_or xs e no_arc) ≡ l)
one_of key l [] h = absurd (h (All-nil (λ a. ¬ (key a ≡ l))))
one_of key l (x ∷ xs) h = one_by key l x xs (same_or_other (key x) l) h (λ more. one_of key l xs more)

-- both ends of an arc are there
pub record IsBetween (froms tos : List (List ℕ)) (a : Arc) : Type 0 where
  pub from : a.from < length froms
  pub to : a.to < length tos

joined : (froms tos : List (List ℕ)) (r : ArcRow) (a b : Option ℕ) (c : Arc) → ((i : ℕ) → a ≡ Some i → i < length froms) → ((j : ℕ) → b ≡ Some j → j < length tos)
    → join r a b ≡ Some c → IsBetween froms tos c
joined froms tos r (Some i) (Some j) c ha hb e =
    let from : i ≡ c.from = cc (ap (option_map (λ (x : Arc). x.from)) e) in
    let to : j ≡ c.to = cc (ap (option_map (λ (x : Arc). x.to)) e) in
    record { from = rw (← from) (ha i refl); to = rw (← to) (hb j refl) }
joined froms tos r (Some i) None c ha hb e = cc
joined froms tos r None b c ha hb e = cc

each_step : {Z : Type 0} (P : Z → Type 0) (d : Z) (o : Option Z) (rest : List Z) → ((z : Z) → o ≡ Some z → P z) → ((e : ℕ) → e < length rest → P (get_or rest e d))
    → (e : ℕ) → e < length (cons_option o rest) → P (get_or (cons_option o rest) e d)
each_step P d None rest h k e within = k e within
each_step P d (Some z) rest h k zero within = h z refl
each_step P d (Some z) rest h k (suc e) within = k e (omega (arith, within))

each_of : {X Z : Type 0} (P : Z → Type 0) (d : Z) (f : X → Option Z) (xs : List X) → ((x : X) (z : Z) → f x ≡ Some z → P z) → (e : ℕ) → e < length (filter_map f xs) → P (get_or (filter_map f xs) e d)
each_of P d f [] h e within = absurd (omega (arith, within))
each_of P d f (x ∷ xs) h e within = each_step P d (f x) (filter_map f xs) (λ z is. h x z is) (λ k there. each_of P d f xs h k there) e within

pub arcs-between : (froms tos : List (List ℕ)) (r : Rows) (e : ℕ) → e < length (arcs_between froms tos r) → IsBetween froms tos (get_or (arcs_between froms tos r) e no_arc)
arcs-between froms tos r e within =
    each_of (IsBetween froms tos) no_arc (arc_between froms tos) r.arcs
    (λ x z is. joined froms tos x (number_of x.from froms) (number_of x.to tos) z (λ i at. (number_of_some x.from froms i at).within) (λ j at. (number_of_some x.to tos j at).within) is) e within

-- What is found of the nodes, the arcs and the pools, as a fault's condition on the rows, both ways.
use Rattle.std.proofs.Common.{◌≡◌, ℕ, ◌<◌, ◌≤◌, ◌⊎◌, List, [], length, map, take, get_or, Contains, Bool, true, false, Option, None, Some, option_map, is_some}
use Rattle.std.proofs.Common.{refl, sym, ap, subst, ◌∙◌, inl, inr, All, ◌||◌, ◌&&◌, arith}
use Rattle.std.proofs.lemmas.List.{length-map, length-take-le, get_or-map, get_or-take, get_or_default, take_all}
use Rattle.std.proofs.lemmas.List.Elements.{All-map}
use Rattle.std.proofs.lemmas.Bool.{false≢true}
use Rattle.pool_model.specs.Rows.{Rows}
use Rattle.pool_model.specs.Naming.{number_of, source_names, pool_names, product_names, network_of}
use Rattle.pool_model.specs.Network as model
use Rattle.network_parts.specs.declared.arcs.Node.{Node}
use Rattle.network_parts.specs.declared.arcs.Node.TheVariants.{Source, Pool, Product}
use Rattle.network_parts.specs.declared.arcs.Ends.{Ends}
use Rattle.network_parts.specs.declared.arcs.Arcs.{Arcs}
use Rattle.network_parts.specs.declared.arcs.Arc as own
use Rattle.network_parts.specs.Faults.{IsUnknownName, IsArcBackwards, IsPoolToPool, IsDuplicateArc, IsPoolWithoutInput, IsPoolWithoutOutput, row_ends, ends_of, no_arc_row, node_names}
use Rattle.network_parts.specs.Nodes.{known, both_ends, node_of, nodes_of, source_number, pool_number, product_number, is_backward, is_between_pools}
use Rattle.network_parts.specs.Views.{shown_arc}
use Rattle.network_parts.specs.Ready.{IsDistinct, AreEndsOf, IsMarked, IsRepeatedEnds, AreArcsOf, no_ends}
use Rattle.network_parts.proofs.Lookups.{found_contains, has_number, number_of_some, source_number_is, pool_number_is, product_number_is}

-- ---- the nodes at the ends

pub length_ends : (r : Rows) (ends : List Ends) → AreEndsOf r ends → length ends ≡ length r.arcs
length_ends r ends are = sym (length-map ends known) ∙ ap length are ∙ length-map r.arcs (nodes_of r)

-- the nodes that the ends of an arc name are those that were found so far
pub nodes_below : (r : Rows) (ends : List Ends) (n m : ℕ) → map known ends ≡ take n (map (nodes_of r) r.arcs) → m < n → n ≤ length r.arcs → nodes_of r (get_or r.arcs m no_arc_row) ≡ known (get_or ends m no_ends)
nodes_below r ends n m are below within =
    let long = length-take-le n (map (nodes_of r) r.arcs) (omega (arith, within, length-map r.arcs (nodes_of r))) in
    sym (get_or-map (nodes_of r) r.arcs m no_arc_row (known no_ends) (omega (arith, below, within)))
    ∙ sym (get_or-take n (map (nodes_of r) r.arcs) m (known no_ends) below)
    ∙ ap (λ xs. get_or xs m (known no_ends)) (sym are)
    ∙ get_or-map known ends m no_ends (known no_ends) (omega (arith, below, long, ap length are, length-map ends known))

pub nodes_at : (r : Rows) (ends : List Ends) (n : ℕ) → AreEndsOf r ends → n < length r.arcs → nodes_of r (get_or r.arcs n no_arc_row) ≡ known (get_or ends n no_ends)
nodes_at r ends n are here =
    nodes_below r ends (length r.arcs) n (are ∙ sym (take_all (length r.arcs) (map (nodes_of r) r.arcs) (omega (arith, length-map r.arcs (nodes_of r))))) here (omega arith)

there_by : (name : List ℕ) (names : List (List ℕ)) (f : ℕ → Node) (o : Option ℕ) (y : Node) → number_of name names ≡ o → option_map f o ≡ Some y → Contains names name
there_by name names f None y is e = cc
there_by name names f (Some k) y is e = found_contains name names k is

-- an arc whose two ends were found names two nodes
pub not_unknown : (r : Rows) (n : ℕ) (e : Ends) → nodes_of r (get_or r.arcs n no_arc_row) ≡ known e → ¬ IsUnknownName r n
not_unknown r n e at bad =
    let from : Contains (node_names r) (ends_of r n).0 = there_by (ends_of r n).0 (node_names r) _ (number_of (ends_of r n).0 (node_names r)) e.from refl (ap (λ p. p.0) at) in
    let to : Contains (node_names r) (ends_of r n).1 = there_by (ends_of r n).1 (node_names r) _ (number_of (ends_of r n).1 (node_names r)) e.to refl (ap (λ p. p.1) at) in
    elim bad.1 [ inl h ↦ h from | inr h ↦ h to ]

absent_by : (f : ℕ → Node) (o : Option ℕ) → is_some o ≡ true → option_map f o ≡ None → ⊥
absent_by f None s e = cc
absent_by f (Some i) s e = cc

-- a name that names no node
absent : (r : Rows) (name : List ℕ) → node_of r name ≡ None → ¬ Contains (node_names r) name
absent r name none there = absent_by _ (number_of name (node_names r)) (has_number name (node_names r) there.0 there.1 there.2) none

-- the nodes of two ends that were found
pub both_known : (a b : Option Node) (e : Ends) → both_ends a b ≡ Some e → known e ≡ (a, b)
both_known (Some x) (Some y) e is =
    let from : x ≡ e.from = cc (ap (option_map (λ (p : Ends). p.from)) is) in
    let to : y ≡ e.to = cc (ap (option_map (λ (p : Ends). p.to)) is) in
    λ i. (Some (sym from i), Some (sym to i))
both_known None b e is = cc
both_known (Some x) None e is = cc

both_lost : (a b : Option Node) → both_ends a b ≡ None → (a ≡ None) ⊎ (b ≡ None)
both_lost None b is = inl refl
both_lost (Some x) None is = inr refl
both_lost (Some x) (Some y) is = cc

-- an arc of which an end was not found
pub lost_end : (r : Rows) (n : ℕ) (from to : List ℕ) → n < length r.arcs → ends_of r n ≡ (from, to) → both_ends (node_of r from) (node_of r to) ≡ None → IsUnknownName r n
lost_end r n from to here at none = (
  here,
  elim (both_lost (node_of r from) (node_of r to) none) [
    | inl e ↦ inl (subst (λ x. ¬ Contains (node_names r) x) (sym (ap (λ p. p.0) at)) (absent r from e))
    | inr e ↦ inr (subst (λ x. ¬ Contains (node_names r) x) (sym (ap (λ p. p.1) at)) (absent r to e))
  ],
)

-- ---- what a node says of its name

numbered_contains : (name : List ℕ) (names : List (List ℕ)) (o : Option ℕ) → number_of name names ≡ o → is_some o ≡ true → Contains names name
numbered_contains name names None is e = cc
numbered_contains name names (Some i) is e = found_contains name names i is

source_named : (r : Rows) (name : List ℕ) (x : Node) → node_of r name ≡ Some x → is_some (source_number (Some x)) ≡ true → Contains (source_names r) name
source_named r name x at h =
    numbered_contains name (source_names r) (number_of name (source_names r)) refl (ap is_some (sym (source_number_is r name)) ∙ ap (λ o. is_some (source_number o)) at ∙ h)

pool_named : (r : Rows) (name : List ℕ) (x : Node) → IsDistinct r → node_of r name ≡ Some x → is_some (pool_number (Some x)) ≡ true → Contains (pool_names r) name
pool_named r name x d at h =
    numbered_contains name (pool_names r) (number_of name (pool_names r)) refl (ap is_some (sym (pool_number_is r name d)) ∙ ap (λ o. is_some (pool_number o)) at ∙ h)

product_named : (r : Rows) (name : List ℕ) (x : Node) → IsDistinct r → node_of r name ≡ Some x → is_some (product_number (Some x)) ≡ true → Contains (product_names r) name
product_named r name x d at h =
    numbered_contains name (product_names r) (number_of name (product_names r)) refl (ap is_some (sym (product_number_is r name d)) ∙ ap (λ o. is_some (product_number o)) at ∙ h)

source_seen : (r : Rows) (name : List ℕ) (x : Node) → node_of r name ≡ Some x → Contains (source_names r) name → is_some (source_number (Some x)) ≡ true
source_seen r name x at there = ap (λ o. is_some (source_number o)) (sym at) ∙ ap is_some (source_number_is r name) ∙ has_number name (source_names r) there.0 there.1 there.2

pool_seen : (r : Rows) (name : List ℕ) (x : Node) → IsDistinct r → node_of r name ≡ Some x → Contains (pool_names r) name → is_some (pool_number (Some x)) ≡ true
pool_seen r name x d at there = ap (λ o. is_some (pool_number o)) (sym at) ∙ ap is_some (pool_number_is r name d) ∙ has_number name (pool_names r) there.0 there.1 there.2

product_seen : (r : Rows) (name : List ℕ) (x : Node) → IsDistinct r → node_of r name ≡ Some x → Contains (product_names r) name → is_some (product_number (Some x)) ≡ true
product_seen r name x d at there = ap (λ o. is_some (product_number o)) (sym at) ∙ ap is_some (product_number_is r name d) ∙ has_number name (product_names r) there.0 there.1 there.2

same_by : (a b : List ℕ) (names : List (List ℕ)) (i : ℕ) → number_of a names ≡ Some i → number_of b names ≡ Some i → a ≡ b
same_by a b names i ha hb = sym (number_of_some a names i ha).here ∙ (number_of_some b names i hb).here

-- one node has one name
same_name : (r : Rows) (a b : List ℕ) (x : Node) → IsDistinct r → node_of r a ≡ Some x → node_of r b ≡ Some x → a ≡ b
same_name r a b (Source i) d ha hb = same_by a b (source_names r) i (sym (source_number_is r a) ∙ ap source_number ha) (sym (source_number_is r b) ∙ ap source_number hb)
same_name r a b (Pool l) d ha hb = same_by a b (pool_names r) l (sym (pool_number_is r a d) ∙ ap pool_number ha) (sym (pool_number_is r b d) ∙ ap pool_number hb)
same_name r a b (Product j) d ha hb = same_by a b (product_names r) j (sym (product_number_is r a d) ∙ ap product_number ha) (sym (product_number_is r b d) ∙ ap product_number hb)

-- ---- arcs

or_right : (a b : Bool) → b ≡ true → (a || b) ≡ true
or_right true b e = refl
or_right false b e = e

or_either : (a b : Bool) → (a || b) ≡ true → (a ≡ true) ⊎ (b ≡ true)
or_either true b e = inl refl
or_either false b e = inr e

and_both : (a b : Bool) → a ≡ true → b ≡ true → (a && b) ≡ true
and_both true b d e = e
and_both false b d e = absurd (false≢true d)

and_left : (a b : Bool) → (a && b) ≡ true → a ≡ true
and_left true b e = refl
and_left false b e = e

and_right : (a b : Bool) → (a && b) ≡ true → b ≡ true
and_right true b e = e
and_right false b e = absurd (false≢true e)

pub backwards_marked : (r : Rows) (ends : List Ends) → IsDistinct r → AreEndsOf r ends → (n : ℕ) → IsArcBackwards r n → IsMarked is_backward ends n
backwards_marked r ends d are n bad =
    let e = get_or ends n no_ends in
    let at = nodes_at r ends n are bad.0 in
    let source = is_some (source_number (Some (get_or ends n no_ends).to)) in
    let within : n < length ends = omega (arith, length_ends r ends are, bad.0) in
    elim bad.1 [
      | inl h ↦ (within, ap (λ b. b || source) (product_seen r (ends_of r n).0 e.from d (ap (λ p. p.0) at) h))
      | inr h ↦ (within, or_right (is_some (product_number (Some (get_or ends n no_ends).from))) source (source_seen r (ends_of r n).1 e.to (ap (λ p. p.1) at) h))
    ]

pub marked_backwards : (r : Rows) (ends : List Ends) → IsDistinct r → AreEndsOf r ends → (n : ℕ) → IsMarked is_backward ends n → IsArcBackwards r n
marked_backwards r ends d are n marked =
    let e = get_or ends n no_ends in
    let within : n < length r.arcs = omega (arith, length_ends r ends are, marked.0) in
    let at = nodes_at r ends n are within in
    elim (or_either (is_some (product_number (Some (get_or ends n no_ends).from))) (is_some (source_number (Some (get_or ends n no_ends).to))) marked.1) [
      | inl h ↦ (within, inl (product_named r (ends_of r n).0 e.from d (ap (λ p. p.0) at) h))
      | inr h ↦ (within, inr (source_named r (ends_of r n).1 e.to (ap (λ p. p.1) at) h))
    ]

pub between_marked : (r : Rows) (ends : List Ends) → IsDistinct r → AreEndsOf r ends → (n : ℕ) → IsPoolToPool r n → IsMarked is_between_pools ends n
between_marked r ends d are n bad =
    let e = get_or ends n no_ends in
    let at = nodes_at r ends n are bad.0 in (
      omega (arith, length_ends r ends are, bad.0),
      and_both (is_some (pool_number (Some (get_or ends n no_ends).from))) (is_some (pool_number (Some (get_or ends n no_ends).to)))
          (pool_seen r (ends_of r n).0 e.from d (ap (λ p. p.0) at) bad.1)
          (pool_seen r (ends_of r n).1 e.to d (ap (λ p. p.1) at) bad.2),
    )

pub marked_between : (r : Rows) (ends : List Ends) → IsDistinct r → AreEndsOf r ends → (n : ℕ) → IsMarked is_between_pools ends n → IsPoolToPool r n
marked_between r ends d are n marked =
    let e = get_or ends n no_ends in
    let within : n < length r.arcs = omega (arith, length_ends r ends are, marked.0) in
    let at = nodes_at r ends n are within in
    let from = is_some (pool_number (Some (get_or ends n no_ends).from)) in
    let to = is_some (pool_number (Some (get_or ends n no_ends).to)) in (
      within,
      pool_named r (ends_of r n).0 e.from d (ap (λ p. p.0) at) (and_left from to marked.1),
      pool_named r (ends_of r n).1 e.to d (ap (λ p. p.1) at) (and_right from to marked.1),
    )

known_same : (a b : Ends) → known a ≡ known b → a ≡ b
known_same a b e =
    let from : a.from ≡ b.from = cc (ap (λ p. p.0) e) in
    let to : a.to ≡ b.to = cc (ap (λ p. p.1) e) in
    λ i. record { from = from i; to = to i }

pub repeat_seen : (r : Rows) (ends : List Ends) → AreEndsOf r ends → (n : ℕ) → IsDuplicateArc r n → IsRepeatedEnds ends n
repeat_seen r ends are n bad =
    let m = bad.1.0 in
    let lt = length-take-le n (map row_ends r.arcs) (omega (arith, bad.0, length-map r.arcs row_ends)) in
    let below : bad.1.0 < n = omega (arith, bad.1.1, lt) in
    let same : ends_of r bad.1.0 ≡ ends_of r n
    = sym (get_or-map row_ends r.arcs m no_arc_row (ends_of r n) (omega (arith, below, bad.0))) ∙ sym (get_or-take n (map row_ends r.arcs) m (ends_of r n) below) ∙ bad.1.2 in
    let long = length_ends r ends are in
    let twin : get_or ends bad.1.0 no_ends ≡ get_or ends n no_ends
    = known_same (get_or ends bad.1.0 no_ends) (get_or ends n no_ends)
    (sym (nodes_at r ends m are (omega (arith, below, bad.0))) ∙ ap (λ (e : List ℕ × List ℕ). (node_of r e.0, node_of r e.1)) same ∙ nodes_at r ends n are bad.0) in
    let le = length-take-le n ends (omega (arith, bad.0, long)) in (
      omega (arith, bad.0, long),
      (bad.1.0, omega (arith, below, le), get_or-take n ends m (get_or ends n no_ends) below ∙ get_or_default ends m (get_or ends n no_ends) no_ends (omega (arith, below, bad.0, long)) ∙ twin),
    )

pub seen_repeat : (r : Rows) (ends : List Ends) → IsDistinct r → AreEndsOf r ends → (n : ℕ) → IsRepeatedEnds ends n → IsDuplicateArc r n
seen_repeat r ends d are n again =
    let m = again.1.0 in
    let e = get_or ends n no_ends in
    let le = length-take-le n ends (omega (arith, again.0)) in
    let below : again.1.0 < n = omega (arith, again.1.1, le) in
    let long = length_ends r ends are in
    let twin : get_or ends again.1.0 no_ends ≡ get_or ends n no_ends
    = get_or_default ends m no_ends (get_or ends n no_ends) (omega (arith, below, again.0)) ∙ sym (get_or-take n ends m (get_or ends n no_ends) below) ∙ again.1.2 in
    let before = nodes_at r ends m are (omega (arith, below, again.0, long)) ∙ ap known twin in
    let here = nodes_at r ends n are (omega (arith, again.0, long)) in
    let from = same_name r (ends_of r m).0 (ends_of r n).0 e.from d (ap (λ p. p.0) before) (ap (λ p. p.0) here) in
    let to = same_name r (ends_of r m).1 (ends_of r n).1 e.to d (ap (λ p. p.1) before) (ap (λ p. p.1) here) in
    let same : ends_of r again.1.0 ≡ ends_of r n = λ i. (from i, to i) in
    let lt = length-take-le n (map row_ends r.arcs) (omega (arith, again.0, long, length-map r.arcs row_ends)) in (
      omega (arith, again.0, long),
      (again.1.0, omega (arith, below, lt), get_or-take n (map row_ends r.arcs) m (ends_of r n) below ∙ get_or-map row_ends r.arcs m no_arc_row (ends_of r n) (omega (arith, below, again.0, long)) ∙ same),
    )

-- ---- pools

-- what holds of the arcs that a list shows
all_seen : (P : model.Arc → Type 0) (xs : List own.Arc) (ys : List model.Arc) → map shown_arc xs ≡ ys → All P ys → All (λ a. P (shown_arc a)) xs
all_seen P xs ys are all k a within =
    let there : k < length (map shown_arc xs) = omega (arith, length-map xs shown_arc, within) in
    subst P (get_or-map shown_arc xs k a (shown_arc a) within) ((subst (All P) (sym are) all) k (shown_arc a) there)

all_shown : (P : model.Arc → Type 0) (xs : List own.Arc) (ys : List model.Arc) → map shown_arc xs ≡ ys → All (λ a. P (shown_arc a)) xs → All P ys
all_shown P xs ys are all = subst (All P) are (All-map P shown_arc xs all)

pub input_lacks : (r : Rows) (arcs : Arcs) → AreArcsOf r arcs → (l : ℕ) → IsPoolWithoutInput r l → (l < length r.pools) × All (λ a. ¬ a.to ≡ l) arcs.feeds.items
input_lacks r arcs are l bad = (bad.0, all_seen (λ a. ¬ a.to ≡ l) arcs.feeds.items (network_of r).feeds are.feeds bad.1)

pub lacks_input : (r : Rows) (arcs : Arcs) → AreArcsOf r arcs → (l : ℕ) → (l < length r.pools) × All (λ a. ¬ a.to ≡ l) arcs.feeds.items → IsPoolWithoutInput r l
lacks_input r arcs are l h = (h.0, all_shown (λ a. ¬ a.to ≡ l) arcs.feeds.items (network_of r).feeds are.feeds h.1)

pub output_lacks : (r : Rows) (arcs : Arcs) → AreArcsOf r arcs → (l : ℕ) → IsPoolWithoutOutput r l → (l < length r.pools) × All (λ a. ¬ a.from ≡ l) arcs.outs.items
output_lacks r arcs are l bad = (bad.0, all_seen (λ a. ¬ a.from ≡ l) arcs.outs.items (network_of r).outs are.outs bad.1)

pub lacks_output : (r : Rows) (arcs : Arcs) → AreArcsOf r arcs → (l : ℕ) → (l < length r.pools) × All (λ a. ¬ a.from ≡ l) arcs.outs.items → IsPoolWithoutOutput r l
lacks_output r arcs are l h = (h.0, all_shown (λ a. ¬ a.from ≡ l) arcs.outs.items (network_of r).outs are.outs h.1)

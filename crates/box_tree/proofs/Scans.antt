-- The bound of a tree, its least leaf and its open leaves, from what is kept.
use Rattle.std.proofs.Common.{◌≡◌, ◌≢◌, ℕ, zero, suc, ◌<◌, ◌⊎◌, inl, inr, length, Bool, true, false, ◌+◌, if◌then◌else◌, Option, Some, None, ℤ, arith, refl}
use Rattle.std.proofs.Common.{sym, ap, ◌∙◌, List, [], get_or, subst, ◌≤◌, ◌≤ℤ◌, ◌<ℤ◌}
use Rattle.std.specs.Int.{int_min}
use Rattle.std.proofs.lemmas.Int.{clamps}
use Rattle.std.proofs.lemmas.Bool.{cases_lt}
use Rattle.std.proofs.lemmas.Option.{none-some}
use borrow.Author.Differences.{up, down}
use Rattle.integers.proofs.Ring.{additive}
use Rattle.std.specs.Prelude.{MatchOption}
use Rattle.pool_model.specs.Claim.{HasNoPlan, IsBound}
use Rattle.pool_model.specs.Network.{IsLimited, Net}
use Rattle.pool_model.proofs.Reach.{least_below-same}
use Rattle.pool_model.specs.Starting.{lesser, least_below}
use Rattle.row_model.proofs.TreeBound.{tree-bound, tree-empty}
use Rattle.row_model.specs.Trees.{Split, nodes, leaf_bound, node_bound, tree_bound, is_cut, IsLeastLeaf}
use Rattle.std.specs.List.{Contains}
use Rattle.std.specs.Prelude.{map, take}
use Rattle.std.proofs.lemmas.Option.{same_Some}
use Rattle.std.proofs.lemmas.List.{take-map, get_or-map, length-map}
use Rattle.std.proofs.lemmas.List.Elements.{Contains-get_or}
use Rattle.integers.proofs.AtKey.{same_or_other}
use Rattle.leaf_order.specs.Order.{leaf_at, no_leaf, AreOrdered, IsFirst}
use Rattle.leaf_order.specs.declared.leaf.OpenLeaf.{OpenLeaf}
use Rattle.box_tree.specs.Open.{bound_at, AreIndexed, MayHold, IsBefore, AreOpenLeaves, AreFirstOpen}
use Rattle.box_tree.specs.Kept.{Kept, searched_of, kept_leaf_bound, IsKeptOf}
use Rattle.box_tree.proofs.Indexing.{bound-past}

pub kept-leaf : (n : Net) (k : Kept) (node : ℕ) → IsKeptOf n k → node < nodes k.splits.list → kept_leaf_bound k node ≡ leaf_bound n (searched_of k).tree node
kept-leaf n k node is h = ap (λ (o : Option ℤ). if is_cut k.splits.list node then None else o) (is.bounds node h)

pub kept-bound : (n : Net) (k : Kept) → IsKeptOf n k → least_below (kept_leaf_bound k) (length k.bounds) ≡ tree_bound n (searched_of k).tree
kept-bound n k is =
    ap (λ m. least_below (kept_leaf_bound k) m) is.bounded
    ∙ least_below-same (kept_leaf_bound k) (leaf_bound n (searched_of k).tree) (nodes k.splits.list) (λ i lt. kept-leaf n k i is lt)

-- every plan that obeys costs at least the tree's bound, and where there is none no plan obeys
pub kept-costs : (n : Net) (k : Kept) (least : Option ℤ) → IsLimited n → IsKeptOf n k → least ≡ tree_bound n (searched_of k).tree → MatchOption least (HasNoPlan n) (IsBound n)
kept-costs n k None limited is e = tree-empty n (searched_of k).tree limited is.searched.tree (sym e)
kept-costs n k (Some z) limited is e = tree-bound n (searched_of k).tree z limited is.searched.tree (sym e)

-- ---- a least bound is that of some number

min_either : (a b : ℤ) → (int_min a b ≡ a) ⊎ (int_min a b ≡ b)
min_either a b = elim (cases_lt (up a + down b) (up b + down a)) [ inl h ↦ inl (omega (arith, additive, clamps)) | inr h ↦ inr (omega (arith, additive, clamps)) ]

lesser-either : (a b : Option ℤ) (z : ℤ) → lesser a b ≡ Some z → (a ≡ Some z) ⊎ (b ≡ Some z)
lesser-either None b z e = inr e
lesser-either (Some a) None z e = inl e
lesser-either (Some a) (Some b) z e = elim (min_either a b) [
  | inl m ↦ inl (ap (λ (x : ℤ). Some x) (sym m) ∙ e)
  | inr m ↦ inr (ap (λ (x : ℤ). Some x) (sym m) ∙ e)
]

-- ---- by the set of the leaves that may hold a plan

less_or_not : (a b : ℤ) → (a <ℤ b) ⊎ (b ≤ℤ a)
less_or_not a b = elim (cases_lt (up a + down b) (up b + down a)) [ inl h ↦ inl (omega (arith, additive)) | inr h ↦ inr (omega (arith, additive)) ]

lesser-first : (a : ℤ) (b : Option ℤ) → ((w : ℤ) → b ≡ Some w → a ≤ℤ w) → lesser (Some a) b ≡ Some a
lesser-first a None h = refl
lesser-first a (Some w) h = let le = h w refl in ap (λ (x : ℤ). Some x) (omega (arith, additive, clamps, le))

lesser-second : (o : Option ℤ) (z : ℤ) → ((w : ℤ) → o ≡ Some w → z ≤ℤ w) → lesser o (Some z) ≡ Some z
lesser-second None z h = refl
lesser-second (Some y) z h = let le = h y refl in ap (λ (x : ℤ). Some x) (omega (arith, additive, clamps, le))

-- what is at most each of them is at most the least
least-at_least : (f : ℕ → Option ℤ) (n : ℕ) (z y : ℤ) → ((j : ℕ) (w : ℤ) → f j ≡ Some w → z ≤ℤ w) → least_below f n ≡ Some y → z ≤ℤ y
least-at_least f zero z y h e = absurd (none-some y e)
least-at_least f (suc n) z y h e = elim (lesser-either (least_below f n) (f n) y e) [ inl a ↦ least-at_least f n z y h a | inr b ↦ h n y b ]

least-attained : (f : ℕ → Option ℤ) (n i : ℕ) (z : ℤ) → i < n → f i ≡ Some z → ((j : ℕ) (w : ℤ) → f j ≡ Some w → z ≤ℤ w) → least_below f n ≡ Some z
least-attained f zero i z h e least = absurd (omega (arith, h))
least-attained f (suc n) i z h e least = elim (same_or_other i n) [
  | inl s ↦ ap (λ (o : Option ℤ). lesser (least_below f n) o) (ap f (sym s) ∙ e) ∙ lesser-second (least_below f n) z (λ w k. least-at_least f n z w least k)
  | inr d ↦ ap (λ (o : Option ℤ). lesser o (f n)) (least-attained f n i z (omega (arith, h, d)) e least) ∙ lesser-first z (f n) (λ w k. least n w k)
]

least-none : (f : ℕ → Option ℤ) (n : ℕ) → ((i : ℕ) → f i ≡ None) → least_below f n ≡ None
least-none f zero h = refl
least-none f (suc n) h = ap (λ (o : Option ℤ). lesser o (f n)) (least-none f n h) ∙ h n

module _ (splits : List Split) (bounds : List (Option ℤ)) (leaves : List OpenLeaf) (are : AreIndexed splits bounds leaves) where
  -- no leaf may hold a plan
  pub none-least : leaves ≡ [] → least_below (bound_at splits bounds) (length bounds) ≡ None
  none-least e = least-none (bound_at splits bounds) (length bounds) (λ i. go i (bound_at splits bounds i) refl)
    where
      go : (i : ℕ) (o : Option ℤ) → bound_at splits bounds i ≡ o → o ≡ None
      go i None f = refl
      go i (Some z) f = let has = subst (λ (xs : List OpenLeaf). Contains xs record { bound = z; node = i }) e ((are.members record { bound = z; node = i }).1 f) in absurd (omega (arith, has.1))

  module _ (leaf : OpenLeaf) (is : IsFirst leaves leaf) where
    pub first-is : bound_at splits bounds leaf.node ≡ Some leaf.bound
    first-is = (are.members leaf).0 is.here

    pub first-there : leaf.node < length bounds
    first-there = elim (node_or_not leaf.node (length bounds)) [ inl h ↦ h | inr h ↦ absurd (none-some leaf.bound (sym (bound-past splits bounds leaf.node h) ∙ first-is)) ]
      where
        node_or_not : (a b : ℕ) → (a < b) ⊎ (b ≤ a)
        node_or_not a b = grind arith

    pub first-least : least_below (bound_at splits bounds) (length bounds) ≡ Some leaf.bound
    first-least = least-attained (bound_at splits bounds) (length bounds) leaf.node leaf.bound first-there first-is
        (λ j w e. elim (less_or_not w leaf.bound) [ inl l ↦ absurd (is.first record { bound = w; node = j } ((are.members record { bound = w; node = j }).1 e) (inl l)) | inr g ↦ g ])

    -- no node before it has its bound
    pub first-first : (i : ℕ) → i < leaf.node → bound_at splits bounds i ≢ Some leaf.bound
    first-first i h e = is.first record { bound = leaf.bound; node = i } ((are.members record { bound = leaf.bound; node = i }).1 e) (inr (refl, h))

-- the first node that has the least bound is the least leaf
pub least-found : (n : Net) (k : Kept) (node : ℕ) (z : ℤ) → IsKeptOf n k → node < length k.bounds → least_below (kept_leaf_bound k) (length k.bounds) ≡ Some z
    → kept_leaf_bound k node ≡ Some z → ((i : ℕ) → i < node → kept_leaf_bound k i ≢ Some z) → IsLeastLeaf n (searched_of k).tree node
least-found n k node z is h least here before =
    let there : node < nodes k.splits.list = omega (arith, is.bounded) in
    let whole : tree_bound n (searched_of k).tree ≡ Some z = sym (kept-bound n k is) ∙ least in
    let leaf : leaf_bound n (searched_of k).tree node ≡ Some z = sym (kept-leaf n k node is there) ∙ here in
    record {
      leaf = record { there = there; uncut = uncut_where (is_cut k.splits.list node) (node_bound n (searched_of k).tree node) z leaf };
      least = leaf ∙ sym whole;
      holds = λ e. none-some z (sym e ∙ leaf);
      first = λ i lt e. before i lt (kept-leaf n k i is (omega arith) ∙ e ∙ whole);
    }
  where
    uncut_where : (b : Bool) (o : Option ℤ) (z : ℤ) → (if b then None else o) ≡ Some z → b ≡ false
    uncut_where false o z e = refl
    uncut_where true o z e = absurd (none-some z e)

-- ---- the first leaves

module _ (n : Net) (k : Kept) (leaves : List OpenLeaf) (is : IsKeptOf n k) (are : AreIndexed k.splits.list k.bounds leaves) (ordered : AreOrdered leaves) where
  -- a leaf of the set has its bound in the tree
  in-tree : (q : OpenLeaf) → Contains leaves q → (q.node < nodes k.splits.list) × (leaf_bound n (searched_of k).tree q.node ≡ Some q.bound)
  in-tree q has =
      let e = (are.members q).0 has in
      let there = below q.node q.bound e in
      (there, sym (kept-leaf n k q.node is there) ∙ e)
    where
      below : (m : ℕ) (z : ℤ) → bound_at k.splits.list k.bounds m ≡ Some z → m < nodes k.splits.list
      below m z e = elim (node_or_not m (length k.bounds)) [ inl h ↦ omega (arith, h, is.bounded) | inr h ↦ absurd (none-some z (sym (bound-past k.splits.list k.bounds m h) ∙ e)) ]
        where
          node_or_not : (a b : ℕ) → (a < b) ⊎ (b ≤ a)
          node_or_not a b = grind arith

  node-at : (i : ℕ) → i < length leaves → get_or (map (λ (q : OpenLeaf). q.node) leaves) i 0 ≡ (leaf_at leaves i).node
  node-at i h = get_or-map (λ (q : OpenLeaf). q.node) leaves i no_leaf 0 h

  many : length (map (λ (q : OpenLeaf). q.node) leaves) ≡ length leaves
  many = length-map leaves (λ (q : OpenLeaf). q.node)

  holds-of : (m : ℕ) → Contains (map (λ (q : OpenLeaf). q.node) leaves) m → MayHold n (searched_of k).tree m
  holds-of m has =
      let i = has.0 in
      let there : i < length leaves = omega (arith, has.1, many) in
      let q = leaf_at leaves i in
      let same : q.node ≡ m = sym (get_or-map (λ (q : OpenLeaf). q.node) leaves i no_leaf m there) ∙ has.2 in
      let known = in-tree q (Contains-get_or leaves i no_leaf there) in
      subst (MayHold n (searched_of k).tree) same record { there = known.0; bounded = λ e. none-some q.bound (sym e ∙ known.1) }

  of-holds : (m : ℕ) → MayHold n (searched_of k).tree m → Contains (map (λ (q : OpenLeaf). q.node) leaves) m
  of-holds m may = go (leaf_bound n (searched_of k).tree m) refl
    where
      go : (o : Option ℤ) → leaf_bound n (searched_of k).tree m ≡ o → Contains (map (λ (q : OpenLeaf). q.node) leaves) m
      go None e = absurd (may.bounded e)
      go (Some z) e =
          let q : OpenLeaf = record { bound = z; node = m } in
          let has = (are.members q).1 (kept-leaf n k m is may.there ∙ e) in
          (has.0, omega (arith, has.1, many), get_or-map (λ (q : OpenLeaf). q.node) leaves has.0 q m has.1 ∙ ap (λ (p : OpenLeaf). p.node) has.2)

  before-at : (i j : ℕ) → i < j → j < length leaves → IsBefore n (searched_of k).tree (leaf_at leaves i).node (leaf_at leaves j).node
  before-at i j h there x y e f =
      let a = leaf_at leaves i in
      let b = leaf_at leaves j in
      let x_is = same_Some a.bound x (sym (in-tree a (Contains-get_or leaves i no_leaf (omega arith))).1 ∙ e) in
      let y_is = same_Some b.bound y (sym (in-tree b (Contains-get_or leaves j no_leaf there)).1 ∙ f) in
      subst (λ (z : ℤ). (z <ℤ y) ⊎ ((z ≡ y) × (a.node < b.node))) x_is (subst (λ (z : ℤ). (a.bound <ℤ z) ⊎ ((a.bound ≡ z) × (a.node < b.node))) y_is (ordered i j h there))

  pub all-open : AreOpenLeaves n (searched_of k).tree (map (λ (q : OpenLeaf). q.node) leaves)
  all-open = record {
    members = λ m. (holds-of m, of-holds m);
    ordered = λ i j h there.
        subst (λ (a : ℕ). IsBefore n (searched_of k).tree a (get_or (map (λ (q : OpenLeaf). q.node) leaves) j 0)) (sym (node-at i (omega (arith, many, h, there))))
        (subst (λ (b : ℕ). IsBefore n (searched_of k).tree (leaf_at leaves i).node b) (sym (node-at j (omega (arith, many, there)))) (before-at i j h (omega (arith, many, there))));
  }

  pub first-open : (most : ℕ) (shown : List ℕ) → shown ≡ map (λ (q : OpenLeaf). q.node) (take most leaves) → AreFirstOpen n (searched_of k).tree most shown
  first-open most shown e = record { all = map (λ (q : OpenLeaf). q.node) leaves; are = all-open; first = e ∙ sym (take-map (λ (q : OpenLeaf). q.node) most leaves) }

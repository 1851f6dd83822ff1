-- A tree that grows by entries in order: its bound is no lower, and its plan no dearer.
use Rattle.std.proofs.Common.{◌≡◌, ◌≢◌, ℕ, zero, suc, ◌*◌, ◌<◌, ◌⊎◌, inl, inr, ◌==◌, ◌||◌, if◌then◌else◌, List, [], ◌∷◌, length, Bool, true, false, Option}
use Rattle.std.proofs.Common.{option_map, Some, None, ℤ, pos, arith, refl, sym, ap, subst, ◌∙◌}
use Rattle.std.specs.Option.{ForSome}
use Rattle.std.proofs.lemmas.Int.{clamps}
use Rattle.std.proofs.lemmas.Option.{none-some}
use Rattle.integers.proofs.AtKey.{same_or_other}
use Rattle.integers.proofs.Ring.{additive}
use Rattle.pool_model.specs.Network.{Net, IsLimited}
use Rattle.pool_model.specs.Plan.{Written, IsWritten, plan_of, cost_of}
use Rattle.pool_model.specs.Starting.{lesser, least_below, reach_bound}
use Rattle.row_model.specs.Boxes.{left_of, right_of}
use Rattle.row_model.specs.Multipliers.{Proof, Shown, bound, no_plan, shown_by}
use Rattle.row_model.specs.Trees.{Split, Tree, IsTree, left_node, right_node, nodes, is_cut, box_of, raised, own, bound_after, node_bound, leaf_bound, tree_bound}
use Rattle.row_model.specs.Entries.{Entry, root_proof, split_of, improve, Searched, start, after, made_from, made_by, AreInOrder, IsSearched, IsRootInOrder}
use Rattle.row_model.specs.Entries.{IsSplitEntryInOrder, IsEntryInOrder, AreInOrderFrom, IsCheaper}
use Rattle.row_model.proofs.EntryLaw.{length-more, searched-kept}
use Rattle.row_model.proofs.TreeBound.{tree-empty, which_node}
use Rattle.row_model.proofs.TreeLaw.{cut_behind}
use Rattle.pool_model.specs.Claim as claims
use Rattle.tree_certificate.specs.Certificates.{cert_of, claim_of}
use Rattle.search_run.specs.Runs.{AreSteps, IsRun}
use Rattle.search_run.specs.declared.orders.Orders.{Orders}
use Rattle.search_core.specs.declared.ended.Ended.{Ended}
use Rattle.search_run.proofs.Covering.{lt-then-lt, written-base}
use Rattle.box_tree.proofs.Growing.{bound-old, bound-left, bound-right}
use Rattle.box_tree.proofs.Rooting.{no_splits}
use Rattle.solve_command.specs.Resumed.{IsAtLeast, IsBestNoDearer, GivesPlan, IsNoWorse}

-- ---- bounds

at_least-same : (o : Option ℤ) → IsAtLeast o o
at_least-same None = tt
at_least-same (Some z) = omega (arith, additive)

at_least-then : (a b c : Option ℤ) → IsAtLeast a b → IsAtLeast b c → IsAtLeast a c
at_least-then None b c h k = tt
at_least-then (Some x) None c h k = absurd h
at_least-then (Some x) (Some y) None h k = absurd k
at_least-then (Some x) (Some y) (Some z) h k = omega (arith, additive)

at_least-lesser : (a b low : Option ℤ) → IsAtLeast a low → IsAtLeast b low → IsAtLeast (lesser a b) low
at_least-lesser None b low h k = k
at_least-lesser (Some a) None low h k = h
at_least-lesser (Some a) (Some b) None h k = absurd h
at_least-lesser (Some a) (Some b) (Some low) h k = omega (arith, additive, clamps)

left-at_least : (a b : Option ℤ) → IsAtLeast a (lesser a b)
left-at_least None b = tt
left-at_least (Some a) None = omega (arith, additive)
left-at_least (Some a) (Some b) = omega (arith, additive, clamps)

right-at_least : (a b : Option ℤ) → IsAtLeast b (lesser a b)
right-at_least a None = tt
right-at_least None (Some b) = omega (arith, additive)
right-at_least (Some a) (Some b) = omega (arith, additive, clamps)

at_least-least : (f : ℕ → Option ℤ) (n : ℕ) (low : Option ℤ) → ((i : ℕ) → i < n → IsAtLeast (f i) low) → IsAtLeast (least_below f n) low
at_least-least f zero low h = tt
at_least-least f (suc n) low h = at_least-lesser (least_below f n) (f n) low (at_least-least f n low (λ i lt. h i (omega arith))) (h n (omega arith))

each-at_least : (f : ℕ → Option ℤ) (n i : ℕ) → i < n → IsAtLeast (f i) (least_below f n)
each-at_least f zero i h = absurd (omega arith)
each-at_least f (suc n) i h = elim (same_or_other i n) [
  | inl e ↦ subst (λ (j : ℕ). IsAtLeast (f j) (lesser (least_below f n) (f n))) (sym e) (right-at_least (least_below f n) (f n))
  | inr d ↦ at_least-then (f i) (least_below f n) (lesser (least_below f n) (f n)) (each-at_least f n i (omega arith)) (left-at_least (least_below f n) (f n))
]

at_least-raised : (o : Option ℤ) (shown : Option Shown) → IsAtLeast (raised o shown) o
at_least-raised None shown = tt
at_least-raised (Some low) None = omega (arith, additive)
at_least-raised (Some low) (Some (bound z)) = omega (arith, additive, clamps)
at_least-raised (Some low) (Some no_plan) = tt

-- a node that is cut says nothing
at_least-leaf : (b : Bool) (o low : Option ℤ) → IsAtLeast o low → IsAtLeast (if b then None else o) low
at_least-leaf true o low h = tt
at_least-leaf false o low h = h

at_least-cut : (b c : Bool) (o : Option ℤ) → IsAtLeast (if b || c then None else o) (if b then None else o)
at_least-cut true c o = tt
at_least-cut false true o = tt
at_least-cut false false o = at_least-same o

-- ---- one entry

module _ (n : Net) (s : Searched) (split : Split) (left right : Option Proof) (is : IsTree n s.tree) (in_order : IsSplitEntryInOrder n s split left right) where
  abbrev new : Tree
  new = (after s (split_of split left right)).tree

  -- the leaf that is cut has at least the tree's bound
  parent : IsAtLeast (node_bound n s.tree split.leaf) (tree_bound n s.tree)
  parent =
      subst (λ (b : Bool). IsAtLeast (if b then None else node_bound n s.tree split.leaf) (tree_bound n s.tree)) in_order.cuts.leaf.uncut
      (each-at_least (leaf_bound n s.tree) (nodes s.tree.splits) split.leaf in_order.cuts.leaf.there)

  child : (o : Option ℤ) (shown : Option Shown) → o ≡ raised (node_bound n s.tree split.leaf) shown → IsAtLeast o (tree_bound n s.tree)
  child o shown e =
      subst (λ (x : Option ℤ). IsAtLeast x (tree_bound n s.tree)) (sym e)
      (at_least-then (raised (node_bound n s.tree split.leaf) shown) (node_bound n s.tree split.leaf) (tree_bound n s.tree) (at_least-raised (node_bound n s.tree split.leaf) shown) parent)

  old-leaf : (i : ℕ) → i < nodes s.tree.splits → IsAtLeast (leaf_bound n new i) (tree_bound n s.tree)
  old-leaf i lt =
      at_least-then (leaf_bound n new i) (leaf_bound n s.tree i) (tree_bound n s.tree)
      (subst (λ (b : Bool). IsAtLeast (if b then None else node_bound n new i) (leaf_bound n s.tree i)) (sym (cut_behind s.tree.splits split i))
      (subst (λ (o : Option ℤ). IsAtLeast (if is_cut s.tree.splits i || (split.leaf == i) then None else o) (leaf_bound n s.tree i)) (sym (bound-old n s split left right is i lt))
      (at_least-cut (is_cut s.tree.splits i) (split.leaf == i) (node_bound n s.tree i))))
      (each-at_least (leaf_bound n s.tree) (nodes s.tree.splits) i lt)

  new-leaf : (i : ℕ) → i < nodes new.splits → IsAtLeast (leaf_bound n new i) (tree_bound n s.tree)
  new-leaf i lt = elim (which_node (length s.tree.splits) i (omega (arith, length-more s.tree.splits split))) [
    | inl e ↦ at_least-leaf (is_cut new.splits i) (node_bound n new i) (tree_bound n s.tree)
        (subst (λ (j : ℕ). IsAtLeast (node_bound n new j) (tree_bound n s.tree)) (sym e)
        (child (node_bound n new (left_node (length s.tree.splits))) (option_map
        (shown_by n (left_of (box_of n s.tree.splits split.leaf) split.coord split.cut)) left) (bound-left n s split left right is in_order.cuts.leaf.there)))
    | inr (inl e) ↦ at_least-leaf (is_cut new.splits i) (node_bound n new i) (tree_bound n s.tree)
        (subst (λ (j : ℕ). IsAtLeast (node_bound n new j) (tree_bound n s.tree)) (sym e)
        (child (node_bound n new (right_node (length s.tree.splits))) (option_map
        (shown_by n (right_of (box_of n s.tree.splits split.leaf) split.coord split.cut)) right) (bound-right n s split left right is in_order.cuts.leaf.there)))
    | inr (inr below) ↦ old-leaf i (omega arith)
  ]

  split-bound : IsAtLeast (tree_bound n new) (tree_bound n s.tree)
  split-bound = at_least-least (leaf_bound n new) (nodes new.splits) (tree_bound n s.tree) new-leaf

module _ (n : Net) (s : Searched) (proof : Proof) (is : IsTree n s.tree) (in_order : IsRootInOrder n s proof) where
  none : length s.tree.splits ≡ 0
  none = no_splits n s.tree is in_order.uncut

  abbrev rooted : Tree
  rooted = (after s (root_proof proof)).tree

  -- the root had the reach bound, and has at least that
  root-before : node_bound n s.tree 0 ≡ Some (reach_bound n)
  root-before =
      ap (λ (l : ℕ). bound_after n s.tree l 0) none
      ∙ ap (λ (o : Option Proof). raised (Some (reach_bound n)) (option_map (shown_by n (box_of n s.tree.splits 0)) o)) in_order.unproved

  root-after : node_bound n rooted 0 ≡ raised (Some (reach_bound n)) (own n rooted 0)
  root-after = ap (λ (l : ℕ). bound_after n rooted l 0) none

  root-more : IsAtLeast (node_bound n rooted 0) (node_bound n s.tree 0)
  root-more =
      subst (λ (o : Option ℤ). IsAtLeast (node_bound n rooted 0) o) (sym root-before)
      (subst (λ (o : Option ℤ). IsAtLeast o (Some (reach_bound n))) (sym root-after) (at_least-raised (Some (reach_bound n)) (own n rooted 0)))

  root-leaf : IsAtLeast (leaf_bound n rooted 0) (leaf_bound n s.tree 0)
  root-leaf = both (is_cut s.tree.splits 0)
    where
      both : (b : Bool) → IsAtLeast (if b then None else node_bound n rooted 0) (if b then None else node_bound n s.tree 0)
      both true = tt
      both false = root-more

  root-bound : IsAtLeast (tree_bound n rooted) (tree_bound n s.tree)
  root-bound = at_least-least (leaf_bound n rooted) (nodes s.tree.splits) (tree_bound n s.tree)
      (λ i lt. let at : i ≡ 0 = omega (arith, none) in
      subst (λ (j : ℕ). IsAtLeast (leaf_bound n rooted j) (tree_bound n s.tree)) (sym at)
      (at_least-then (leaf_bound n rooted 0) (leaf_bound n s.tree 0) (tree_bound n s.tree) root-leaf (each-at_least (leaf_bound n s.tree) (nodes s.tree.splits) 0 (omega arith))))

entry-bound : (n : Net) (s : Searched) (e : Entry) → IsSearched n s → IsEntryInOrder n s e → IsAtLeast (tree_bound n (after s e).tree) (tree_bound n s.tree)
entry-bound n s (root_proof proof) is in_order = root-bound n s proof is.tree in_order
entry-bound n s (split_of split left right) is in_order = split-bound n s split left right is.tree in_order
entry-bound n s (improve plan) is in_order = at_least-same (tree_bound n s.tree)

-- ---- plans

cheaper-then : (n : Net) (u v w : Written) → IsWritten n u → IsWritten n v → IsWritten n w → IsCheaper n u v → IsCheaper n v w → IsCheaper n u w
cheaper-then n u v w a b c h k =
    lt-then-lt (cost_of n (plan_of n u)) (pos (u.flow_base * u.base)) (cost_of n (plan_of n v)) (pos (v.flow_base * v.base)) (cost_of n (plan_of n w)) (pos (w.flow_base * w.base))
    (written-base n u a) (written-base n v b) (written-base n w c) h k

no_dearer-same : (n : Net) (o : Option Written) → IsBestNoDearer n o o
no_dearer-same n None = tt
no_dearer-same n (Some w) = inl refl

no_dearer-then : (n : Net) (a b c : Option Written) → ForSome a (IsWritten n) → ForSome b (IsWritten n) → ForSome c (IsWritten n) → IsBestNoDearer n a b → IsBestNoDearer n b c → IsBestNoDearer n a c
no_dearer-then n None b c p q r h k = tt
no_dearer-then n (Some u) None c p q r h k = absurd h
no_dearer-then n (Some u) (Some v) None p q r h k = absurd k
no_dearer-then n (Some u) (Some v) (Some w) p q r (inl e) k = subst (λ (x : Written). (w ≡ x) ⊎ IsCheaper n w x) e k
no_dearer-then n (Some u) (Some v) (Some w) p q r (inr h) (inl e) = inr (subst (λ (x : Written). IsCheaper n x u) (sym e) h)
no_dearer-then n (Some u) (Some v) (Some w) p q r (inr h) (inr k) = inr (cheaper-then n w v u (r w refl) (q v refl) (p u refl) k h)

entry-plan : (n : Net) (s : Searched) (e : Entry) → IsEntryInOrder n s e → IsBestNoDearer n s.best (after s e).best
entry-plan n s (root_proof proof) in_order = no_dearer-same n s.best
entry-plan n s (split_of split left right) in_order = no_dearer-same n s.best
entry-plan n s (improve plan) in_order = by s.best in_order.cheaper
  where
    by : (o : Option Written) → ForSome o (IsCheaper n plan) → IsBestNoDearer n o (Some plan)
    by None h = tt
    by (Some w) h = inr (h w refl)

-- ---- entries one after another

pub made-bound : (n : Net) (s : Searched) (es : List Entry) → IsSearched n s → AreInOrderFrom n s es → IsAtLeast (tree_bound n (made_from s es).tree) (tree_bound n s.tree)
made-bound n s [] is are = at_least-same (tree_bound n s.tree)
made-bound n s (e ∷ es) is are =
    at_least-then (tree_bound n (made_from (after s e) es).tree) (tree_bound n (after s e).tree) (tree_bound n s.tree)
    (made-bound n (after s e) es (searched-kept n s e is are.0) are.1) (entry-bound n s e is are.0)

pub made-searched : (n : Net) (s : Searched) (es : List Entry) → IsSearched n s → AreInOrderFrom n s es → IsSearched n (made_from s es)
made-searched n s [] is are = is
made-searched n s (e ∷ es) is are = made-searched n (after s e) es (searched-kept n s e is are.0) are.1

pub made-plan : (n : Net) (s : Searched) (es : List Entry) → IsSearched n s → AreInOrderFrom n s es → IsBestNoDearer n s.best (made_from s es).best
made-plan n s [] is are = no_dearer-same n s.best
made-plan n s (e ∷ es) is are =
    let next = searched-kept n s e is are.0 in
    no_dearer-then n s.best (after s e).best (made_from (after s e) es).best is.written next.written (made-searched n (after s e) es next are.1).written
    (entry-plan n s e are.0) (made-plan n (after s e) es next are.1)

-- ---- a run

start-searched : (n : Net) → IsSearched n start
start-searched n = record {
  tree = record {
    few = omega arith;
    splits = λ t h. absurd (omega arith);
    placed = λ node proof e. absurd (none-some proof e);
    proofs = λ node proof e. absurd (none-some proof e);
  };
  written = λ w e. absurd (none-some w e);
  obeys = λ w e. absurd (none-some w e);
}

steps-in_order : (n : Net) (o : Orders) (s : Searched) (es : List Entry) → AreSteps n o s es → AreInOrderFrom n s es
steps-in_order n o s [] are = tt
steps-in_order n o s (e ∷ es) are = (are.0.in_order, steps-in_order n o (after s e) es are.1)

module _ (n : Net) (limited : IsLimited n) where
  -- a tree with a plan that obeys has a bound
  given : (best : Option Written) (least : Option ℤ) → best ≢ None → least ≢ None → GivesPlan (claim_of n best least)
  given None least plan bounded = absurd (plan refl)
  given (Some w) None plan bounded = absurd (bounded refl)
  given (Some w) (Some z) plan bounded = tt

  unplanned : (best : Option Written) (least : Option ℤ) → least ≡ None → claim_of n best least ≡ claims.no_plan
  unplanned None None e = refl
  unplanned (Some w) None e = refl
  unplanned best (Some z) e = absurd (none-some z (sym e))

  no_bound : (least low : Option ℤ) → IsAtLeast least low → low ≡ None → least ≡ None
  no_bound None low h e = refl
  no_bound (Some z) None h e = absurd h
  no_bound (Some z) (Some low) h e = absurd (none-some low (sym e))

  some-plan : (old best : Option Written) (w : Written) → old ≡ Some w → IsBestNoDearer n old best → (v : Written) × (best ≡ Some v)
  some-plan None best w e h = absurd (none-some w e)
  some-plan (Some u) None w e h = absurd h
  some-plan (Some u) (Some v) w e h = (v, refl)

  pub no_worse : (o : Orders) (first : List Entry) (found : Searched) (ended : Ended) → AreInOrder n first → IsRun n o (made_by first) found ended → IsNoWorse n (made_by first) found (cert_of n found)
  no_worse o first found ended are run =
      let begun = made-searched n start first (start-searched n) are in
      let steps = steps-in_order n o (made_by first) run.entries run.steps in
      let searched : IsSearched n found = subst (IsSearched n) (sym run.made) (made-searched n (made_by first) run.entries begun steps) in
      let more : IsAtLeast (tree_bound n found.tree) (tree_bound n (made_by first).tree) =
      subst (λ (s : Searched). IsAtLeast (tree_bound n s.tree) (tree_bound n (made_by first).tree)) (sym run.made) (made-bound n (made_by first) run.entries begun steps) in
      let less : IsBestNoDearer n (made_by first).best found.best =
      subst (λ (s : Searched). IsBestNoDearer n (made_by first).best s.best) (sym run.made) (made-plan n (made_by first) run.entries begun steps) in
      record {
        bound = more;
        plan = less;
        gap = λ w e.
            let v = some-plan (made_by first).best found.best w e less in
            given found.best (tree_bound n found.tree) (λ none. none-some v.0 (sym none ∙ v.1))
            (λ none. tree-empty n found.tree limited searched.tree none (plan_of n v.0) (searched.obeys v.0 v.1));
        none = λ none. unplanned found.best (tree_bound n found.tree) (no_bound (tree_bound n found.tree) (tree_bound n (made_by first).tree) more none);
      }

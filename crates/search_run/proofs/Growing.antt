-- What the steps of a run add to its tree.
use Rattle.std.proofs.Common.{◌≡◌, ℕ, ◌<◌, ◌≤◌, inl, inr, ◌++◌, [], ◌∷◌, length, false, ◌==◌, if◌then◌else◌, Option, Some, None, option_map, ℤ, arith, refl, sym, ap, subst, ◌∙◌}
use Rattle.std.proofs.lemmas.List.{get_or_append_left}
use Rattle.std.proofs.lemmas.Option.{none-some}
use Rattle.integers.proofs.AtKey.{same_or_other, passed}
use Rattle.pool_model.specs.Network.{Net}
use Rattle.row_model.specs.Boxes.{Box, left_of, right_of}
use Rattle.row_model.specs.Multipliers.{Proof, shown_by}
use Rattle.row_model.specs.Trees.{Split, no_split, Tree, IsTree, nodes, left_node, right_node, is_cut, box_of, node_bound, leaf_bound, tree_bound, raised, IsLeastLeaf}
use Rattle.row_model.specs.Entries.{Searched, root_proof, split_of, after}
use Rattle.row_model.proofs.EntryLaw.{length-more, box_before, box_left, box_right}
use Rattle.row_model.proofs.TreeBound.{which_node}
use Rattle.box_tree.proofs.Growing.{bound-old, bound-left, bound-right}
use Rattle.box_tree.proofs.Rooting.{no_splits}
use Rattle.dual_rounding.specs.Price.{IsPriced}
use Rattle.raised_splits.specs.Raising.{AreBest, IsBest, IsBestAt}
use Rattle.search_run.specs.Steps.{IsOfForm, IsHalf, IsSplit}
use Rattle.search_run.specs.Found.{IsPricedAt, IsGrown}
use Rattle.search_run.specs.declared.orders.Orders.{Orders}
use Rattle.search_run.proofs.Proofs.{proof-rooted, proof-split}

-- at the beginning nothing is added
pub grown-start : (n : Net) (o : Orders) (t : Tree) → IsGrown n o t t
grown-start n o t = record {
  more = omega arith;
  begins = λ t h. refl;
  kept = λ node p e. e;
  few = omega arith;
  named = λ node p e. inl e;
  priced = λ node h k. absurd (omega arith);
  best = λ on node h k. absurd (omega arith);
}

-- a proof of the root comes while there are no splits
rooted-kept : (p q : Proof) (old : ℕ → Option Proof) (node : ℕ) → old 0 ≡ None → old node ≡ Some q → (if node == 0 then Some p else old node) ≡ Some q
rooted-kept p q old node none e = elim (same_or_other node 0) [
  | inl a ↦ absurd (none-some q (sym none ∙ ap old (sym a) ∙ e))
  | inr d ↦ passed node 0 (Some p) (old node) d ∙ e
]

pub grown-root : (n : Net) (o : Orders) (begun : Tree) (s : Searched) (p : Proof) → IsTree n s.tree → s.tree.proof 0 ≡ None → is_cut s.tree.splits 0 ≡ false → IsOfForm n o.form p
    → IsGrown n o begun s.tree → IsGrown n o begun (after s (root_proof p)).tree
grown-root n o begun s p is unproved uncut form g = record {
  more = g.more;
  begins = g.begins;
  kept = λ node q e. rooted-kept p q s.tree.proof node unproved (g.kept node q e);
  few = g.few;
  named = λ node q e. elim (proof-rooted p s.tree.proof node q e) [
    | inl a ↦ inr (subst (IsOfForm n o.form) a.1 form)
    | inr b ↦ g.named node q b
  ];
  priced = λ node h k. absurd (omega (arith, h, k, no_splits n s.tree is uncut));
  best = λ on node h k. absurd (omega (arith, h, k, no_splits n s.tree is uncut));
}

-- the bound of the least leaf is the tree's
pub least-bound : (n : Net) (tree : Tree) (leaf : ℕ) → IsLeastLeaf n tree leaf → node_bound n tree leaf ≡ tree_bound n tree
least-bound n tree leaf is =
    let own : leaf_bound n tree leaf ≡ node_bound n tree leaf = cc (is.leaf.uncut) in
    sym own ∙ is.least

-- a split of the least leaf, of whichever kind, while there are fewer than were asked for
pub record IsLeafSplit (n : Net) (o : Orders) (s : Searched) (split : Split) (left right : Option Proof) : Type 0 where
  pub few : length s.tree.splits < o.nodes
  pub leaf : IsLeastLeaf n s.tree split.leaf
  pub left_half : IsHalf n o.form (left_of (box_of n s.tree.splits split.leaf) split.coord split.cut) (tree_bound n s.tree) left
  pub right_half : IsHalf n o.form (right_of (box_of n s.tree.splits split.leaf) split.coord split.cut) (tree_bound n s.tree) right

pub leaf-split : (n : Net) (o : Orders) (s : Searched) (split : Split) (left right : Option Proof) → IsSplit n o s split left right → IsLeafSplit n o s split left right
leaf-split n o s split left right (inl is) = record { few = is.0.few; leaf = is.0.leaf; left_half = is.0.left_half; right_half = is.0.right_half }
leaf-split n o s split left right (inr is) = record { few = is.few; leaf = is.leaf; left_half = is.left_half; right_half = is.right_half }

module _ (n : Net) (o : Orders) (s : Searched) (split : Split) (left right : Option Proof) (is : IsTree n s.tree) (cut : IsLeafSplit n o s split left right) where
  priced-left : IsPricedAt n (after s (split_of split left right)).tree (left_node (length s.tree.splits))
  priced-left =
      let half = left_of (box_of n s.tree.splits split.leaf) split.coord split.cut in
      let bound : node_bound n (after s (split_of split left right)).tree (left_node (length s.tree.splits)) ≡ raised (tree_bound n s.tree) (option_map (shown_by n half) left) =
      bound-left n s split left right is cut.leaf.leaf.there ∙ ap (λ (z : Option ℤ). raised z (option_map (shown_by n half) left)) (least-bound n s.tree split.leaf cut.leaf) in
      subst (λ (b : Box). IsPriced n b (node_bound n (after s (split_of split left right)).tree (left_node (length s.tree.splits)))) (sym (box_left n s.tree.splits split))
      (subst (IsPriced n half) (sym bound) cut.left_half.priced)

  priced-right : IsPricedAt n (after s (split_of split left right)).tree (right_node (length s.tree.splits))
  priced-right =
      let half = right_of (box_of n s.tree.splits split.leaf) split.coord split.cut in
      let bound : node_bound n (after s (split_of split left right)).tree (right_node (length s.tree.splits)) ≡ raised (tree_bound n s.tree) (option_map (shown_by n half) right) =
      bound-right n s split left right is cut.leaf.leaf.there ∙ ap (λ (z : Option ℤ). raised z (option_map (shown_by n half) right)) (least-bound n s.tree split.leaf cut.leaf) in
      subst (λ (b : Box). IsPriced n b (node_bound n (after s (split_of split left right)).tree (right_node (length s.tree.splits)))) (sym (box_right n s.tree.splits split))
      (subst (IsPriced n half) (sym bound) cut.right_half.priced)

  -- a node that stood before keeps its box and its bound
  pub priced-old : (node : ℕ) → node < nodes s.tree.splits → IsPricedAt n s.tree node → IsPricedAt n (after s (split_of split left right)).tree node
  priced-old node h priced =
      subst (λ (b : Box). IsPriced n b (node_bound n (after s (split_of split left right)).tree node)) (sym (box_before n s.tree.splits split node h))
      (subst (IsPriced n (box_of n s.tree.splits node)) (sym (bound-old n s split left right is node h)) priced)

  priced-any : (begun : Tree) → IsGrown n o begun s.tree → (node : ℕ) → nodes begun.splits ≤ node → node < nodes (s.tree.splits ++ split ∷ [])
      → IsPricedAt n (after s (split_of split left right)).tree node
  priced-any begun g node h k = elim (which_node (length s.tree.splits) node (omega (arith, k, length-more s.tree.splits split))) [
    | inl e ↦ subst (IsPricedAt n (after s (split_of split left right)).tree) (sym e) priced-left
    | inr r ↦ elim r [
      | inl e ↦ subst (IsPricedAt n (after s (split_of split left right)).tree) (sym e) priced-right
      | inr l ↦ priced-old node l (g.priced node h l)
    ]
  ]

  -- a node with a proof is none of the new ones
  split-kept : (node : ℕ) (q : Proof) → s.tree.proof node ≡ Some q → (after s (split_of split left right)).tree.proof node ≡ Some q
  split-kept node q e =
      let t = length s.tree.splits in
      let there = is.placed node q e in
      passed node (left_node t) left (if node == right_node t then right else s.tree.proof node) (omega (arith, there)) ∙ passed node
      (right_node t) right (s.tree.proof node) (omega (arith, there)) ∙ e

  -- ---- halves that are raised

  module _ (best : 0 < o.raise → AreBest n o.form o.raise s.tree split left right) (on : 0 < o.raise) where
    best-left : IsBestAt n o.form o.raise (after s (split_of split left right)).tree (left_node (length s.tree.splits))
    best-left =
        let half = left_of (box_of n s.tree.splits split.leaf) split.coord split.cut in
        subst (λ (b : Box). IsBest n o.form b o.raise (node_bound n (after s (split_of split left right)).tree (left_node (length s.tree.splits)))) (sym (box_left n s.tree.splits split))
        (subst (IsBest n o.form half o.raise) (sym (bound-left n s split left right is cut.leaf.leaf.there)) (best on).left_half)

    best-right : IsBestAt n o.form o.raise (after s (split_of split left right)).tree (right_node (length s.tree.splits))
    best-right =
        let half = right_of (box_of n s.tree.splits split.leaf) split.coord split.cut in
        subst (λ (b : Box). IsBest n o.form b o.raise (node_bound n (after s (split_of split left right)).tree (right_node (length s.tree.splits)))) (sym (box_right n s.tree.splits split))
        (subst (IsBest n o.form half o.raise) (sym (bound-right n s split left right is cut.leaf.leaf.there)) (best on).right_half)

    best-old : (node : ℕ) → node < nodes s.tree.splits → IsBestAt n o.form o.raise s.tree node → IsBestAt n o.form o.raise (after s (split_of split left right)).tree node
    best-old node h known =
        subst (λ (b : Box). IsBest n o.form b o.raise (node_bound n (after s (split_of split left right)).tree node)) (sym (box_before n s.tree.splits split node h))
        (subst (IsBest n o.form (box_of n s.tree.splits node) o.raise) (sym (bound-old n s split left right is node h)) known)

    best-any : (begun : Tree) → IsGrown n o begun s.tree → (node : ℕ) → nodes begun.splits ≤ node → node < nodes (s.tree.splits ++ split ∷ [])
        → IsBestAt n o.form o.raise (after s (split_of split left right)).tree node
    best-any begun g node h k = elim (which_node (length s.tree.splits) node (omega (arith, k, length-more s.tree.splits split))) [
      | inl e ↦ subst (IsBestAt n o.form o.raise (after s (split_of split left right)).tree) (sym e) best-left
      | inr r ↦ elim r [
        | inl e ↦ subst (IsBestAt n o.form o.raise (after s (split_of split left right)).tree) (sym e) best-right
        | inr l ↦ best-old node l (g.best on node h l)
      ]
    ]

  pub grown-split : (0 < o.raise → AreBest n o.form o.raise s.tree split left right) → (begun : Tree) → IsGrown n o begun s.tree
      → IsGrown n o begun (after s (split_of split left right)).tree
  grown-split best begun g = record {
    more = omega (arith, g.more, length-more s.tree.splits split);
    begins = λ t h. get_or_append_left s.tree.splits (split ∷ []) no_split t (omega (arith, h, g.more)) ∙ g.begins t h;
    kept = λ node q e. split-kept node q (g.kept node q e);
    few = omega (arith, cut.few, length-more s.tree.splits split);
    named = λ node q e. elim (proof-split left right s.tree.proof (length s.tree.splits) node q e) [
      | inl a ↦ inr (cut.left_half.named q a.1)
      | inr r ↦ elim r [ inl a ↦ inr (cut.right_half.named q a.1) | inr b ↦ g.named node q b ]
    ];
    priced = priced-any begun g;
    best = λ on. best-any best on begun g;
  }

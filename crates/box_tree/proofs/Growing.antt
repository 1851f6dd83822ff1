-- What a split makes of what a tree keeps is a network's again.
use Rattle.std.proofs.Common.{◌≡◌, ℕ, zero, suc, ◌<◌, ◌≤◌, inl, inr, ◌==◌, ◌||◌, if◌then◌else◌, List, [], ◌∷◌, ◌++◌, length}
use Rattle.std.proofs.Common.{get_or, Bool, true, false, Option, Some, None, option_map, ℤ, arith, refl, sym, ap, subst, ◌∙◌, length-append}
use Rattle.std.proofs.Math.Path.{fun_ext}
use Rattle.std.proofs.lemmas.List.{get_or_append_left}
use Rattle.std.proofs.Math.Seq.{get_or-append_seam}
use Rattle.integers.proofs.AtKey.{chosen, passed}
use Rattle.pool_model.specs.Network.{Net}
use Rattle.pool_model.specs.Starting.{reach_bound}
use Rattle.row_model.specs.Boxes.{Box, left_of, right_of}
use Rattle.row_model.specs.Multipliers.{Proof, Shown, shown_by}
use Rattle.row_model.specs.Trees.{Split, no_split, split_at, left_node, right_node, nodes, box_of, IsTree, raised, own, bound_after, node_bound}
use Rattle.row_model.specs.Entries.{Searched, after, split_of, IsSplitEntryInOrder, IsSearched}
use Rattle.row_model.proofs.TreeLaw.{length_before, same_node, other_leaf}
use Rattle.row_model.proofs.EntryLaw.{length-more, box_before, box_left, box_right, searched-kept}
use Rattle.split_tree.specs.declared.span.Span.{Span}
use Rattle.split_tree.specs.Splits.{with_split, IsOf as AreCut}
use Rattle.box_tree.specs.Kept.{Kept, searched_of, IsKeptOf}
use Rattle.box_tree.specs.Taken.{grown, IsTaken}
use Rattle.box_tree.proofs.Counting.{more-counted}
use Rattle.box_tree.proofs.Ends.{at_left, at_right, at_before, at_past, where_node}

-- ---- proofs

proof_at : (proofs : List (Option Proof)) (left right : Option Proof) (t node : ℕ) → length proofs ≡ left_node t
    → get_or (proofs ++ left ∷ right ∷ []) node None ≡ (if node == left_node t then left else (if node == right_node t then right else get_or proofs node None))
proof_at proofs left right t node long = elim (where_node t node) [
  | inl e ↦ at_left proofs left right None t long node e ∙ sym (chosen node (left_node t) left (if node == right_node t then right else get_or proofs node None) e)
  | inr r ↦ elim r [
    | inl e ↦ at_right proofs left right None t long node e
        ∙ sym (passed node (left_node t) left (if node == right_node t then right else get_or proofs node None) (omega arith) ∙ chosen node (right_node t) right (get_or proofs node None) e)
    | inr s ↦ elim s [
      | inl h ↦ at_before proofs left right None t long node h
          ∙ sym (passed node (left_node t) left (if node == right_node t then right else get_or proofs node None) (omega arith)
          ∙ passed node (right_node t) right (get_or proofs node None) (omega arith))
      | inr h ↦ at_past proofs left right None t long node h
          ∙ sym (passed node (left_node t) left (if node == right_node t then right else get_or proofs node None) (omega arith)
          ∙ passed node (right_node t) right (get_or proofs node None) (omega arith))
    ]
  ]
]

abbrev searched_with : Searched → List Split → (ℕ → Option Proof) → Searched
searched_with s splits proof = record s { tree = record { splits = splits; proof = proof } }

grown-made : (k : Kept) (split : Split) (span : Span) (left right : Option Proof) (lb rb : Option ℤ) → length k.proofs ≡ nodes k.splits.list
    → searched_of (grown k split span left right lb rb) ≡ after (searched_of k) (split_of split left right)
grown-made k split span left right lb rb long = ap (searched_with (searched_of k) (k.splits.list ++ split ∷ [])) (fun_ext (λ node. proof_at k.proofs left right (length k.splits.list) node long))

-- ---- bounds

module _ (n : Net) (s : Searched) (split : Split) (left right : Option Proof) (is : IsTree n s.tree) where
  own-old : (node : ℕ) → node < nodes s.tree.splits → own n (after s (split_of split left right)).tree node ≡ own n s.tree node
  own-old node h =
      let t = length s.tree.splits in
      ap (λ (b : Box). option_map (shown_by n b) ((after s (split_of split left right)).tree.proof node)) (box_before n s.tree.splits split node h)
      ∙ ap (λ (o : Option Proof). option_map (shown_by n (box_of n s.tree.splits node)) o)
      (passed node (left_node t) left (if node == right_node t then right else s.tree.proof node) (omega arith) ∙ passed node (right_node t) right (s.tree.proof node) (omega arith))

  leaf_below : (u : ℕ) → u < length s.tree.splits → (split_at s.tree.splits u).leaf < nodes s.tree.splits
  leaf_below u h = omega (arith, (is.splits u h).leaf.there, length_before s.tree.splits u (omega arith))

  bound-before : (u node : ℕ) → u ≤ length s.tree.splits → node < nodes s.tree.splits → bound_after n (after s (split_of split left right)).tree u node ≡ bound_after n s.tree u node
  bound-before zero node h k = ap (λ (o : Option Shown). raised (Some (reach_bound n)) o) (own-old node k)
  bound-before (suc u) node h k =
      let splits = s.tree.splits in
      let at : split_at (splits ++ split ∷ []) u ≡ split_at splits u = get_or_append_left splits (split ∷ []) no_split u (omega arith) in
      let fresh = (node == left_node u) || (node == right_node u) in
      let new_tree = (after s (split_of split left right)).tree in
      ap (λ (z : Split). if fresh then raised (bound_after n new_tree u z.leaf) (own n new_tree node) else bound_after n new_tree u node) at
      ∙ ap (λ (o : Option ℤ). if fresh then raised o (own n new_tree node) else bound_after n new_tree u node) (bound-before u (split_at splits u).leaf (omega arith) (leaf_below u (omega arith)))
      ∙ ap (λ (o : Option Shown). if fresh then raised (bound_after n s.tree u (split_at splits u).leaf) o else bound_after n new_tree u node) (own-old node k)
      ∙ ap (λ (o : Option ℤ). if fresh then raised (bound_after n s.tree u (split_at splits u).leaf) (own n s.tree node) else o) (bound-before u node (omega arith) k)

  -- a node that stood before keeps its bound
  pub bound-old : (node : ℕ) → node < nodes s.tree.splits → node_bound n (after s (split_of split left right)).tree node ≡ node_bound n s.tree node
  bound-old node h =
      let t = length s.tree.splits in
      let new_tree = (after s (split_of split left right)).tree in
      let other : ((node == left_node t) || (node == right_node t)) ≡ false = cc (other_leaf node (left_node t) (omega arith), other_leaf node (right_node t) (omega arith)) in
      ap (λ (l : ℕ). bound_after n new_tree l node) (length-more s.tree.splits split)
      ∙ ap (λ (b : Bool). if b then raised (bound_after n new_tree t (split_at new_tree.splits t).leaf) (own n new_tree node) else bound_after n new_tree t node) other
      ∙ bound-before t node (omega arith) h

  -- a new node's bound, from its parent's and what it shows itself
  bound-new : (node : ℕ) (b : Box) (proof : Option Proof) → ((node == left_node (length s.tree.splits)) || (node == right_node (length s.tree.splits))) ≡ true → split.leaf < nodes s.tree.splits
      → box_of n (s.tree.splits ++ split ∷ []) node ≡ b → (after s (split_of split left right)).tree.proof node ≡ proof
      → node_bound n (after s (split_of split left right)).tree node ≡ raised (node_bound n s.tree split.leaf) (option_map (shown_by n b) proof)
  bound-new node b proof fresh there box shows =
      let t = length s.tree.splits in
      let new_tree = (after s (split_of split left right)).tree in
      ap (λ (l : ℕ). bound_after n new_tree l node) (length-more s.tree.splits split)
      ∙ ap (λ (c : Bool). if c then raised (bound_after n new_tree t (split_at new_tree.splits t).leaf) (own n new_tree node) else bound_after n new_tree t node) fresh
      ∙ ap (λ (z : Split). raised (bound_after n new_tree t z.leaf) (own n new_tree node)) (get_or-append_seam s.tree.splits split [] no_split)
      ∙ ap (λ (o : Option ℤ). raised o (own n new_tree node)) (bound-before t split.leaf (omega arith) there)
      ∙ ap (λ (c : Box). raised (node_bound n s.tree split.leaf) (option_map (shown_by n c) (new_tree.proof node))) box
      ∙ ap (λ (o : Option Proof). raised (node_bound n s.tree split.leaf) (option_map (shown_by n b) o)) shows

  pub bound-left : split.leaf < nodes s.tree.splits → node_bound n (after s (split_of split left right)).tree (left_node (length s.tree.splits))
      ≡ raised (node_bound n s.tree split.leaf) (option_map (shown_by n (left_of (box_of n s.tree.splits split.leaf) split.coord split.cut)) left)
  bound-left there =
      let t = length s.tree.splits in
      bound-new (left_node t) (left_of (box_of n s.tree.splits split.leaf) split.coord split.cut) left (cc (same_node (left_node t))) there (box_left n s.tree.splits split)
      (chosen (left_node t) (left_node t) left (if left_node t == right_node t then right else s.tree.proof (left_node t)) refl)

  pub bound-right : split.leaf < nodes s.tree.splits → node_bound n (after s (split_of split left right)).tree (right_node (length s.tree.splits))
      ≡ raised (node_bound n s.tree split.leaf) (option_map (shown_by n (right_of (box_of n s.tree.splits split.leaf) split.coord split.cut)) right)
  bound-right there =
      let t = length s.tree.splits in
      bound-new (right_node t) (right_of (box_of n s.tree.splits split.leaf) split.coord split.cut) right
      (cc (other_leaf (right_node t) (left_node t) (omega arith), same_node (right_node t))) there (box_right n s.tree.splits split)
      (passed (right_node t) (left_node t) left (if right_node t == right_node t then right else s.tree.proof (right_node t)) (omega arith)
      ∙ chosen (right_node t) (right_node t) right (s.tree.proof (right_node t)) refl)

-- ---- all of it

pub split-taken : (n : Net) (k : Kept) (split : Split) (span : Span) (left right : Option Proof) (lb rb : Option ℤ) → IsKeptOf n k → IsSplitEntryInOrder n (searched_of k) split left right
    → AreCut n (with_split k.splits split span)
    → lb ≡ raised (get_or k.bounds split.leaf None) (option_map (shown_by n (left_of (box_of n k.splits.list split.leaf) split.coord split.cut)) left)
    → rb ≡ raised (get_or k.bounds split.leaf None) (option_map (shown_by n (right_of (box_of n k.splits.list split.leaf) split.coord split.cut)) right)
    → IsTaken n (split_of split left right) k (grown k split span left right lb rb)
split-taken n k split span left right lb rb is order cut left_is right_is =
    let s = searched_of k in
    let t = length k.splits.list in
    let there = order.cuts.leaf.there in
    let made = grown-made k split span left right lb rb is.proved in
    let more = length-more k.splits.list split in
    let above : (o : Option Shown) → raised (get_or k.bounds split.leaf None) o ≡ raised (node_bound n s.tree split.leaf) o = λ o. ap (λ (b : Option ℤ). raised b o) (is.bounds split.leaf there) in
    let proofs : length (left ∷ right ∷ []) ≡ 2 = refl in
    let two : length (lb ∷ rb ∷ []) ≡ 2 = refl in
    record {
      in_order = order;
      made = made;
      kept = record {
        searched = subst (λ (z : Searched). IsSearched n z) (sym made) (searched-kept n s (split_of split left right) is.searched order);
        proved = omega (arith, length-append k.proofs (left ∷ right ∷ []), is.proved, more, proofs);
        bounded = omega (arith, length-append k.bounds (lb ∷ rb ∷ []), is.bounded, more, two);
        splits = cut;
        counted = more-counted n k.splits.list split k.cuts order.cuts.coord is.counted;
        bounds = λ node h. subst (λ (z : Searched). get_or (k.bounds ++ lb ∷ rb ∷ []) node None ≡ node_bound n z.tree node) (sym made) (elim (where_node t node) [
          | inl e ↦ at_left k.bounds lb rb None t is.bounded node e
              ∙ left_is ∙ above (option_map (shown_by n (left_of (box_of n k.splits.list split.leaf) split.coord split.cut)) left)
              ∙ sym (ap (λ (m : ℕ). node_bound n (after s (split_of split left right)).tree m) e ∙ bound-left n s split left right is.searched.tree there)
          | inr r ↦ elim r [
            | inl e ↦ at_right k.bounds lb rb None t is.bounded node e
                ∙ right_is ∙ above (option_map (shown_by n (right_of (box_of n k.splits.list split.leaf) split.coord split.cut)) right)
                ∙ sym (ap (λ (m : ℕ). node_bound n (after s (split_of split left right)).tree m) e ∙ bound-right n s split left right is.searched.tree there)
            | inr o ↦ elim o [
              | inl b ↦ at_before k.bounds lb rb None t is.bounded node b ∙ is.bounds node b ∙ sym (bound-old n s split left right is.searched.tree node b)
              | inr p ↦ absurd (omega (arith, h, p, more))
            ]
          ]
        ]);
        cost = is.cost;
      };
    }

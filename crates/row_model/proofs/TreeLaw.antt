-- Every plan that obeys lies in the box of some leaf of a tree, and costs at least that leaf's bound.
use Rattle.std.proofs.Common.{◌≡◌, ◌≢◌, ℕ, zero, suc, ◌+◌, ◌-◌, ◌*◌, ◌<◌, ◌≤◌, ◌⊎◌, inl, inr, ◌==◌, ◌||◌}
use Rattle.std.proofs.Common.{if◌then◌else◌, List, [], ◌∷◌, ◌++◌, length, take, Bool, true, false, ℤ, arith, refl, sym, ap, subst, ◌∙◌, add-one}
use Rattle.std.proofs.lemmas.List.{take_all, length-take-le}
use Rattle.std.proofs.lemmas.List.Folds.{list_any-append, list_any_more}
use Rattle.std.proofs.lemmas.Bool.Decides.{nat_tests}
use Rattle.integers.proofs.AtKey.{same_or_other, chosen, passed}
use Rattle.pool_model.specs.Network.{Net}
use Rattle.row_model.specs.Boxes.{Box, root, left_of, right_of}
use Rattle.row_model.specs.Trees.{Split, no_split, split_at, left_node, right_node, is_cut, IsLeaf, box_after, box_of, IsSplitInOrder}

-- ---- the tree of the first splits

pub length_before : (splits : List Split) (t : ℕ) → t ≤ length splits → length (take t splits) ≡ t
length_before splits t h = length-take-le t splits h

-- one split more
pub cut_more : (splits : List Split) (t node : ℕ) → t < length splits → is_cut (take (t + 1) splits) node ≡ (is_cut (take t splits) node || ((split_at splits t).leaf == node))
cut_more splits t node h = list_any_more (λ s. s.leaf == node) splits t no_split h

-- a node is cut by the splits before the last one, or by that
pub cut_behind : (splits : List Split) (s : Split) (node : ℕ) → is_cut (splits ++ s ∷ []) node ≡ (is_cut splits node || (s.leaf == node))
cut_behind splits s node = list_any-append (λ (z : Split). z.leaf == node) splits (s ∷ []) ∙ ap (λ (b : Bool). is_cut splits node || b) (or-none (s.leaf == node))
  where
    or-none : (b : Bool) → (b || false) ≡ b
    or-none true = refl
    or-none false = refl

pub or_false : (a b : Bool) → a ≡ false → b ≡ false → (a || b) ≡ false
or_false a b h k = cc

pub same_node : (a : ℕ) → (a == a) ≡ true
same_node a = grind (arith, nat_tests)

pub other_leaf : (a b : ℕ) → a ≢ b → (a == b) ≡ false
other_leaf a b h = grind (arith, nat_tests)

-- a leaf that the next split leaves whole is one of the next tree
pub leaf_kept : (splits : List Split) (t node : ℕ) → t < length splits → IsLeaf (take t splits) node → (split_at splits t).leaf ≢ node → IsLeaf (take (t + 1) splits) node
leaf_kept splits t node h leaf other = record {
  there = omega (arith, leaf.there, length_before splits t (omega arith), length_before splits (t + 1) (omega arith));
  uncut = cut_more splits t node h ∙ or_false (is_cut (take t splits) node) ((split_at splits t).leaf == node) leaf.uncut (other_leaf (split_at splits t).leaf node other);
}

-- no split of the first ones cuts a node that comes later
pub uncut_later : (n : Net) (splits : List Split) (t node : ℕ) → t ≤ length splits → 2 * t ≤ node + 1 → ((i : ℕ) → i < t → IsSplitInOrder n splits i) → is_cut (take t splits) node ≡ false
uncut_later n splits zero node h later order = refl
uncut_later n splits (suc t) node h later order =
    let leaf = (order t (omega arith)).leaf in
    ap (λ m. is_cut (take m splits) node) (sym (add-one t))
    ∙ cut_more splits t node (omega arith)
    ∙ or_false (is_cut (take t splits) node) ((split_at splits t).leaf == node) (uncut_later n splits t node (omega arith) (omega arith) (λ i lt. order i (omega arith)))
    (other_leaf (split_at splits t).leaf node (omega (arith, leaf.there, length_before splits t (omega arith))))

-- ---- boxes

-- the box of a node that stands does not change with later splits
pub box_kept : (n : Net) (splits : List Split) (t node : ℕ) → node < 2 * t + 1 → box_after n splits (suc t) node ≡ box_after n splits t node
box_kept n splits t node h =
    passed node (left_node t) (left_of (box_after n splits t (split_at splits t).leaf) (split_at splits t).coord (split_at splits t).cut)
    (if node == right_node t then right_of (box_after n splits t (split_at splits t).leaf) (split_at splits t).coord (split_at splits t).cut else box_after n splits t node) (omega arith)
    ∙ passed node (right_node t) (right_of (box_after n splits t (split_at splits t).leaf) (split_at splits t).coord (split_at splits t).cut) (box_after n splits t node) (omega arith)

pub left_box : (n : Net) (splits : List Split) (t : ℕ)
    → box_after n splits (suc t) (left_node t) ≡ left_of (box_after n splits t (split_at splits t).leaf) (split_at splits t).coord (split_at splits t).cut
left_box n splits t =
    chosen (left_node t) (left_node t) (left_of (box_after n splits t (split_at splits t).leaf) (split_at splits t).coord (split_at splits t).cut)
    (if left_node t == right_node t then right_of (box_after n splits t (split_at splits t).leaf) (split_at splits t).coord (split_at splits t).cut else box_after n splits t (left_node t)) refl

pub right_box : (n : Net) (splits : List Split) (t : ℕ)
    → box_after n splits (suc t) (right_node t) ≡ right_of (box_after n splits t (split_at splits t).leaf) (split_at splits t).coord (split_at splits t).cut
right_box n splits t =
    passed (right_node t) (left_node t) (left_of (box_after n splits t (split_at splits t).leaf) (split_at splits t).coord (split_at splits t).cut)
    (if right_node t == right_node t then right_of (box_after n splits t (split_at splits t).leaf) (split_at splits t).coord
    (split_at splits t).cut else box_after n splits t (right_node t)) (omega arith)
    ∙ chosen (right_node t) (right_node t) (right_of (box_after n splits t (split_at splits t).leaf) (split_at splits t).coord (split_at splits t).cut) (box_after n splits t (right_node t)) refl

-- the same over any number of later splits
box_stays : (n : Net) (splits : List Split) (t more node : ℕ) → node < 2 * t + 1 → box_after n splits (t + more) node ≡ box_after n splits t node
box_stays n splits t zero node h = ap (λ m. box_after n splits m node) (omega arith)
box_stays n splits t (suc more) node h =
    ap (λ m. box_after n splits m node) (same t more)
    ∙ box_kept n splits (t + more) node (omega arith)
    ∙ box_stays n splits t more node h
  where
    same : (t more : ℕ) → t + suc more ≡ suc (t + more)
    same t more = omega arith

pub box_is : (n : Net) (splits : List Split) (t node : ℕ) → t ≤ length splits → node < 2 * t + 1 → box_of n splits node ≡ box_after n splits t node
box_is n splits t node h k =
    ap (λ m. box_after n splits m node) (whole t (length splits) h) ∙ box_stays n splits t (length splits - t) node k
  where
    whole : (t l : ℕ) → t ≤ l → l ≡ t + (l - t)
    whole t l h = omega arith

-- ---- leaves

-- a leaf of the first splits in whose box something lies
record Found (n : Net) (In : Box → Type 0) (splits : List Split) (t : ℕ) : Type 0 where
  pub node : ℕ
  pub leaf : IsLeaf (take t splits) node
  pub lies : In (box_after n splits t node)

-- What lies in the root box, and with each box in one of its halves, lies in the box of a leaf.
module _ (n : Net) (In : Box → Type 0) (halves : (b : Box) (coord : ℕ) (cut : ℤ) → In b → In (left_of b coord cut) ⊎ In (right_of b coord cut))
    (splits : List Split) (order : (t : ℕ) → t < length splits → IsSplitInOrder n splits t) where
  found_half : (t : ℕ) → t < length splits
      → In (left_of (box_after n splits t (split_at splits t).leaf) (split_at splits t).coord (split_at splits t).cut)
      ⊎ In (right_of (box_after n splits t (split_at splits t).leaf) (split_at splits t).coord (split_at splits t).cut)
      → Found n In splits (suc t)
  found_half t h (inl lies) = record {
    node = left_node t;
    leaf = record {
      there = omega (arith, length_before splits (suc t) (omega arith));
      uncut = uncut_later n splits (suc t) (left_node t) (omega arith) (omega arith) (λ i lt. order i (omega arith));
    };
    lies = subst In (sym (left_box n splits t)) lies;
  }
  found_half t h (inr lies) = record {
    node = right_node t;
    leaf = record {
      there = omega (arith, length_before splits (suc t) (omega arith));
      uncut = uncut_later n splits (suc t) (right_node t) (omega arith) (omega arith) (λ i lt. order i (omega arith));
    };
    lies = subst In (sym (right_box n splits t)) lies;
  }

  found_next : (t : ℕ) → t < length splits → Found n In splits t → Found n In splits (suc t)
  found_next t h f = elim (same_or_other (split_at splits t).leaf f.node) [
    | inl e ↦ found_half t h (halves (box_after n splits t (split_at splits t).leaf) (split_at splits t).coord (split_at splits t).cut (subst (λ m. In (box_after n splits t m)) (sym e) f.lies))
    | inr d ↦ record {
      node = f.node;
      leaf = subst (λ m. IsLeaf (take m splits) f.node) (add-one t) (leaf_kept splits t f.node h f.leaf d);
      lies = subst In (sym (box_kept n splits t f.node (omega (arith, f.leaf.there, length_before splits t (omega arith))))) f.lies;
    }
  ]

  found : (t : ℕ) → t ≤ length splits → In (root n) → Found n In splits t
  found zero h lies = record { node = 0; leaf = record { there = omega arith; uncut = refl }; lies = lies }
  found (suc t) h lies = found_next t (omega arith) (found t (omega arith) lies)

  pub leaf-found : In (root n) → (node : ℕ) × IsLeaf splits node × In (box_of n splits node)
  leaf-found lies =
      let f = found (length splits) (omega arith) lies in
      (f.node, subst (λ s. IsLeaf s f.node) (take_all (length splits) splits (omega arith)) f.leaf, f.lies)

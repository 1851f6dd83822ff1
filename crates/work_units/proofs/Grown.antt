-- The leaves of a tree with one split more.
use Rattle.std.proofs.Common.{◌≡◌, ◌≢◌, ℕ, ◌+◌, ◌<◌, ◌≤◌, ◌==◌, ◌||◌, List, [], ◌∷◌, ◌++◌, length, false, arith, sym, ap, ◌∙◌}
use Rattle.std.proofs.lemmas.List.{take_all}
use Rattle.pool_model.specs.Network.{Net}
use Rattle.row_model.specs.Trees.{Split, left_node, right_node, nodes, is_cut, IsLeaf, IsSplitInOrder}
use Rattle.row_model.specs.Entries.{Entry, root_proof, split_of, improve, Searched, after}
use Rattle.row_model.proofs.TreeLaw.{cut_behind, or_false, other_leaf, uncut_later}
use Rattle.row_model.proofs.EntryLaw.{length-more}
use Rattle.work_units.specs.Units.{Splits}
use Rattle.work_units.proofs.Lists.{or-parts, not-same}

-- an entry splits one node
pub one-node : (e : Entry) (a b : ℕ) → Splits a e → Splits b e → a ≡ b
one-node (split_of split left right) a b h k = sym h ∙ k
one-node (root_proof proof) a b h k = absurd h
one-node (improve plan) a b h k = absurd h

-- what is cut after an entry that splits a node
pub cut-after : (s : Searched) (e : Entry) (node m : ℕ) → Splits node e → is_cut (after s e).tree.splits m ≡ (is_cut s.tree.splits m || (node == m))
cut-after s (split_of split left right) node m h = cut_behind s.tree.splits split m ∙ ap (λ (l : ℕ). is_cut s.tree.splits m || (l == m)) h
cut-after s (root_proof proof) node m h = absurd h
cut-after s (improve plan) node m h = absurd h

pub more-nodes : (s : Searched) (e : Entry) (node : ℕ) → Splits node e → nodes (after s e).tree.splits ≡ nodes s.tree.splits + 2
more-nodes s (split_of split left right) node h = omega (arith, length-more s.tree.splits split)
more-nodes s (root_proof proof) node h = absurd h
more-nodes s (improve plan) node h = absurd h

-- no split cuts a node past the last one
pub uncut-past : (n : Net) (splits : List Split) (node : ℕ) → ((t : ℕ) → t < length splits → IsSplitInOrder n splits t) → nodes splits ≤ node → is_cut splits node ≡ false
uncut-past n splits node order h =
    ap (λ (xs : List Split). is_cut xs node) (sym (take_all (length splits) splits (omega arith))) ∙ uncut_later n splits (length splits) node (omega arith) (omega arith) order

module _ (n : Net) (splits : List Split) (split : Split) (order : (t : ℕ) → t < length splits → IsSplitInOrder n splits t) (leaf : IsLeaf splits split.leaf) where
  -- a leaf that is not split stays one
  pub leaf-kept : (node : ℕ) → IsLeaf splits node → split.leaf ≢ node → IsLeaf (splits ++ split ∷ []) node
  leaf-kept node is other = record {
    there = omega (arith, is.there, length-more splits split);
    uncut = cut_behind splits split node ∙ or_false (is_cut splits node) (split.leaf == node) is.uncut (other_leaf split.leaf node other);
  }

  -- a leaf that stood before was one, and is not split
  pub leaf-was : (node : ℕ) → IsLeaf (splits ++ split ∷ []) node → node < nodes splits → IsLeaf splits node × (split.leaf ≢ node)
  leaf-was node is there =
      let parts = or-parts (is_cut splits node) (split.leaf == node) (sym (cut_behind splits split node) ∙ is.uncut) in
      (record { there = there; uncut = parts.0 }, not-same split.leaf node parts.1)

  -- the new nodes are leaves
  leaf-new : (node : ℕ) → nodes splits ≤ node → node < nodes splits + 2 → IsLeaf (splits ++ split ∷ []) node
  leaf-new node past before = record {
    there = omega (arith, before, length-more splits split);
    uncut = cut_behind splits split node
        ∙ or_false (is_cut splits node) (split.leaf == node) (uncut-past n splits node order past) (other_leaf split.leaf node (omega (arith, leaf.there, past)));
  }

  pub leaf-left : IsLeaf (splits ++ split ∷ []) (left_node (length splits))
  leaf-left = leaf-new (left_node (length splits)) (omega arith) (omega arith)

  pub leaf-right : IsLeaf (splits ++ split ∷ []) (right_node (length splits))
  leaf-right = leaf-new (right_node (length splits)) (omega arith) (omega arith)

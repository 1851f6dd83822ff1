-- A split that may come next, and the first fault of one that may not.
use Rattle.std.proofs.Common.{◌≡◌, ℕ, zero, suc, ◌<◌, ◌≤◌, ◌==◌, ◌||◌, inl, inr, List, [], ◌∷◌, ◌++◌, length, get_or, set, Bool, true, false, None, arith, refl, sym, subst, ◌∙◌, length-append, get_or-set_same, get_or-set_other}
use Rattle.std.proofs.lemmas.List.{length-set}
use Rattle.std.proofs.lemmas.Option.{none-some}
use Rattle.integers.proofs.AtKey.{same_or_other}
use Rattle.faults.proofs.First.{IsClear, lone-first}
use Rattle.pool_model.specs.Network.{Net}
use Rattle.row_model.specs.Boxes.{coords}
use Rattle.row_model.specs.Trees.{Split, nodes, most_splits, is_cut, IsLeaf, CutsLeaf, box_of}
use Rattle.row_model.specs.Entries.{split_of, Searched}
use Rattle.row_model.proofs.TreeLaw.{cut_behind, same_node, other_leaf}
use Rattle.row_model.proofs.EntryLaw.{length-more, searched-kept}
use Rattle.split_tree.specs.declared.fault.SplitFault.{SplitFault}
use Rattle.split_tree.specs.declared.fault.SplitFault.TheVariants.{NotALeaf, BadCoord, CutOutside, TooManySplits}
use Rattle.split_tree.specs.declared.span.Span.{Span}
use Rattle.split_tree.specs.Faults.{IsInside, Holds, number, IsFirstFault}
use Rattle.split_tree.specs.Spans.{IsSpanOf}
use Rattle.split_tree.specs.Splits.{Splits, with_split, tree_of, IsOf, AreKept}
use Rattle.split_tree.proofs.Innermost.{tree-of, leaf_there}
use Rattle.split_tree.proofs.Spans.{spans-more}

pub pushed-of : (n : Net) (t : Splits) (split : Split) (span : Span) → IsOf n t → length t.list < most_splits → CutsLeaf n t.list (box_of n t.list split.leaf) split
    → IsSpanOf (box_of n t.list split.leaf) split.coord span → IsOf n (with_split t split span)
pushed-of n t split span is few cuts ends =
    let before : Searched = record { tree = tree_of t.list; best = None } in
    let after = searched-kept n before (split_of split None None) record { tree = tree-of n t is; written = λ w e. absurd (none-some w e); obeys = λ w e. absurd (none-some w e) }
    record { cuts = cuts; few = few; left_proof = λ proof e. absurd (none-some proof e); right_proof = λ proof e. absurd (none-some proof e) } in
    let more = length-more t.list split in
    record {
      few = after.tree.few;
      in_order = after.tree.splits;
      spanned = spanned_more t.list t.spans is.spanned;
      spans = λ i h. spans-more n t split span is cuts.leaf.there (λ i lt. leaf_there n (tree_of t.list) i (tree-of n t is) lt) ends i (omega (arith, h, more));
    }
  where
    spanned_more : (list : List Split) (spans : List Span) → length spans ≡ length list → length (spans ++ span ∷ []) ≡ length (list ++ split ∷ [])
    spanned_more list spans e = omega (arith, length-append spans (span ∷ []), length-append list (split ∷ []), e)

-- ---- marks of a split more

-- a mark that is not set changes none
padded : (marks : List Bool) (node : ℕ) → get_or (marks ++ false ∷ []) node false ≡ get_or marks node false
padded [] zero = refl
padded [] (suc node) = refl
padded (m ∷ marks) zero = refl
padded (m ∷ marks) (suc node) = padded marks node

marked : (list : List Split) (s : Split) (marks : List Bool) (node : ℕ) → s.leaf < length marks → get_or marks node false ≡ is_cut list node
    → get_or (set marks s.leaf true) node false ≡ is_cut (list ++ s ∷ []) node
marked list s marks node lt e = elim (same_or_other node s.leaf) [
  | inl same ↦
      subst (λ (i : ℕ). get_or (set marks s.leaf true) i false ≡ is_cut (list ++ s ∷ []) i) (sym same)
      (get_or-set_same marks s.leaf true false lt ∙ sym (cut_behind list s s.leaf ∙ either (is_cut list s.leaf) (s.leaf == s.leaf) (same_node s.leaf)))
  | inr d ↦
      get_or-set_other marks s.leaf node true false d ∙ e
      ∙ sym (cut_behind list s node ∙ first (is_cut list node) (s.leaf == node) (other_leaf s.leaf node (λ f. d (sym f))))
]
  where
    either : (a b : Bool) → b ≡ true → (a || b) ≡ true
    either true b e = refl
    either false b e = e

    first : (a b : Bool) → b ≡ false → (a || b) ≡ a
    first true b e = refl
    first false b e = e

pub kept-more : (list : List Split) (s : Split) (spans : List Span) (span : Span) (marks : List Bool) → AreKept list spans marks → length list < most_splits → s.leaf < nodes list
    → AreKept (list ++ s ∷ []) (spans ++ span ∷ []) ((set marks s.leaf true ++ false ∷ []) ++ false ∷ [])
kept-more list s spans span marks are few there = record {
  few = omega (arith, few, length-append list (s ∷ []));
  spanned = omega (arith, are.spanned, length-append spans (span ∷ []), length-append list (s ∷ []));
  marked =
      omega (arith, are.marked, length-append (set marks s.leaf true ++ false ∷ []) (false ∷ []), length-append (set marks s.leaf true) (false ∷ []), length-set marks s.leaf true, length-append list (s ∷ []));
  marks = λ node.
      padded (set marks s.leaf true ++ false ∷ []) node ∙ padded (set marks s.leaf true) node
      ∙ marked list s marks node (omega (arith, there, are.marked)) (are.marks node);
}

-- ---- faults

-- what is known of a split of which the first faults are ruled out
record IsPassed (n : Net) (splits : List Split) (s : Split) (count : ℕ) : Type 0 where
  pub leaf : 1 < count → IsLeaf splits s.leaf
  pub coord : 2 < count → s.coord < coords n
  pub inside : 3 < count → IsInside (box_of n splits s.leaf) s
  pub end : count ≤ 4

clear : (n : Net) (splits : List Split) (s : Split) (count : ℕ) → IsPassed n splits s count → IsClear number (Holds n splits s) count
clear n splits s count is = record { none = none }
  where
    none : (f : SplitFault) → number f < count → ¬ Holds n splits s f
    none NotALeaf lt has = has (is.leaf lt)
    none BadCoord lt has = let coord = is.coord lt in omega (arith, coord, has)
    none CutOutside lt has = has (is.inside lt)
    none TooManySplits lt has = omega (arith, is.end, lt)

pub not-inside : (n : Net) (splits : List Split) (s : Split) → IsLeaf splits s.leaf → s.coord < coords n → ¬ IsInside (box_of n splits s.leaf) s → IsFirstFault n splits s CutOutside
not-inside n splits s leaf coord h =
    lone-first {about = λ f. []} CutOutside refl h
    (clear n splits s 3 record { leaf = λ lt. leaf; coord = λ lt. coord; inside = λ lt. absurd (omega arith); end = omega arith })

pub too-many : (n : Net) (splits : List Split) (s : Split) → IsLeaf splits s.leaf → s.coord < coords n → IsInside (box_of n splits s.leaf) s
    → most_splits ≤ length splits → IsFirstFault n splits s TooManySplits
too-many n splits s leaf coord inside h =
    lone-first {about = λ f. []} TooManySplits refl h
    (clear n splits s 4 record { leaf = λ lt. leaf; coord = λ lt. coord; inside = λ lt. inside; end = omega arith })

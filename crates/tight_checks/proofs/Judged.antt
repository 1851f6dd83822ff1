-- The lines of a text and the leaves that they name, one by one.
use Rattle.std.proofs.Common.{◌≡◌, ℕ, ◌+◌, ◌<◌, ◌≤◌, ◌⊎◌, inl, inr, List, [], ◌∷◌, ◌++◌, length, map, take, get_or, Option, Some, ℤ, arith, sym, ap, subst, ◌∙◌}
use Rattle.std.proofs.lemmas.List.{length-map, get_or-map, map_more}
use Rattle.pool_model.specs.Network.{Net}
use Rattle.pool_model.specs.Starting.{lesser}
use Rattle.row_model.specs.Boxes.{Box}
use Rattle.row_model.specs.Trees.{Split, Tree, box_of, leaf_bound, nodes}
use Rattle.leaf_order.specs.declared.leaf.OpenLeaf.{OpenLeaf}
use Rattle.leaf_marks.specs.Marks.{IsMark}
use Rattle.certificate_leaves.specs.Found.{Found}
use Rattle.tight_texts.specs.declared.marks.LeafMark.{LeafMark}
use Rattle.tight_texts.specs.declared.marks.TightText.{TightText}
use Rattle.tight_checks.specs.declared.refusal.TightRefusal.{TightRefusal}
use Rattle.tight_checks.specs.declared.refusal.TightRefusal.TheVariants.{BadMark}
use Rattle.tight_checks.specs.Holding.{LineHolds, IsLeast, IsMarkedBound, bound_with, marked_bound, nodes_of, leaf_nodes}
use Rattle.tight_checks.specs.Judging.{AreFoundOf, IsFirstBad}
use Rattle.tight_checks.proofs.Least.{least-more}
use Rattle.tight_checks.proofs.Lists.{same-at}

-- the marks of the first so many lines hold, and this is the least bound that they leave
pub record AreJudgedTo (n : Net) (f : Found) (text : TightText) (k : ℕ) (least : Option ℤ) : Type 0 where
  pub marks : (tree : Tree) → AreFoundOf n tree f → (i : ℕ) (d : LeafMark) → i < k → LineHolds n tree text.form text.pivots (get_or text.marks.items i d)
  pub bound : (tree : Tree) → AreFoundOf n tree f → IsMarkedBound n tree (take k text.marks.items) least

some_one : (x y : ℤ) → Some x ≡ Some y → x ≡ y
some_one x y e = cc

module _ (n : Net) (f : Found) (text : TightText) (named : nodes_of text.marks.items ≡ leaf_nodes f.leaves) where
  pub same-length : length text.marks.items ≡ length f.leaves
  same-length = sym (length-map text.marks.items (λ line. line.node)) ∙ ap length named ∙ length-map f.leaves (λ leaf. leaf.node)

  -- a leaf that was read stands there
  pub held-at : (ls : List OpenLeaf) → ls ≡ f.leaves → (k : ℕ) (d : OpenLeaf) → k < length text.marks.items → get_or f.leaves k (get_or ls k d) ≡ get_or ls k d
  held-at ls e k d lt =
      ap (λ (xs : List OpenLeaf). get_or xs k (get_or ls k d)) (sym e) ∙ same-at ls k (get_or ls k d) d (omega (arith, lt, same-length, ap length e))

  -- the leaf of a line has the line's node
  pub node-at : (k : ℕ) (line : LeafMark) (leaf : OpenLeaf) → k < length text.marks.items → (get_or text.marks.items k line).node ≡ (get_or f.leaves k leaf).node
  node-at k line leaf lt =
      let there : k < length f.leaves = omega (arith, same-length) in
      sym (get_or-map (λ (l : LeafMark). l.node) text.marks.items k line 0 lt) ∙ ap (λ (xs : List ℕ). get_or xs k 0) named ∙ get_or-map (λ (l : OpenLeaf). l.node) f.leaves k leaf 0 there

  -- a leaf at a place is a node of the tree
  pub leaf-there : (tree : Tree) × AreFoundOf n tree f → (k : ℕ) (leaf : OpenLeaf) → k < length text.marks.items → get_or f.leaves k leaf ≡ leaf → leaf.node < nodes f.splits.list
  leaf-there is k leaf lt here =
      subst (λ (splits : List Split). leaf.node < nodes splits) (sym is.1.splits)
      (((is.1.leaves.members leaf).0 (k, omega (arith, same-length), here)).0)

  module _ (k : ℕ) (line : LeafMark) (leaf : OpenLeaf) (lt : k < length text.marks.items) (at : get_or text.marks.items k line ≡ line) (here : get_or f.leaves k leaf ≡ leaf) where
    node-is : line.node ≡ leaf.node
    node-is = sym (ap (λ (l : LeafMark). l.node) at) ∙ node-at k line leaf lt ∙ ap (λ (l : OpenLeaf). l.node) here

    module _ (tree : Tree) (is : AreFoundOf n tree f) where
      bound-is : leaf_bound n tree line.node ≡ Some leaf.bound
      bound-is = ap (leaf_bound n tree) node-is ∙ ((is.leaves.members leaf).0 (k, omega (arith, same-length), here)).1

      box-is : box_of n f.splits.list leaf.node ≡ box_of n tree.splits line.node
      box-is = ap (λ (splits : List Split). box_of n splits leaf.node) is.splits ∙ ap (box_of n tree.splits) (sym node-is)

      line-holds : IsMark n text.form (box_of n f.splits.list leaf.node) leaf.bound text.pivots line.mark → LineHolds n tree text.form text.pivots line
      line-holds h = record {
        low = leaf.bound;
        bound_is = bound-is;
        mark = subst (λ (b : Box). IsMark n text.form b leaf.bound text.pivots line.mark) box-is h;
      }

      line-fails : ¬ IsMark n text.form (box_of n f.splits.list leaf.node) leaf.bound text.pivots line.mark → ¬ LineHolds n tree text.form text.pivots line
      line-fails wrong h =
          let low_is : h.low ≡ leaf.bound = some_one h.low leaf.bound (sym h.bound_is ∙ bound-is) in
          wrong (subst (λ (b : Box). IsMark n text.form b leaf.bound text.pivots line.mark) (sym box-is)
          (subst (λ (z : ℤ). IsMark n text.form (box_of n tree.splits line.node) z text.pivots line.mark) low_is h.mark))

      left-is : (left : Option ℤ) → left ≡ bound_with n (box_of n f.splits.list leaf.node) (Some leaf.bound) line.mark → left ≡ marked_bound n tree line
      left-is left e =
          e ∙ ap (λ (b : Box). bound_with n b (Some leaf.bound) line.mark) box-is
          ∙ ap (λ (o : Option ℤ). bound_with n (box_of n tree.splits line.node) o line.mark) (sym bound-is)

    -- a line more is judged
    module _ (least : Option ℤ) (before : AreJudgedTo n f text k least) where
      marks-more : IsMark n text.form (box_of n f.splits.list leaf.node) leaf.bound text.pivots line.mark → (tree : Tree) → AreFoundOf n tree f → (i : ℕ) (d : LeafMark) → i < k + 1
          → LineHolds n tree text.form text.pivots (get_or text.marks.items i d)
      marks-more h tree is i d less = elim (order i k) [
        | inl l ↦ before.marks tree is i d l
        | inr m ↦ let e : k ≡ i = omega arith in
            subst (λ (j : ℕ). LineHolds n tree text.form text.pivots (get_or text.marks.items j d)) e
            (subst (LineHolds n tree text.form text.pivots) (sym (same-at text.marks.items k d line lt ∙ at)) (line-holds tree is h))
      ]
        where
          order : (i k : ℕ) → (i < k) ⊎ (k ≤ i)
          order i k = grind arith

      bound-more : (left : Option ℤ) → left ≡ bound_with n (box_of n f.splits.list leaf.node) (Some leaf.bound) line.mark → (tree : Tree) → AreFoundOf n tree f
          → IsMarkedBound n tree (take (k + 1) text.marks.items) (lesser least left)
      bound-more left e tree is =
          let more : map (marked_bound n tree) (take (k + 1) text.marks.items) ≡ map (marked_bound n tree) (take k text.marks.items) ++ left ∷ [] =
          map_more (marked_bound n tree) text.marks.items k line lt
          ∙ ap (λ (o : Option ℤ). map (marked_bound n tree) (take k text.marks.items) ++ o ∷ []) (ap (marked_bound n tree) at ∙ sym (left-is tree is left e)) in
          subst (λ (bounds : List (Option ℤ)). IsLeast bounds (lesser least left)) (sym more) (least-more (map (marked_bound n tree) (take k text.marks.items)) least left (before.bound tree is))

      pub judged-more : (left : Option ℤ) → IsMark n text.form (box_of n f.splits.list leaf.node) leaf.bound text.pivots line.mark
          → left ≡ bound_with n (box_of n f.splits.list leaf.node) (Some leaf.bound) line.mark → AreJudgedTo n f text (k + 1) (lesser least left)
      judged-more left h e = record { marks = marks-more h; bound = bound-more left e }

      -- or its mark is the first that doesn't hold
      pub judged-bad : (r : TightRefusal) → r ≡ BadMark leaf.node → ¬ IsMark n text.form (box_of n f.splits.list leaf.node) leaf.bound text.pivots line.mark
          → (tree : Tree) → AreFoundOf n tree f → IsFirstBad n tree text r
      judged-bad r e wrong tree is = record {
        line = line;
        at = k;
        there = lt;
        line_is = at;
        is = e ∙ ap BadMark (sym node-is);
        wrong = line-fails tree is wrong;
        before = before.marks tree is;
      }

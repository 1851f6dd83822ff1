-- The ends of a node's box at one coordinate: those that the innermost split above it on this coordinate leaves, or the root's.
use Rattle.std.proofs.Common.{◌≡◌, ◌≢◌, ℕ, suc, ◌-◌, ◌/◌, ◌%◌, ◌<◌, inl, inr, List, [], ◌∷◌, ◌++◌, length, get_or, map, ℤ, ◌<ℤ◌, arith, sym, ap, subst, ◌∙◌}
use Rattle.std.proofs.lemmas.List.{get_or_append_left}
use Rattle.std.proofs.Math.Seq.{get_or-append_seam}
use Rattle.integers.proofs.AtKey.{same_or_other, chosen, passed}
use Rattle.pool_model.specs.Network.{Net}
use Rattle.row_model.specs.Boxes.{Box, root, left_of, right_of}
use Rattle.row_model.specs.Trees.{Split, no_split, split_at, left_node, right_node, nodes, box_of, Tree, IsTree}
use Rattle.row_model.proofs.TreeLaw.{box_is}
use Rattle.row_model.proofs.EntryLaw.{box_before}
use Rattle.box_space.specs.Views.{shown_split}
use Rattle.box_space.specs.declared.coordinates.Split.{Split as HeldSplit}
use Rattle.split_tree.specs.declared.span.Span.{Span}
use Rattle.split_tree.specs.Faults.{IsInside}
use Rattle.split_tree.specs.Splits.{Splits, tree_of, IsOf}
use Rattle.split_tree.specs.Spans.{no_span, IsSpanOf}
use Rattle.split_tree.proofs.Innermost.{tree-of, child_left, child_right, leaf_before, no_held, held_at, parent_below}

-- From a node up to another no split is on the coordinate, so the two have the same ends there.
pub record IsSameTo (n : Net) (splits : List Split) (coord node at : ℕ) : Type 0 where
  pub there : at < nodes splits
  pub low : (box_of n splits node).low coord ≡ (box_of n splits at).low coord
  pub high : (box_of n splits node).high coord ≡ (box_of n splits at).high coord

module _ (n : Net) (tree : Tree) (is : IsTree n tree) (coord node at t : ℕ) (lt : t < length tree.splits) (same : IsSameTo n tree.splits coord node at) where
  -- one step up, past a split on another coordinate
  pub beside_left : at ≡ left_node t → (split_at tree.splits t).coord ≢ coord → IsSameTo n tree.splits coord node (split_at tree.splits t).leaf
  beside_left e other =
      let s = split_at tree.splits t in
      let above = box_of n tree.splits s.leaf in
      let box : box_of n tree.splits at ≡ left_of above s.coord s.cut = ap (box_of n tree.splits) e ∙ child_left n tree t is lt in
      record {
        there = omega (arith, leaf_before n tree t is lt);
        low = same.low ∙ ap (λ (b : Box). b.low coord) box;
        high = same.high ∙ ap (λ (b : Box). b.high coord) box ∙ passed coord s.coord s.cut (above.high coord) (λ f. other (sym f));
      }

  pub beside_right : at ≡ right_node t → (split_at tree.splits t).coord ≢ coord → IsSameTo n tree.splits coord node (split_at tree.splits t).leaf
  beside_right e other =
      let s = split_at tree.splits t in
      let above = box_of n tree.splits s.leaf in
      let box : box_of n tree.splits at ≡ right_of above s.coord s.cut = ap (box_of n tree.splits) e ∙ child_right n tree t is lt in
      record {
        there = omega (arith, leaf_before n tree t is lt);
        low = same.low ∙ ap (λ (b : Box). b.low coord) box ∙ passed coord s.coord s.cut (above.low coord) (λ f. other (sym f));
        high = same.high ∙ ap (λ (b : Box). b.high coord) box;
      }

  -- what a split on the coordinate leaves to its left and to its right node
  below_left : (span : Span) → at ≡ left_node t → (split_at tree.splits t).coord ≡ coord → IsSpanOf (box_of n tree.splits (split_at tree.splits t).leaf) (split_at tree.splits t).coord span
      → IsSpanOf (box_of n tree.splits node) coord record { low = span.low; high = (split_at tree.splits t).cut }
  below_left span e on ends =
      let s = split_at tree.splits t in
      let above = box_of n tree.splits s.leaf in
      let box : box_of n tree.splits at ≡ left_of above s.coord s.cut = ap (box_of n tree.splits) e ∙ child_left n tree t is lt in
      record {
        low = ends.low ∙ ap above.low on ∙ sym (same.low ∙ ap (λ (b : Box). b.low coord) box);
        high = sym (same.high ∙ ap (λ (b : Box). b.high coord) box ∙ chosen coord s.coord s.cut (above.high coord) (sym on));
      }

  below_right : (span : Span) → at ≡ right_node t → (split_at tree.splits t).coord ≡ coord → IsSpanOf (box_of n tree.splits (split_at tree.splits t).leaf) (split_at tree.splits t).coord span
      → IsSpanOf (box_of n tree.splits node) coord record { low = (split_at tree.splits t).cut; high = span.high }
  below_right span e on ends =
      let s = split_at tree.splits t in
      let above = box_of n tree.splits s.leaf in
      let box : box_of n tree.splits at ≡ right_of above s.coord s.cut = ap (box_of n tree.splits) e ∙ child_right n tree t is lt in
      record {
        low = sym (same.low ∙ ap (λ (b : Box). b.low coord) box ∙ chosen coord s.coord s.cut (above.low coord) (sym on));
        high = ends.high ∙ ap above.high on ∙ sym (same.high ∙ ap (λ (b : Box). b.high coord) box);
      }

-- ---- the same, of splits as code holds them

module _ (n : Net) (k : Splits) (coord node at : ℕ) (held : List HeldSplit) (is : IsOf n k) (shown : map shown_split held ≡ k.list) (some : 0 < at) (same : IsSameTo n k.list coord node at) where
  up_below : (at - 1) / 2 < length k.list
  up_below = parent_below at (length k.list) some same.there

  up_is : shown_split (get_or held ((at - 1) / 2) no_held) ≡ split_at k.list ((at - 1) / 2)
  up_is = held_at held k.list ((at - 1) / 2) shown up_below

  pub same-up : (get_or held ((at - 1) / 2) no_held).coord ≢ coord → IsSameTo n k.list coord node (get_or held ((at - 1) / 2) no_held).leaf
  same-up other =
      let t = (at - 1) / 2 in
      let tree = tree_of k.list in
      let differ : (split_at k.list t).coord ≢ coord = λ f. other (ap (λ (s : Split). s.coord) up_is ∙ f) in
      subst (λ (s : Split). IsSameTo n k.list coord node s.leaf) (sym up_is) (elim (same_or_other (at % 2) 1) [
        | inl odd ↦ beside_left n tree (tree-of n k is) coord node at t up_below same (omega arith) differ
        | inr even ↦ beside_right n tree (tree-of n k is) coord node at t up_below same (omega arith) differ
      ])

  pub span-left : (spans : List Span) → spans ≡ k.spans → at % 2 ≡ 1 → (get_or held ((at - 1) / 2) no_held).coord ≡ coord
      → IsSpanOf (box_of n k.list node) coord record { low = (get_or spans ((at - 1) / 2) no_span).low; high = (get_or held ((at - 1) / 2) no_held).cut }
  span-left spans e odd on =
      let t = (at - 1) / 2 in
      subst (λ (xs : List Span). IsSpanOf (box_of n k.list node) coord record { low = (get_or xs t no_span).low; high = (get_or held t no_held).cut }) (sym e)
      (subst (λ (s : Split). IsSpanOf (box_of n k.list node) coord record { low = (get_or k.spans t no_span).low; high = s.cut }) (sym up_is)
      (below_left n (tree_of k.list) (tree-of n k is) coord node at t up_below same (get_or k.spans t no_span) (omega arith) (ap (λ (s : Split). s.coord) (sym up_is) ∙ on) (is.spans t up_below)))

  pub span-right : (spans : List Span) → spans ≡ k.spans → at % 2 ≢ 1 → (get_or held ((at - 1) / 2) no_held).coord ≡ coord
      → IsSpanOf (box_of n k.list node) coord record { low = (get_or held ((at - 1) / 2) no_held).cut; high = (get_or spans ((at - 1) / 2) no_span).high }
  span-right spans e even on =
      let t = (at - 1) / 2 in
      subst (λ (xs : List Span). IsSpanOf (box_of n k.list node) coord record { low = (get_or held t no_held).cut; high = (get_or xs t no_span).high }) (sym e)
      (subst (λ (s : Split). IsSpanOf (box_of n k.list node) coord record { low = s.cut; high = (get_or k.spans t no_span).high }) (sym up_is)
      (below_right n (tree_of k.list) (tree-of n k is) coord node at t up_below same (get_or k.spans t no_span) (omega arith) (ap (λ (s : Split). s.coord) (sym up_is) ∙ on) (is.spans t up_below)))

pub span-root : (n : Net) (splits : List Split) (coord node at : ℕ) (span : Span) → at ≡ 0 → IsSameTo n splits coord node at
    → span.low ≡ (root n).low coord → span.high ≡ (root n).high coord → IsSpanOf (box_of n splits node) coord span
span-root n splits coord node at span last same low high =
    let top : box_of n splits at ≡ root n = ap (box_of n splits) last ∙ box_is n splits 0 0 (omega arith) (omega arith) in
    record {
      low = low ∙ sym (same.low ∙ ap (λ (b : Box). b.low coord) top);
      high = high ∙ sym (same.high ∙ ap (λ (b : Box). b.high coord) top);
    }

-- ---- a cut between the ends lies inside the box

pub inside-box : (b : Box) (s : Split) (span : Span) → IsSpanOf b s.coord span → (span.low <ℤ s.cut) × (s.cut <ℤ span.high) → IsInside b s
inside-box b s span is h = record { low = subst (λ (z : ℤ). z <ℤ s.cut) is.low h.0; high = subst (λ (z : ℤ). s.cut <ℤ z) is.high h.1 }

pub outside-box : (b : Box) (s : Split) (span : Span) → IsSpanOf b s.coord span → ¬ ((span.low <ℤ s.cut) × (s.cut <ℤ span.high)) → ¬ IsInside b s
outside-box b s span is h inside = h (subst (λ (z : ℤ). z <ℤ s.cut) (sym is.low) inside.low, subst (λ (z : ℤ). s.cut <ℤ z) (sym is.high) inside.high)

-- ---- one split more

pub spans-more : (n : Net) (k : Splits) (split : Split) (span : Span) → IsOf n k → split.leaf < nodes k.list → ((t : ℕ) → t < length k.list → (split_at k.list t).leaf < nodes k.list)
    → IsSpanOf (box_of n k.list split.leaf) split.coord span → (t : ℕ) → t < suc (length k.list)
    → IsSpanOf (box_of n (k.list ++ split ∷ []) (split_at (k.list ++ split ∷ []) t).leaf) (split_at (k.list ++ split ∷ []) t).coord (get_or (k.spans ++ span ∷ []) t no_span)
spans-more n k split span is there below here t h = elim (same_or_other t (length k.list)) [
  | inl e ↦
      let at : split_at (k.list ++ split ∷ []) t ≡ split = ap (split_at (k.list ++ split ∷ [])) e ∙ get_or-append_seam k.list split [] no_split in
      let ends : get_or (k.spans ++ span ∷ []) t no_span ≡ span = ap (λ (i : ℕ). get_or (k.spans ++ span ∷ []) i no_span) (e ∙ sym is.spanned) ∙ get_or-append_seam k.spans span [] no_span in
      moved split (split_at (k.list ++ split ∷ []) t) span (get_or (k.spans ++ span ∷ []) t no_span) at ends there here
  | inr d ↦
      let lt : t < length k.list = omega (arith, h, d) in
      let at : split_at (k.list ++ split ∷ []) t ≡ split_at k.list t = get_or_append_left k.list (split ∷ []) no_split t lt in
      let ends : get_or (k.spans ++ span ∷ []) t no_span ≡ get_or k.spans t no_span = get_or_append_left k.spans (span ∷ []) no_span t (omega (arith, lt, is.spanned)) in
      moved (split_at k.list t) (split_at (k.list ++ split ∷ []) t) (get_or k.spans t no_span) (get_or (k.spans ++ span ∷ []) t no_span) at ends (below t lt) (is.spans t lt)
]
  where
    moved : (old new : Split) (before after : Span) → new ≡ old → after ≡ before → old.leaf < nodes k.list
        → IsSpanOf (box_of n k.list old.leaf) old.coord before → IsSpanOf (box_of n (k.list ++ split ∷ []) new.leaf) new.coord after
    moved old new before after at ends lt h =
        subst (λ (s : Split). IsSpanOf (box_of n (k.list ++ split ∷ []) s.leaf) s.coord after) (sym at)
        (subst (λ (x : Span). IsSpanOf (box_of n (k.list ++ split ∷ []) old.leaf) old.coord x) (sym ends)
        (subst (λ (b : Box). IsSpanOf b old.coord before) (sym (box_before n k.list split old.leaf lt)) h))

-- Bounds of nodes, one after another, and the least of them.
use Rattle.std.proofs.Common.{◌≡◌, ℕ, zero, suc, ◌+◌, ◌-◌, ◌*◌, ◌/◌, ◌<◌, ◌≤◌, ◌⊎◌, inl, inr, if◌then◌else◌, [], ◌∷◌}
use Rattle.std.proofs.Common.{◌++◌, List, length, get_or, Option, None, Some, ℤ, arith, refl, sym, ap, subst, ◌∙◌, length-append}
use Rattle.std.specs.Option.{ForSome}
use Rattle.std.proofs.lemmas.List.{get_or_append_left}
use Rattle.std.proofs.Math.Seq.{get_or-append_seam}
use Rattle.integers.proofs.AtKey.{same_or_other}
use Rattle.pool_model.specs.Network.{Net}
use Rattle.pool_model.proofs.Reach.{least_below-same}
use Rattle.pool_model.specs.Starting.{least_below, reach_bound}
use Rattle.row_model.specs.Multipliers.{IsInOrder, Shown}
use Rattle.row_model.specs.Trees.{Split, Tree, split_at, left_node, right_node, nodes, is_cut, raised, own, bound_after, node_bound, box_of, leaf_bound, tree_bound}
use Rattle.row_model.proofs.TreeBound.{old_bound, new_left, new_right}
use Rattle.row_book.specs.Fitting.{Fits}
use Rattle.split_tree.specs.Splits.{Splits, tree_of, IsOf}
use Rattle.split_tree.proofs.Innermost.{tree-of, leaf_before}
use Rattle.cert_format.specs.Cert.{NodeProof}
use Rattle.cert_format.specs.Valid.{proof_of}
use Rattle.proof_lines.specs.declared.judge.Judge.{Judge}
use Rattle.proof_lines.specs.Judging.{AreJudged, IsNext}
use Rattle.proof_lines.specs.Trees.{AreBounds, tree_with}
use Rattle.proof_lines.proofs.Lines.{next-start}

-- ---- a node's bound

-- the bound of a node that stands does not change with later splits
bound_stays : (n : Net) (tree : Tree) (t more node : ℕ) → node < 2 * t + 1 → bound_after n tree (t + more) node ≡ bound_after n tree t node
bound_stays n tree t zero node h = ap (λ m. bound_after n tree m node) (omega arith)
bound_stays n tree t (suc more) node h =
    ap (λ m. bound_after n tree m node) (same t more) ∙ old_bound n tree (t + more) node (omega arith) ∙ bound_stays n tree t more node h
  where
    same : (t more : ℕ) → t + suc more ≡ suc (t + more)
    same t more = omega arith

bound_is : (n : Net) (tree : Tree) (t node : ℕ) → t ≤ length tree.splits → node < 2 * t + 1 → node_bound n tree node ≡ bound_after n tree t node
bound_is n tree t node h k = ap (λ m. bound_after n tree m node) (whole t (length tree.splits) h) ∙ bound_stays n tree t (length tree.splits - t) node k
  where
    whole : (t l : ℕ) → t ≤ l → l ≡ t + (l - t)
    whole t l h = omega arith

root_bound : (n : Net) (tree : Tree) (node : ℕ) → node ≡ 0 → node_bound n tree node ≡ raised (Some (reach_bound n)) (own n tree node)
root_bound n tree node e = bound_is n tree 0 node (omega arith) (omega arith)

-- a child's, from its parent's
child_bound : (n : Net) (tree : Tree) (t node : ℕ) → t < length tree.splits → (split_at tree.splits t).leaf < left_node t → (node ≡ left_node t) ⊎ (node ≡ right_node t)
    → node_bound n tree node ≡ raised (node_bound n tree (split_at tree.splits t).leaf) (own n tree node)
child_bound n tree t node h leaf which =
    let above = ap (λ b. raised b (own n tree node)) (sym (bound_is n tree t (split_at tree.splits t).leaf (omega arith) (omega arith))) in
    elim which [
      | inl e ↦ bound_is n tree (suc t) node (omega arith) (omega arith)
          ∙ subst (λ m. bound_after n tree (suc t) m ≡ raised (bound_after n tree t (split_at tree.splits t).leaf) (own n tree m)) (sym e) (new_left n tree t) ∙ above
      | inr e ↦ bound_is n tree (suc t) node (omega arith) (omega arith)
          ∙ subst (λ m. bound_after n tree (suc t) m ≡ raised (bound_after n tree t (split_at tree.splits t).leaf) (own n tree m)) (sym e) (new_right n tree t) ∙ above
    ]

left_or_right : (node : ℕ) → 0 < node → (node ≡ left_node ((node - 1) / 2)) ⊎ (node ≡ right_node ((node - 1) / 2))
left_or_right node some = elim (same_or_other node (left_node ((node - 1) / 2))) [ inl e ↦ inl e | inr d ↦ inr (omega arith) ]

-- ---- one node more

-- the node above one that is to be judged
pub above-before : (n : Net) (t : Splits) (node : ℕ) → IsOf n t → node < nodes t.list → 0 < node → (split_at t.list ((node - 1) / 2)).leaf < node
above-before n t node is there some = omega (arith, leaf_before n (tree_of t.list) ((node - 1) / 2) (tree-of n t is) (omega arith))

pub judged-first : (n : Net) (splits : List Split) (lines : List NodeProof) (j : Judge) → j.bounds.items ≡ [] → j.next ≡ 0 → Fits n j.scratch → AreJudged n splits lines 0 j
judged-first n splits lines j none next fits = record {
  long = ap length none;
  bounds = λ node h. absurd (omega arith);
  proved = λ node proof h. absurd (omega arith);
  next = subst (IsNext lines 0) (sym next) (next-start lines);
  fits = fits;
}

module _ (n : Net) (t : Splits) (lines : List NodeProof) (node : ℕ) (before after : Judge) (above : Option ℤ) (shown : Option Shown) (is : IsOf n t) (there : node < nodes t.list) where
  new_bound : AreJudged n t.list lines node before → (node ≡ 0 → above ≡ Some (reach_bound n)) → (0 < node → above ≡ get_or before.bounds.items (split_at t.list ((node - 1) / 2)).leaf None)
      → shown ≡ own n (tree_with t.list lines) node → raised above shown ≡ node_bound n (tree_with t.list lines) node
  new_bound judged root child own_is =
      let tree = tree_with t.list lines in
      elim (same_or_other node 0) [
        | inl e ↦ ap (λ b. raised b shown) (root e) ∙ ap (raised (Some (reach_bound n))) own_is ∙ sym (root_bound n tree node e)
        | inr d ↦
            let some : 0 < node = omega arith in
            let leaf = (split_at t.list ((node - 1) / 2)).leaf in
            let up = above-before n t node is there some in
            ap (λ b. raised b shown) (child some ∙ judged.bounds leaf up) ∙ ap (raised (node_bound n tree leaf)) own_is
            ∙ sym (child_bound n tree ((node - 1) / 2) node (omega arith) (leaf_before n (tree_of t.list) ((node - 1) / 2) (tree-of n t is) (omega arith)) (left_or_right node some))
      ]

  pub judged-next : AreJudged n t.list lines node before → (node ≡ 0 → above ≡ Some (reach_bound n)) → (0 < node → above ≡ get_or before.bounds.items (split_at t.list ((node - 1) / 2)).leaf None)
      → shown ≡ own n (tree_with t.list lines) node → ForSome (proof_of lines node) (IsInOrder n (box_of n t.list node)) → after.bounds.items ≡ before.bounds.items ++ raised above shown ∷ []
      → IsNext lines (node + 1) after.next → Fits n after.scratch → AreJudged n t.list lines (node + 1) after
  judged-next judged root child own_is order longer next fits =
      let new = new_bound judged root child own_is in
      let one : length (raised above shown ∷ []) ≡ 1 = refl in
      record {
        long = ap length longer ∙ omega (arith, length-append before.bounds.items (raised above shown ∷ []), judged.long, one);
        bounds = λ m h. ap (λ xs. get_or xs m None) longer ∙ elim (same_or_other m node) [
          | inl e ↦ ap (λ k. get_or (before.bounds.items ++ raised above shown ∷ []) k None) (e ∙ sym judged.long) ∙ get_or-append_seam before.bounds.items (raised above shown) [] None ∙ new
              ∙ ap (node_bound n (tree_with t.list lines)) (sym e)
          | inr d ↦ get_or_append_left before.bounds.items (raised above shown ∷ []) None m (omega (arith, h, d, judged.long)) ∙ judged.bounds m (omega arith)
        ];
        proved = λ m proof h has. elim (same_or_other m node) [
          | inl e ↦ subst (λ k. IsInOrder n (box_of n t.list k) proof) (sym e) (order proof (subst (λ k. proof_of lines k ≡ Some proof) e has))
          | inr d ↦ judged.proved m proof (omega arith) has
        ];
        next = next;
        fits = fits;
      }

-- ---- the least

-- the least of the bounds of the nodes that are not cut is the tree's
pub least-tree : (n : Net) (tree : Tree) (bounds : List (Option ℤ)) → AreBounds n tree bounds
    → least_below (λ node. if is_cut tree.splits node then None else get_or bounds node None) (length bounds) ≡ tree_bound n tree
least-tree n tree bounds is =
    ap (least_below (λ node. if is_cut tree.splits node then None else get_or bounds node None)) is.long
    ∙ least_below-same (λ node. if is_cut tree.splits node then None else get_or bounds node None) (leaf_bound n tree) (nodes tree.splits)
    (λ node h. ap (λ b. if is_cut tree.splits node then None else b) (is.bound_is node h))

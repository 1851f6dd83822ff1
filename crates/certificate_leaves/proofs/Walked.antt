-- The bounds of nodes, one after another.
use Rattle.std.proofs.Common.{◌≡◌, ◌≢◌, ℕ, ◌+◌, ◌-◌, ◌/◌, ◌<◌, if◌then◌else◌, List, [], ◌∷◌, ◌++◌, length, get_or, Option, Some, None, option_map, ℤ, sym, ap, subst, ◌∙◌}
use Rattle.pool_model.specs.Network.{Net}
use Rattle.pool_model.specs.Starting.{reach_bound}
use Rattle.row_model.specs.Boxes.{coords}
use Rattle.row_model.specs.Multipliers.{Proof, Shown, shown_by}
use Rattle.row_model.specs.Trees.{Split, box_of, nodes, own, raised, split_at, is_cut, leaf_bound}
use Rattle.row_book.specs.Fitting.{Fits}
use Rattle.box_space.specs.declared.boxes.BoxEnds.{BoxEnds}
use Rattle.split_tree.specs.Splits.{Splits}
use Rattle.cert_format.specs.Cert.{NodeProof}
use Rattle.cert_format.specs.Valid.{IsRising, proof_of}
use Rattle.proof_lines.specs.Judging.{IsNext}
use Rattle.proof_lines.specs.Refusals.{node_at}
use Rattle.proof_lines.specs.Trees.{AreBounds, tree_with}
use Rattle.proof_lines.proofs.Lines.{named-some, next-named, next-unnamed, unnamed-none}
use Rattle.proof_lines.proofs.Raising.{judged-next}
use Rattle.leaf_order.specs.declared.leaf.OpenLeaf.{OpenLeaf}
use Rattle.certificate_leaves.specs.Leaves.{AreListed, AreLeaves}
use Rattle.certificate_leaves.specs.Nodes.{AreInOrder, IsAt, IsNamed}
use Rattle.certificate_leaves.proofs.Listed.{listed-same}
use Rattle.certificate_leaves.specs.declared.valuing.NodeWalk.{NodeWalk}

module _ (lines : List NodeProof) (next node : ℕ) (rising : IsRising lines) (is : IsNext lines node next) where
  -- the node that the next line names has its proof
  pub named-proof : (proof : Proof) → IsNamed lines next node proof → proof_of lines node ≡ Some proof
  named-proof proof named = named-some lines node next rising named.there (ap (λ (p : NodeProof). p.node) named.line) ∙ ap (λ (p : NodeProof). Some p.proof) named.line

  pub named-next : (proof : Proof) → IsNamed lines next node proof → IsNext lines (node + 1) (next + 1)
  named-next proof named = next-named lines node next rising is named.there (ap (λ (p : NodeProof). p.node) named.line)

  -- a node that it doesn't name has none, and shows nothing
  pub unnamed-own : (n : Net) (list : List Split) → (next < length lines → node_at lines next ≢ node) → None ≡ own n (tree_with list lines) node
  unnamed-own n list other = sym (ap (option_map (shown_by n (box_of n list node))) (unnamed-none lines node next rising is other))

  pub unnamed-next : (next < length lines → node_at lines next ≢ node) → IsNext lines (node + 1) next
  unnamed-next other = next-unnamed lines node next rising is other

-- one node more
pub one-more : (n : Net) (t : Splits) (root : BoxEnds) (lines : List NodeProof) (node : ℕ) (before after : NodeWalk) (above : Option ℤ) (shown : Option Shown)
    → AreInOrder n t root lines → node < nodes t.list → IsAt n t.list lines node before
    → (node ≡ 0 → above ≡ Some (reach_bound n)) → (0 < node → above ≡ get_or before.bounds.items (split_at t.list ((node - 1) / 2)).leaf None)
    → shown ≡ own n (tree_with t.list lines) node → after.bounds.items ≡ before.bounds.items ++ raised above shown ∷ [] → IsNext lines (node + 1) after.next → Fits n after.scratch
    → length after.ends.low.items ≡ coords n → length after.ends.high.items ≡ coords n → IsAt n t.list lines (node + 1) after
one-more n t root lines node before after above shown order there at at_root at_child is_own longer next fits lows highs = record {
  judged = judged-next n t lines node record { bounds = before.bounds; next = before.next; scratch = before.scratch }
      record { bounds = after.bounds; next = after.next; scratch = after.scratch } above shown order.splits there at.judged at_root at_child is_own (order.tree.proofs node) longer next fits;
  lows = lows;
  highs = highs;
}

-- all nodes
pub all-bounds : (n : Net) (list : List Split) (lines : List NodeProof) (walk : NodeWalk) → IsAt n list lines (nodes list) walk → AreBounds n (tree_with list lines) walk.bounds.items
all-bounds n list lines walk at = record { long = at.judged.long; bound_is = at.judged.bounds }

-- the nodes that no split cuts and that have a bound are the leaves that may hold a plan
pub leaves-shown : (n : Net) (list splits : List Split) (read lines : List NodeProof) (bounds seen : List (Option ℤ)) (leaves : List OpenLeaf) → list ≡ splits → read ≡ lines → seen ≡ bounds
    → AreBounds n (tree_with list read) bounds → AreListed (λ node. if is_cut list node then None else get_or seen node None) (length seen) leaves → AreLeaves n (tree_with splits lines) leaves
leaves-shown n list splits read lines bounds seen leaves same_list same_lines same_bounds is are =
    subst (λ (xs : List Split). AreLeaves n (tree_with xs lines) leaves) same_list
    (subst (λ (ls : List NodeProof). AreLeaves n (tree_with list ls) leaves) same_lines
    (listed-same (λ node. if is_cut list node then None else get_or bounds node None) (leaf_bound n (tree_with list read)) (length bounds) (nodes list) leaves is.long
    (λ i lt. ap (λ (b : Option ℤ). if is_cut list i then None else b) (is.bound_is i lt))
    (subst (λ (bs : List (Option ℤ)). AreListed (λ node. if is_cut list node then None else get_or bs node None) (length bs) leaves) same_bounds are)))

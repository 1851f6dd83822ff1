-- A squeeze of the least leaf is a step of the second kind.
use Rattle.std.proofs.Common.{◌≡◌, ℕ, ◌<◌, length, IsTrue, Option, Some, option_map, ℤ, sym, subst}
use Rattle.pool_model.specs.Network.{Net}
use Rattle.pool_model.specs.Plan.{Written}
use Rattle.row_model.specs.Boxes.{Box, left_of, right_of}
use Rattle.row_model.specs.Multipliers.{Proof, shown_by}
use Rattle.row_model.specs.Trees.{Split, box_of, node_bound, tree_bound, raised, IsLeastLeaf}
use Rattle.row_model.specs.Entries.{Searched, IsEntryInOrder}
use Rattle.box_space.specs.Views.{shown_proof, shown_split}
use Rattle.box_space.specs.declared.coordinates.Form.{Form}
use Rattle.box_tree.specs.Views.{shown_entry}
use Rattle.box_tree.specs.declared.entry.Entry.{Entry}
use Rattle.box_tree.specs.declared.entry.Entry.TheVariants.{Root, SplitOf, Improve}
use Rattle.dual_rounding.specs.Price.{IsPriced}
use Rattle.box_squeeze.specs.Squeezes.{CutsOff, IsNode, IsSqueeze, IsSqueezeOf}
use Rattle.search_run.specs.Due.{IsSqueezeEntry}
use Rattle.search_run.specs.Steps.{target_of, IsHalf, IsSqueezed}
use Rattle.search_run.specs.declared.orders.Orders.{Orders}
use Rattle.search_run.proofs.Growing.{least-bound}

half-of-node : (n : Net) (form : Form) (b : Box) (own least : Option ℤ) (proof : Option Proof) → own ≡ least → IsNode n form b own proof → IsHalf n form b least proof
half-of-node n form b own least proof e node = record {
  named = node.named;
  priced = subst (λ (z : Option ℤ). IsPriced n b (raised z (option_map (shown_by n b) proof))) e node.priced;
}

module _ (n : Net) (o : Orders) (s : Searched) (leaf kept : ℕ) (target : ℤ) (plan : Written) (asked : IsTrue o.squeeze) (few : length s.tree.splits < o.nodes) (least : IsLeastLeaf n s.tree leaf)
    (best : s.best ≡ Some plan) (aim : target ≡ target_of n o.gap plan) where
  squeezed-of : (split : Split) (left right : Option Proof) → IsSqueeze n o.form s leaf target split left right kept → IsSqueezed n o s split left right
  squeezed-of split left right is =
      let at : IsSqueeze n o.form s split.leaf target split left right kept = subst (λ (l : ℕ). IsSqueeze n o.form s l target split left right kept) (sym is.leaf) is in
      let here : IsLeastLeaf n s.tree split.leaf = subst (IsLeastLeaf n s.tree) (sym is.leaf) least in
      let b = box_of n s.tree.splits split.leaf in
      let bound = least-bound n s.tree split.leaf here in
      record {
        asked = asked;
        few = few;
        leaf = here;
        plan = plan;
        best = best;
        side = at.side;
        cuts_off = subst (λ (z : ℤ). CutsOff n o.form b z at.side split left right) aim at.cuts_off;
        left_half = half-of-node n o.form (left_of b split.coord split.cut) (node_bound n s.tree split.leaf) (tree_bound n s.tree) left bound at.left_half;
        right_half = half-of-node n o.form (right_of b split.coord split.cut) (node_bound n s.tree split.leaf) (tree_bound n s.tree) right bound at.right_half;
      }

  pub squeeze-entry : (e : Entry) → IsSqueezeOf n o.form s leaf target (shown_entry e) kept → IsEntryInOrder n s (shown_entry e) → IsSqueezeEntry n o s e
  squeeze-entry (SplitOf split left right) is order = (order, squeezed-of (shown_split split) (option_map shown_proof left) (option_map shown_proof right) is)
  squeeze-entry (Root proof) is order = is
  squeeze-entry (Improve plan) is order = is

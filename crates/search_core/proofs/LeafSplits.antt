-- The split of the least leaf, put together.
use Rattle.std.proofs.Common.{◌≡◌, ℕ, List, get_or, Some, option_map, ℤ, pos, ◌+ℤ◌, ◌-ℤ◌, ◌≤ℤ◌, sym, ap, subst, ◌∙◌}
use Rattle.std.specs.Int.RustNames.{int_div}
use Rattle.std.proofs.lemmas.List.Elements.{All-get_or}
use denote.Ref.{Bor}
use Rattle.pool_model.specs.Network.{Net}
use Rattle.row_model.specs.Boxes.{Box, left_of, right_of}
use Rattle.row_model.specs.Multipliers.{bound}
use Rattle.row_model.specs.Trees.{Split as Cut, tree_bound, box_of, IsLeastLeaf}
use Rattle.row_model.specs.Entries.{Searched}
use Rattle.box_space.specs.Views.{shown_proof, AreEndsOf}
use Rattle.box_space.specs.declared.boxes.BoxEnds.{BoxEnds}
use Rattle.box_space.specs.declared.coordinates.Form.{Form}
use Rattle.box_space.specs.declared.coordinates.Split.{Split}
use Rattle.branching.specs.Rows.{View, row_at, no_row}
use Rattle.branching.specs.Rules.{IsPick}
use Rattle.search_core.specs.declared.options.Options.{Options}
use Rattle.leaf_cuts.specs.declared.halving.Halving.{Halving}
use Rattle.leaf_cuts.specs.Views.{IsRowOf, IsViewOf}
use Rattle.leaf_cuts.specs.Given.{IsGiven}
use Rattle.leaf_cuts.specs.Halvings.{middle_at, IsHalvingOf}
use Rattle.search_core.specs.Searches.{Searching}
use Rattle.search_core.specs.Cases.{IsCuttable}
use Rattle.search_core.specs.Next.{IsHalving, IsLeastSplit}
use Rattle.search_core.proofs.Opening.{open-cuttable}

-- a leaf as a look shows it, said of the search whose tree it is of
pub seen-of : (n : Net) (s t : Searching) (form : Form) (b : Box) (node : ℕ) (view : View) → t ≡ s → form ≡ s.options.form
    → IsViewOf n form t.tree.kept.splits.list b node view → IsViewOf n s.options.form s.tree.kept.splits.list b node view
seen-of n s t form b node view same asked seen =
    subst (λ (x : Searching). IsViewOf n s.options.form x.tree.kept.splits.list b node view) same
    (subst (λ (f : Form). IsViewOf n f t.tree.kept.splits.list b node view) asked seen)

module _ (n : Net) (o : Options) (splits : List Cut) (b : Box) (node : ℕ) (view : View) (split : Split) (post : Bor View → ℕ → Type 0) (seen : IsViewOf n o.form splits b node view) (picked : IsPick post view split) where
  pub pick-cuttable : IsCuttable n o.form b split.coord
  pick-cuttable = subst (λ (c : ℕ). IsCuttable n o.form b c) (sym picked.split_at.coord) (open-cuttable n o.form splits b node view picked.place seen picked.is_open)

  row_ends : IsRowOf n splits b (row_at view.rows picked.place)
  row_ends = All-get_or (IsRowOf n splits b) view.rows picked.place no_row picked.is_open.there seen.rows.ends

  pick-middle : split.cut ≡ middle_at b split.coord
  pick-middle =
      let r = row_at view.rows picked.place in
      picked.split_at.middle
      ∙ ap (λ (z : ℤ). z +ℤ int_div (r.high -ℤ r.low) (pos 2)) row_ends.low
      ∙ ap (λ (z : ℤ). b.low r.coord +ℤ int_div (r.high -ℤ z) (pos 2)) row_ends.low
      ∙ ap (λ (z : ℤ). b.low r.coord +ℤ int_div (z -ℤ b.low r.coord) (pos 2)) row_ends.high
      ∙ ap (λ (c : ℕ). middle_at b c) (sym picked.split_at.coord)

  pub pick-halving : (h : Halving) (least : ℤ) → IsHalvingOf n o.form b least h → h.coord ≡ split.coord → IsHalving n o b least split (option_map shown_proof h.left) (option_map shown_proof h.right)
  pick-halving h least is same =
      let left = option_map shown_proof h.left in
      let right = option_map shown_proof h.right in
      record {
        cuttable = pick-cuttable;
        middle = pick-middle;
        left_given = subst (λ (z : ℤ). IsGiven n o.form (left_of b split.coord z) (bound least) left) (sym pick-middle)
            (subst (λ (c : ℕ). IsGiven n o.form (left_of b c (middle_at b c)) (bound least) left) same is.left);
        right_given = subst (λ (z : ℤ). IsGiven n o.form (right_of b split.coord z) (bound least) right) (sym pick-middle)
            (subst (λ (c : ℕ). IsGiven n o.form (right_of b c (middle_at b c)) (bound least) right) same is.right);
      }

pub least-split : (n : Net) (o : Options) (s : Searched) (post : Bor View → ℕ → Type 0) (node : ℕ) (view : View) (split : Split) (h : Halving) (least : ℤ)
    → IsLeastLeaf n s.tree node → tree_bound n s.tree ≡ Some least → IsViewOf n o.form s.tree.splits (box_of n s.tree.splits node) node view → IsPick post view split
    → IsHalvingOf n o.form (box_of n s.tree.splits node) least h → h.coord ≡ split.coord
    → IsLeastSplit n o s post split (option_map shown_proof h.left) (option_map shown_proof h.right)
least-split n o s post node view split h least leaf bounded seen picked is same =
    let at : node ≡ split.leaf = sym (picked.split_at.node ∙ seen.node) in
    let seen_at : IsViewOf n o.form s.tree.splits (box_of n s.tree.splits split.leaf) split.leaf view = subst (λ (l : ℕ). IsViewOf n o.form s.tree.splits (box_of n s.tree.splits l) l view) at seen in
    record {
      leaf = subst (λ (l : ℕ). IsLeastLeaf n s.tree l) at leaf;
      view = view;
      seen = seen_at;
      picked = picked;
      least = least;
      bounded = bounded;
      halving = pick-halving n o s.tree.splits (box_of n s.tree.splits split.leaf) split.leaf view split post seen_at picked h least
          (subst (λ (l : ℕ). IsHalvingOf n o.form (box_of n s.tree.splits l) least h) at is) same;
    }

-- where a box can be cut, the ends that are held are apart
pub cut-wide : (n : Net) (form : Form) (b : Box) (e : BoxEnds) (c : ℕ) → AreEndsOf n b e → IsCuttable n form b c → (get_or e.low.items c (pos 0) +ℤ pos 2) ≤ℤ get_or e.high.items c (pos 0)
cut-wide n form b e c is cut =
    subst (λ (z : ℤ). (get_or e.low.items c (pos 0) +ℤ pos 2) ≤ℤ z) (sym (is.agree.high c cut.known))
    (subst (λ (z : ℤ). (z +ℤ pos 2) ≤ℤ b.high c) (sym (is.agree.low c cut.known)) cut.wide)

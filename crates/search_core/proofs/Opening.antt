-- The view of the least leaf: its open rows are the coordinates at which the leaf can be cut.
use Rattle.std.proofs.Common.{◌≡◌, ℕ, ◌<◌, ◌⊎◌, inl, inr, List, length, ℤ, pos, ◌+ℤ◌, ◌≤ℤ◌, arith, sym, subst}
use Rattle.std.proofs.lemmas.List.Elements.{All-get_or}
use Rattle.pool_model.specs.Network.{Net}
use Rattle.row_model.specs.Boxes.{Box}
use Rattle.row_model.specs.Trees.{Split, Tree, box_of, IsLeastLeaf}
use Rattle.row_model.specs.Entries.{Searched}
use Rattle.box_space.specs.declared.coordinates.Form.{Form}
use Rattle.branching.specs.Rows.{View, row_at, no_row, IsOpenAt, HasOpen}
use Rattle.leaf_cuts.specs.Views.{IsRowOf, IsViewOf}
use Rattle.search_core.specs.Cases.{IsCuttable, IsStuck}
use Rattle.leaf_cuts.proofs.FormCoords.{coord-of, row-of}

ends-of : (n : Net) (form : Form) (splits : List Split) (b : Box) (node : ℕ) (v : View) (i : ℕ) → IsViewOf n form splits b node v → i < length v.rows → IsRowOf n splits b (row_at v.rows i)
ends-of n form splits b node v i seen h = All-get_or (IsRowOf n splits b) v.rows i no_row h seen.rows.ends

-- at an open row the box can be cut
pub open-cuttable : (n : Net) (form : Form) (splits : List Split) (b : Box) (node : ℕ) (v : View) (i : ℕ) → IsViewOf n form splits b node v → IsOpenAt v.rows i
    → IsCuttable n form b (row_at v.rows i).coord
open-cuttable n form splits b node v i seen here =
    let of = coord-of n form splits b v.rows i seen.rows here.there in
    let ends = ends-of n form splits b node v i seen here.there in
    record {
      known = of.known;
      of_form = of.of_form;
      wide = subst (λ (z : ℤ). (b.low (row_at v.rows i).coord +ℤ pos 2) ≤ℤ z) ends.high (subst (λ (z : ℤ). (z +ℤ pos 2) ≤ℤ (row_at v.rows i).high) ends.low here.is_open);
    }

-- where no row is open, the box can't be cut
pub closed-uncut : (n : Net) (form : Form) (splits : List Split) (b : Box) (node : ℕ) (v : View) (c : ℕ) → IsViewOf n form splits b node v → ¬ HasOpen v.rows → ¬ IsCuttable n form b c
closed-uncut n form splits b node v c seen none cuttable =
    let (i, there, is) = row-of n form splits b v.rows c seen.rows record { known = cuttable.known; of_form = cuttable.of_form } in
    let ends = ends-of n form splits b node v i seen there in
    let wide : (b.low (row_at v.rows i).coord +ℤ pos 2) ≤ℤ b.high (row_at v.rows i).coord = subst (λ (d : ℕ). (b.low d +ℤ pos 2) ≤ℤ b.high d) (sym is) cuttable.wide in
    none (
      i,
      record {
        there = there;
        is_open = subst (λ (z : ℤ). ((row_at v.rows i).low +ℤ pos 2) ≤ℤ z) (sym ends.high) (subst (λ (z : ℤ). (z +ℤ pos 2) ≤ℤ b.high (row_at v.rows i).coord) (sym ends.low) wide);
      },
    )

-- there is one least leaf
less_or_more : (a b : ℕ) → (a ≡ b) ⊎ ((a < b) ⊎ (b < a))
less_or_more a b = grind arith

pub least-one : (n : Net) (tree : Tree) (a b : ℕ) → IsLeastLeaf n tree a → IsLeastLeaf n tree b → a ≡ b
least-one n tree a b p q = elim (less_or_more a b) [
  | inl e ↦ e
  | inr r ↦ elim r [ inl lt ↦ absurd (q.first a lt p.least) | inr gt ↦ absurd (p.first b gt q.least) ]
]

pub stuck-from : (n : Net) (form : Form) (s : Searched) (leaf : ℕ) (v : View) → IsLeastLeaf n s.tree leaf → IsViewOf n form s.tree.splits (box_of n s.tree.splits leaf) leaf v → ¬ HasOpen v.rows → IsStuck n form s
stuck-from n form s leaf v is seen none other c least =
    subst (λ (l : ℕ). ¬ IsCuttable n form (box_of n s.tree.splits l) c) (least-one n s.tree leaf other is least) (closed-uncut n form s.tree.splits (box_of n s.tree.splits leaf) leaf v c seen none)

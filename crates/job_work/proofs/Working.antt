-- The split of a leaf, put together.
use Rattle.std.proofs.Common.{◌≡◌, ℕ, ◌<◌, List, length, Option, Some, option_map, ℤ, pos, ◌<ℤ◌, refl, sym, subst, ◌∙◌}
use Rattle.std.specs.Option.{ForSome}
use Rattle.pool_model.specs.Network.{Net}
use Rattle.row_model.specs.Boxes.{Box, left_of, right_of}
use Rattle.row_model.specs.Multipliers.{Proof, IsInOrder, bound}
use Rattle.row_model.specs.Trees.{Split as Cut, box_of, most_splits, IsLeaf}
use Rattle.row_model.specs.Entries.{Entry, root_proof, split_of, improve, Searched, IsSplitEntryInOrder}
use Rattle.box_space.specs.Views.{shown_proof, shown_split}
use Rattle.box_space.specs.declared.coordinates.Form.{Form}
use Rattle.box_space.specs.declared.coordinates.Split.{Split}
use Rattle.branching.specs.Rows.{View, HasOpen}
use Rattle.branching.specs.Rules.{IsPick}
use Rattle.branching.specs.declared.name.RuleName.TheVariants.{Widest}
use Rattle.leaf_cuts.specs.Given.{IsGiven}
use Rattle.leaf_cuts.specs.Halvings.{IsHalvingOf}
use Rattle.leaf_cuts.specs.Views.{IsViewOf}
use Rattle.leaf_cuts.specs.declared.halving.Halving.{Halving}
use Rattle.leaf_cuts.proofs.Middles.{middle-above, middle-below}
use Rattle.search_core.specs.Next.{IsHalving}
use Rattle.search_core.specs.declared.options.Options.{Options}
use Rattle.search_core.proofs.LeafSplits.{pick-halving}
use Rattle.search_core.proofs.Opening.{closed-uncut}
use Rattle.search_run.specs.Orders.{picked}
use Rattle.search_run.proofs.Choosing.{pick-chosen}
use Rattle.search_run.proofs.Stepping.{half-of}
use Rattle.job_work.specs.Worked.{least_at, CanBeCut, IsWidestCut, IsProvedHalf, IsWorked}

-- options of a form: of the others nothing is read where a pick is judged
abbrev pub asks : Form → Options
asks form = record { form = form; nodes = 0; gap = pos 0; pivots = 0; looks = 0 }

-- where no row is open, the leaf can't be cut
pub uncut-at : (n : Net) (form : Form) (splits : List Cut) (b : Box) (node : ℕ) (v : View) → IsViewOf n form splits b node v → ¬ HasOpen v.rows → ¬ CanBeCut n form b
uncut-at n form splits b node v seen shut can = closed-uncut n form splits b node v can.0 seen shut can.1

module _ (n : Net) (form : Form) (s : Searched) (node : ℕ) (view : View) (split : Split) (h : Halving) (least : ℤ)
    (leaf : IsLeaf s.tree.splits node) (seen : IsViewOf n form s.tree.splits (box_of n s.tree.splits node) node view)
    (pick : IsPick (picked Widest) view split) (halved : IsHalvingOf n form (box_of n s.tree.splits node) least h) (same : h.coord ≡ split.coord)
    (least_is : least ≡ least_at n s.tree node) where
  at : split.leaf ≡ node
  at = pick.split_at.node ∙ seen.node

  halving : IsHalving n (asks form) (box_of n s.tree.splits node) least split (option_map shown_proof h.left) (option_map shown_proof h.right)
  halving = pick-halving n (asks form) s.tree.splits (box_of n s.tree.splits node) node view split (picked Widest) seen pick h least halved same

  cut-at : IsWidestCut n form (box_of n s.tree.splits node) split.coord split.cut
  cut-at = record {
    cuttable = halving.cuttable;
    widest = pick-chosen n form Widest s.tree.splits (box_of n s.tree.splits node) node view split seen pick;
    middle = halving.middle;
  }

  proved : (x : Box) (proof : Option Proof) → IsGiven n form x (bound least) proof → IsProvedHalf n form x (least_at n s.tree node) proof
  proved x proof given =
      subst (λ (z : ℤ). IsProvedHalf n form x z proof) least_is record { given = given; half = half-of n form x (Some least) least proof refl given }

  ordered : length s.tree.splits < most_splits → IsSplitEntryInOrder n s (shown_split split) (option_map shown_proof h.left) (option_map shown_proof h.right)
  ordered few =
      let b = box_of n s.tree.splits node in
      record {
        cuts = record {
          leaf = subst (λ (k : ℕ). IsLeaf s.tree.splits k) (sym at) leaf;
          coord = halving.cuttable.known;
          low = subst (λ (k : ℕ). (box_of n s.tree.splits k).low split.coord <ℤ split.cut) (sym at)
              (subst (λ (z : ℤ). b.low split.coord <ℤ z) (sym halving.middle) (middle-above b split.coord halving.cuttable.wide));
          high = subst (λ (k : ℕ). split.cut <ℤ (box_of n s.tree.splits k).high split.coord) (sym at)
              (subst (λ (z : ℤ). z <ℤ b.high split.coord) (sym halving.middle) (middle-below b split.coord halving.cuttable.wide));
        };
        few = few;
        left_proof = subst (λ (k : ℕ). ForSome (option_map shown_proof h.left) (IsInOrder n (left_of (box_of n s.tree.splits k) split.coord split.cut))) (sym at)
            halving.left_given.in_order;
        right_proof = subst (λ (k : ℕ). ForSome (option_map shown_proof h.right) (IsInOrder n (right_of (box_of n s.tree.splits k) split.coord split.cut))) (sym at)
            halving.right_given.in_order;
      }

  pub worked-at : IsWorked n form s node (split_of (shown_split split) (option_map shown_proof h.left) (option_map shown_proof h.right))
  worked-at =
      let left = option_map shown_proof h.left in
      let right = option_map shown_proof h.right in
      let b = box_of n s.tree.splits node in
      record {
        splits = at;
        cuts = subst (λ (k : ℕ). IsWidestCut n form (box_of n s.tree.splits k) split.coord split.cut) (sym at) cut-at;
        halves = (
          subst (λ (k : ℕ). IsProvedHalf n form (left_of (box_of n s.tree.splits k) split.coord split.cut) (least_at n s.tree k) left) (sym at)
              (proved (left_of b split.coord split.cut) left halving.left_given),
          subst (λ (k : ℕ). IsProvedHalf n form (right_of (box_of n s.tree.splits k) split.coord split.cut) (least_at n s.tree k) right) (sym at)
              (proved (right_of b split.coord split.cut) right halving.right_given),
        );
        in_order = ordered;
      }

-- a leaf that is worked can be cut
pub worked-cut : (n : Net) (form : Form) (s : Searched) (node : ℕ) (e : Entry) → IsWorked n form s node e → CanBeCut n form (box_of n s.tree.splits node)
worked-cut n form s node (split_of split left right) is =
    subst (λ (k : ℕ). CanBeCut n form (box_of n s.tree.splits k)) is.splits (split.coord, is.cuts.cuttable)
worked-cut n form s node (root_proof proof) is = absurd is.splits
worked-cut n form s node (improve plan) is = absurd is.splits

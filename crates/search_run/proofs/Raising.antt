-- What is chosen is due, once its halves are raised.
use Rattle.std.proofs.Common.{◌≡◌, ℕ, zero, suc, ◌<◌, inl, inr, length, Option, None, Some, ℤ, ◌≤ℤ◌, arith, refl, sym, subst}
use Rattle.std.specs.Prelude.{IsSomeAnd}
use Rattle.std.specs.Int.{int_max}
use Rattle.std.proofs.lemmas.Int.{clamps}
use Rattle.std.proofs.lemmas.Option.{none-some}
use Rattle.integers.proofs.Ring.{additive}
use Rattle.pool_model.specs.Network.{Net, IsLimited}
use Rattle.row_model.specs.Boxes.{Box, left_of, right_of}
use Rattle.row_model.specs.Multipliers.{Proof, Shown, bound, no_plan, shown_by}
use Rattle.row_model.specs.Trees.{Split, box_of, node_bound, raised, tree_bound, IsLeastLeaf}
use Rattle.row_model.specs.Entries as entries
use Rattle.row_model.specs.Entries.{Searched, after, IsEntryInOrder, root_proof, split_of, improve}
use Rattle.box_space.specs.declared.coordinates.Form.{Form}
use Rattle.box_tree.specs.Views.{shown_entry}
use Rattle.box_tree.specs.declared.entry.Entry.{Entry}
use Rattle.box_squeeze.specs.Squeezes.{on, Reaches}
use Rattle.box_squeeze.specs.Pieces.{part_of}
use Rattle.box_squeeze.specs.declared.piece.Side.{Side}
use Rattle.box_squeeze.specs.declared.piece.Side.TheVariants.{Left, Right}
use Rattle.dual_rounding.specs.Answers.{IsAtMost}
use Rattle.dual_rounding.specs.Price.{IsPriced}
use Rattle.leaf_marks.specs.declared.mark.Mark.{Mark}
use Rattle.leaf_marks.specs.declared.mark.Mark.TheVariants.{Tight, Raised, Empty, Loose}
use Rattle.raised_splits.specs.Raising.{half_bound, proof_by, AreRaised, IsBestEntry, IsMarkOf, IsMarked, IsRaisedBy, IsRaisedHalf, IsRaisedTo}
use Rattle.raised_splits.proofs.Halves.{IsNoLess, empty-shows, names-rows, no-less, proof-kept, raised-shows}
use Rattle.search_core.specs.Searches.{Searching, searched, IsSearchOf}
use Rattle.search_core.specs.declared.next.Next.TheVariants as next
use Rattle.search_run.specs.Due.{IsChosenNext, IsDueNext, LeavesLess}
use Rattle.search_run.specs.Orders.{options_of}
use Rattle.search_core.specs.declared.options.Options.{Options}
use Rattle.search_run.specs.Steps.{target_of, IsCut, IsDue, IsHalf, IsOfForm, IsSplit, IsSqueezed}
use Rattle.search_run.specs.declared.orders.Orders.{Orders}
use Rattle.search_run.proofs.Growing.{least-bound, leaf-split}
use Rattle.search_run.proofs.Nearer.{split-nearer}

-- ---- a half

-- a bound that is no less is priced too
priced-more : (n : Net) (b : Box) (x y : Option ℤ) → IsNoLess x y → IsPriced n b x → IsPriced n b y
priced-more n b x None more priced = tt
priced-more n b None (Some z) more priced = absurd more
priced-more n b (Some w) (Some z) more priced = omega (arith, additive, more, priced)

module _ (n : Net) (form : Form) (b : Box) (pivots : ℕ) (above least : Option ℤ) (limited : IsLimited n) (same : above ≡ least) (old new : Option Proof) (is : IsRaisedHalf n form b pivots above old new) where
  half-kept : IsHalf n form b least old → IsHalf n form b least new
  half-kept half = record {
    named = proof-kept n form b pivots above limited old (IsOfForm n form) (half_bound n b above old) new (λ p named order. names-rows n form p named) is half.named;
    priced = subst (λ (z : Option ℤ). IsPriced n b (half_bound n b z new)) same
        (priced-more n b (half_bound n b above old) (half_bound n b above new) (no-less n form b pivots above limited old new is)
        (subst (λ (z : Option ℤ). IsPriced n b (half_bound n b z old)) (sym same) half.priced));
  }

-- ---- a piece that is cut off

some_same : {X : Type 0} (x y : X) → Some x ≡ Some y → x ≡ y
some_same x y e = cc

max-above : (target a y low : ℤ) → target ≤ℤ y → int_max a y ≡ low → target ≤ℤ low
max-above target a y low h e = subst (λ (z : ℤ). target ≤ℤ z) e (omega (arith, additive, clamps, h))

below-low : (target : ℤ) (s : Shown) (above : Option ℤ) (low : ℤ) → IsAtMost (bound target) s → raised above (Some s) ≡ Some low → target ≤ℤ low
below-low target s None low h e = absurd (none-some low e)
below-low target (bound y) (Some a) low h e = max-above target a y low h (some_same (int_max a y) low e)
below-low target no_plan (Some a) low h e = absurd (none-some low e)

module _ (n : Net) (form : Form) (b : Box) (pivots : ℕ) (above : Option ℤ) (limited : IsLimited n) (target : ℤ) (p : Proof) (reaches : Reaches n b target p) where
  reaches-by : (low : ℤ) (mark : Mark) → half_bound n b above (Some p) ≡ Some low → IsMarkOf n form b low pivots mark → IsSomeAnd (proof_by mark (Some p)) (Reaches n b target)
  reaches-by low (Tight q) e of = reaches
  reaches-by low (Loose reason) e of = reaches
  reaches-by low (Raised better q) e of =
      let at = of.says.point in
      let least = below-low target (shown_by n b p) above low reaches e in
      let more : target ≤ℤ at.shown = omega (arith, additive, least, at.above) in
      subst (IsAtMost (bound target)) (sym (raised-shows n form b low pivots limited better q of)) more
  reaches-by low (Empty none) e of = subst (IsAtMost (bound target)) (sym (empty-shows n form b low pivots limited none of)) tt

  reaches-at : (k : Option ℤ) (new : Option Proof) → half_bound n b above (Some p) ≡ k → IsMarked n form b pivots k (Some p) new → IsSomeAnd new (Reaches n b target)
  reaches-at None new e same = subst (λ (o : Option Proof). IsSomeAnd o (Reaches n b target)) (sym same) reaches
  reaches-at (Some low) new e (mark, of, same) = subst (λ (o : Option Proof). IsSomeAnd o (Reaches n b target)) (sym same) (reaches-by low mark e of)

reaches-kept : (n : Net) (form : Form) (b : Box) (pivots : ℕ) (above : Option ℤ) → IsLimited n → (target : ℤ) (old new : Option Proof) → IsRaisedHalf n form b pivots above old new → IsSomeAnd old (Reaches n b target)
    → IsSomeAnd new (Reaches n b target)
reaches-kept n form b pivots above limited target None new is reaches = absurd reaches
reaches-kept n form b pivots above limited target (Some p) new is reaches = reaches-at n form b pivots above limited target p reaches (half_bound n b above (Some p)) new refl is

-- ---- a split

module _ (n : Net) (o : Orders) (s : Searched) (limited : IsLimited n) (split : Split) (left right new_left new_right : Option Proof) (are : AreRaised n o.form o.raise s.tree split left right new_left new_right) where
  abbrev lower : Box
  lower = left_of (box_of n s.tree.splits split.leaf) split.coord split.cut

  abbrev upper : Box
  upper = right_of (box_of n s.tree.splits split.leaf) split.coord split.cut

  abbrev above : Option ℤ
  above = node_bound n s.tree split.leaf

  left-kept : IsLeastLeaf n s.tree split.leaf → IsHalf n o.form lower (tree_bound n s.tree) left → IsHalf n o.form lower (tree_bound n s.tree) new_left
  left-kept leaf half = half-kept n o.form lower o.raise above (tree_bound n s.tree) limited (least-bound n s.tree split.leaf leaf) left new_left are.left_half half

  right-kept : IsLeastLeaf n s.tree split.leaf → IsHalf n o.form upper (tree_bound n s.tree) right → IsHalf n o.form upper (tree_bound n s.tree) new_right
  right-kept leaf half = half-kept n o.form upper o.raise above (tree_bound n s.tree) limited (least-bound n s.tree split.leaf leaf) right new_right are.right_half half

  closed-kept : (target : ℤ) (side : Side) → IsSomeAnd (on side left right) (Reaches n (part_of (box_of n s.tree.splits split.leaf) side split.coord split.cut) target)
      → IsSomeAnd (on side new_left new_right) (Reaches n (part_of (box_of n s.tree.splits split.leaf) side split.coord split.cut) target)
  closed-kept target Left closed = reaches-kept n o.form lower o.raise above limited target left new_left are.left_half closed
  closed-kept target Right closed = reaches-kept n o.form upper o.raise above limited target right new_right are.right_half closed

  cut-kept : IsCut n o s split left right → IsCut n o s split new_left new_right
  cut-kept cut = record {
    few = cut.few;
    leaf = cut.leaf;
    cuttable = cut.cuttable;
    chosen = cut.chosen;
    middle = cut.middle;
    left_half = left-kept cut.leaf cut.left_half;
    right_half = right-kept cut.leaf cut.right_half;
  }

  squeeze-kept : IsSqueezed n o s split left right → IsSqueezed n o s split new_left new_right
  squeeze-kept cut = record {
    asked = cut.asked;
    few = cut.few;
    leaf = cut.leaf;
    plan = cut.plan;
    best = cut.best;
    side = cut.side;
    cuts_off = record {
      pieces = cut.cuts_off.pieces;
      cut = cut.cuts_off.cut;
      closed = closed-kept (target_of n o.gap cut.plan) cut.side cut.cuts_off.closed;
    };
    left_half = left-kept cut.leaf cut.left_half;
    right_half = right-kept cut.leaf cut.right_half;
  }

  split-kept : IsSplit n o s split left right → IsSplit n o s split new_left new_right
  split-kept (inl is) = inl (cut-kept is.0, is.1)
  split-kept (inr is) = inr (squeeze-kept is)

-- ---- an entry

module _ (n : Net) (o : Orders) (s : Searching) (is : IsSearchOf n s) (asked : s.options ≡ options_of o) where
  split-less : (split : Split) (left right : Option Proof) → IsDue n o (searched s) (split_of split left right) → LeavesLess n s (split_of split left right)
  split-less split left right due t now same made flag =
      split-nearer n s t is now same split left right made flag
      (subst (λ (x : Options). length s.tree.kept.splits.list < x.nodes) (sym asked) (leaf-split n o (searched s) split left right due.1).few) due.0.apart.start

  raised-to : (raise : ℕ) → raise ≡ o.raise → (old new : entries.Entry) → IsRaisedTo n o.form raise (searched s).tree old new → IsDue n o (searched s) old → LeavesLess n s old
      → IsDue n o (searched s) new × LeavesLess n s new
  raised-to raise e (root_proof proof) new same due less = subst (λ (x : entries.Entry). IsDue n o (searched s) x × LeavesLess n s x) (sym same) (due, less)
  raised-to raise e (improve plan) new same due less = subst (λ (x : entries.Entry). IsDue n o (searched s) x × LeavesLess n s x) (sym same) (due, less)
  raised-to raise e (split_of split left right) new (new_left, new_right, same, are) due less =
      let halves : AreRaised n o.form o.raise (searched s).tree split left right new_left new_right
      = subst (λ (r : ℕ). AreRaised n o.form r (searched s).tree split left right new_left new_right) e are in
      let now : IsDue n o (searched s) (split_of split new_left new_right) = (due.0, split-kept n o (searched s) is.limited split left right new_left new_right halves due.1) in
      subst (λ (x : entries.Entry). IsDue n o (searched s) x × LeavesLess n s x) (sym same) (now, split-less split new_left new_right now)

  raised-by : (raise : ℕ) → raise ≡ o.raise → (old new : entries.Entry) → IsRaisedBy n o.form raise (searched s).tree old new → IsDue n o (searched s) old → LeavesLess n s old
      → IsDue n o (searched s) new × LeavesLess n s new
  raised-by zero e old new same due less = subst (λ (x : entries.Entry). IsDue n o (searched s) x × LeavesLess n s x) (sym same) (due, less)
  raised-by (suc raise) e old new h due less = raised-to (suc raise) e old new h due less

  -- what was chosen is due with the proofs that its halves get
  pub raised-due : (old new : Entry) → IsChosenNext n o s (next.Do old) → IsRaisedBy n o.form o.raise (searched s).tree (shown_entry old) (shown_entry new)
      → IsEntryInOrder n (searched s) (shown_entry new) → IsBestEntry n o.form o.raise (searched s).tree (shown_entry new) → IsDueNext n o s (next.Do new)
  raised-due old new chosen raised order best =
      let due = raised-by o.raise refl (shown_entry old) (shown_entry new) raised chosen.1 chosen.2 in
      (record { in_order = order; due = due.0; best = best }, due.1)

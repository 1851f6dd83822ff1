-- What is known of a half with the proof that it gets, and of the entry.
use Rattle.std.proofs.Common.{◌≡◌, ℕ, zero, suc, ◌<◌, inl, inr, Option, None, Some, option_map, ℤ, arith, refl, sym, ap, subst, ◌∙◌}
use Rattle.pool_model.specs.Network.{Net, IsLimited}
use Rattle.row_model.specs.Boxes.{Box, left_of, right_of}
use Rattle.row_model.specs.Multipliers.{Proof}
use Rattle.row_model.specs.Trees.{Split, Tree, box_of, node_bound}
use Rattle.row_model.specs.Entries.{Entry, root_proof, split_of, improve, Searched, IsEntryInOrder, IsSplitEntryInOrder}
use Rattle.box_space.specs.Views.{shown_proof}
use Rattle.box_space.specs.declared.coordinates.Form.{Form}
use Rattle.relaxation_points.specs.Views.{shown_point}
use Rattle.leaf_marks.specs.declared.mark.Mark.{Mark}
use Rattle.leaf_marks.specs.declared.mark.Mark.TheVariants.{Tight, Raised, Empty, Loose}
use Rattle.raised_splits.specs.Raising.{half_bound, proof_by, AreBest, AreRaised, IsBest, IsBestEntry, IsMarkOf, IsMarked, IsRaisedBy, IsRaisedHalf, IsRaisedTo}
use Rattle.raised_splits.proofs.Halves.{none-bound, shown-bound, order-kept, raised-shows, empty-shows}

module _ (n : Net) (form : Form) (b : Box) (pivots : ℕ) (above : Option ℤ) (limited : IsLimited n) (old : Option Proof) where
  best-by : (low : ℤ) (mark : Mark) → half_bound n b above old ≡ Some low → IsMarkOf n form b low pivots mark → IsBest n form b pivots (half_bound n b above (proof_by mark old))
  best-by low (Tight q) e of = subst (IsBest n form b pivots) (sym e) (inl record { seen = of.seen; agree = of.agree; point = shown_point q; best = of.says.point })
  best-by low (Loose reason) e of = subst (IsBest n form b pivots) (sym e) (inr (reason, of))
  best-by low (Raised p q) e of =
      let at = of.says.point in
      subst (IsBest n form b pivots) (sym (shown-bound n form b pivots above limited old low at.shown (shown_proof p) e (raised-shows n form b low pivots limited p q of) at.above))
      (inl record { seen = of.seen; agree = of.agree; point = shown_point q; best = at.best })
  best-by low (Empty p) e of = subst (IsBest n form b pivots) (sym (none-bound n form b pivots above limited old (shown_proof p) (empty-shows n form b low pivots limited p of))) tt

  best-at : (k : Option ℤ) (new : Option Proof) → half_bound n b above old ≡ k → IsMarked n form b pivots k old new → IsBest n form b pivots (half_bound n b above new)
  best-at None new e same = subst (λ (o : Option Proof). IsBest n form b pivots (half_bound n b above o)) (sym same) (subst (IsBest n form b pivots) (sym e) tt)
  best-at (Some low) new e (mark, of, same) = subst (λ (o : Option Proof). IsBest n form b pivots (half_bound n b above o)) (sym same) (best-by low mark e of)

  best-half : (new : Option Proof) → IsRaisedHalf n form b pivots above old new → IsBest n form b pivots (half_bound n b above new)
  best-half new h = best-at (half_bound n b above old) new refl h

-- ---- splits

module _ (n : Net) (form : Form) (pivots : ℕ) (s : Searched) (limited : IsLimited n) (split : Split) (left right new_left new_right : Option Proof) (are : AreRaised n form pivots s.tree split left right new_left new_right) where
  abbrev lower : Box
  lower = left_of (box_of n s.tree.splits split.leaf) split.coord split.cut

  abbrev upper : Box
  upper = right_of (box_of n s.tree.splits split.leaf) split.coord split.cut

  abbrev above : Option ℤ
  above = node_bound n s.tree split.leaf

  split-best : AreBest n form pivots s.tree split new_left new_right
  split-best = record {
    left_half = best-half n form lower pivots above limited left new_left are.left_half;
    right_half = best-half n form upper pivots above limited right new_right are.right_half;
  }

  split-order : IsSplitEntryInOrder n s split left right → IsSplitEntryInOrder n s split new_left new_right
  split-order order = record {
    cuts = order.cuts;
    few = order.few;
    left_proof = order-kept n form lower pivots above limited left new_left are.left_half order.left_proof;
    right_proof = order-kept n form upper pivots above limited right new_right are.right_half order.right_proof;
  }

-- ---- entries

pub entry-order : (n : Net) (form : Form) (pivots : ℕ) (s : Searched) → IsLimited n → (old new : Entry) → IsRaisedTo n form pivots s.tree old new → IsEntryInOrder n s old → IsEntryInOrder n s new
entry-order n form pivots s limited (root_proof proof) new same order = subst (IsEntryInOrder n s) (sym same) order
entry-order n form pivots s limited (improve plan) new same order = subst (IsEntryInOrder n s) (sym same) order
entry-order n form pivots s limited (split_of split left right) new (new_left, new_right, same, are) order =
    subst (IsEntryInOrder n s) (sym same) (split-order n form pivots s limited split left right new_left new_right are order)

pub entry-best : (n : Net) (form : Form) (pivots : ℕ) (s : Searched) → IsLimited n → (old new : Entry) → IsRaisedTo n form pivots s.tree old new → IsBestEntry n form pivots s.tree new
entry-best n form pivots s limited (root_proof proof) new same = subst (IsBestEntry n form pivots s.tree) (sym same) tt
entry-best n form pivots s limited (improve plan) new same = subst (IsBestEntry n form pivots s.tree) (sym same) tt
entry-best n form pivots s limited (split_of split left right) new (new_left, new_right, same, are) =
    subst (IsBestEntry n form pivots s.tree) (sym same) (λ lt. split-best n form pivots s limited split left right new_left new_right are)

-- without pivots
pub none-best : (n : Net) (form : Form) (pivots : ℕ) (tree : Tree) (e : Entry) → pivots ≡ 0 → IsBestEntry n form pivots tree e
none-best n form pivots tree (root_proof proof) none = tt
none-best n form pivots tree (improve plan) none = tt
none-best n form pivots tree (split_of split left right) none = λ lt. absurd (omega (arith, none, lt))

pub none-raised : (n : Net) (form : Form) (pivots : ℕ) (tree : Tree) (e : Entry) → pivots ≡ 0 → IsRaisedBy n form pivots tree e e
none-raised n form zero tree e none = refl
none-raised n form (suc pivots) tree e none = absurd (omega (arith, none))

-- with some
pub some-raised : (n : Net) (form : Form) (pivots : ℕ) (tree : Tree) (old new : Entry) → ¬ (pivots ≡ 0) → IsRaisedTo n form pivots tree old new → IsRaisedBy n form pivots tree old new
some-raised n form zero tree old new some h = absurd (some refl)
some-raised n form (suc pivots) tree old new some h = h

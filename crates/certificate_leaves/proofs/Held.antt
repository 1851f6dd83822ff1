-- A plan that obeys lies in the box of a leaf that may hold a plan, and costs at least its bound: from the root down, split by split.
use Rattle.std.proofs.Common.{◌≡◌, ℕ, zero, suc, ◌+◌, ◌*◌, ◌<◌, ◌≤◌, ◌⊎◌, inl, inr, List, length, take, Option, Some, None, option_map, ℤ, pos, ◌*ℤ◌, ◌≤ℤ◌, arith, refl, sym, subst, add-one}
use Rattle.std.specs.Int.{int_max}
use Rattle.std.proofs.lemmas.Int.{clamps}
use Rattle.std.proofs.lemmas.List.{take_all}
use Rattle.std.proofs.lemmas.Bool.{cases_lt}
use borrow.Author.Differences.{up, down}
use Rattle.integers.proofs.Ring.{additive}
use Rattle.integers.proofs.AtKey.{same_or_other}
use Rattle.pool_model.specs.Network.{Net, IsLimited}
use Rattle.pool_model.specs.Plan.{Plan, Obeys, cost_of}
use Rattle.pool_model.specs.Starting.{reach_bound}
use Rattle.pool_model.proofs.Reach.{reach_bound-holds}
use Rattle.row_model.specs.Boxes.{Box, LiesIn, left_of, right_of}
use Rattle.row_model.specs.Multipliers.{Proof, IsInOrder, Shown, bound, no_plan, shown_by, HoldsIn}
use Rattle.row_model.specs.Trees.{split_at, left_node, right_node, IsLeaf, box_after, box_of, Tree, IsTree, raised, own, bound_after, node_bound, leaf_bound}
use Rattle.row_model.proofs.Duality.{proof-holds}
use Rattle.row_model.proofs.Halves.{lies-half}
use Rattle.row_model.proofs.RootBox.{lies-root}
use Rattle.row_model.proofs.TreeBound.{Allows, old_bound, new_left, new_right}
use Rattle.row_model.proofs.TreeLaw.{length_before, leaf_kept, uncut_later, box_is, box_kept, left_box, right_box}
use Rattle.leaf_order.specs.declared.leaf.OpenLeaf.{OpenLeaf}
use Rattle.certificate_leaves.specs.Leaves.{AreLeaves, LiesInOne}

-- the greater of two numbers is one of them
max_either : (a b : ℤ) → (int_max a b ≡ a) ⊎ (int_max a b ≡ b)
max_either a b = elim (cases_lt (up a + down b) (up b + down a)) [ inl h ↦ inr (omega (arith, additive, clamps)) | inr h ↦ inl (omega (arith, additive, clamps)) ]

module _ (n : Net) (tree : Tree) (limited : IsLimited n) (is : IsTree n tree) (p : Plan) (obeys : Obeys n p) where
  -- a plan in a box costs at least what a proof that is in order there adds to a bound below it
  with_shown : (b : Box) (low : ℤ) (s : Shown) → LiesIn n p b → HoldsIn n b s → Allows n p (Some low) → Allows n p (raised (Some low) (Some s))
  with_shown b low (bound z) lies holds h = elim (max_either low z) [
    | inl e ↦ subst (λ (m : ℤ). (m *ℤ pos p.base) ≤ℤ cost_of n p) (sym e) h
    | inr e ↦ subst (λ (m : ℤ). (m *ℤ pos p.base) ≤ℤ cost_of n p) (sym e) (holds p obeys lies)
  ]
  with_shown b low no_plan lies holds h = absurd (holds p obeys lies)

  with_own : (b : Box) (o : Option ℤ) (q : Option Proof) → LiesIn n p b → ((proof : Proof) → q ≡ Some proof → IsInOrder n b proof) → Allows n p o → Allows n p (raised o (option_map (shown_by n b) q))
  with_own b None q lies order h = absurd h
  with_own b (Some low) None lies order h = h
  with_own b (Some low) (Some proof) lies order h = with_shown b low (shown_by n b proof) lies (proof-holds n b proof limited (order proof refl)) h

  -- the plan lies in the box of a leaf of the first so many splits, and costs at least the leaf's bound
  record At (t : ℕ) : Type 0 where
    pub node : ℕ
    pub leaf : IsLeaf (take t tree.splits) node
    pub lies : LiesIn n p (box_after n tree.splits t node)
    pub allows : Allows n p (bound_after n tree t node)

  -- a node of the first so many splits, with what its own proof shows
  own_there : (t node : ℕ) (o : Option ℤ) → t ≤ length tree.splits → node < 2 * t + 1 → LiesIn n p (box_after n tree.splits t node) → Allows n p o → Allows n p (raised o (own n tree node))
  own_there t node o h k lies = with_own (box_of n tree.splits node) o (tree.proof node) (subst (LiesIn n p) (sym (box_is n tree.splits t node h k)) lies) (is.proofs node)

  at_root : At 0
  at_root = record {
    node = 0;
    leaf = record { there = omega arith; uncut = refl };
    lies = lies-root n p limited obeys;
    allows = own_there 0 0 (Some (reach_bound n)) (omega arith) (omega arith) (lies-root n p limited obeys) (reach_bound-holds n limited p obeys);
  }

  -- a node that the next split makes is a leaf
  new_leaf : (t node : ℕ) → t < length tree.splits → 2 * t < node → node < 2 * suc t + 1 → IsLeaf (take (suc t) tree.splits) node
  new_leaf t node h low high = record {
    there = omega (arith, high, length_before tree.splits (suc t) (omega arith));
    uncut = uncut_later n tree.splits (suc t) node (omega arith) (omega (arith, low, high)) (λ i lt. is.splits i (omega arith));
  }

  -- the next split cuts the leaf: the plan lies in one of the halves
  at_half : (t : ℕ) → t < length tree.splits → Allows n p (bound_after n tree t (split_at tree.splits t).leaf)
      → LiesIn n p (left_of (box_after n tree.splits t (split_at tree.splits t).leaf) (split_at tree.splits t).coord (split_at tree.splits t).cut)
      ⊎ LiesIn n p (right_of (box_after n tree.splits t (split_at tree.splits t).leaf) (split_at tree.splits t).coord (split_at tree.splits t).cut)
      → At (suc t)
  at_half t h above (inl half) =
      let lies = subst (LiesIn n p) (sym (left_box n tree.splits t)) half in
      record {
        node = left_node t;
        leaf = new_leaf t (left_node t) h (omega arith) (omega arith);
        lies = lies;
        allows = subst (Allows n p) (sym (new_left n tree t)) (own_there (suc t) (left_node t) (bound_after n tree t (split_at tree.splits t).leaf) (omega arith) (omega arith) lies above);
      }
  at_half t h above (inr half) =
      let lies = subst (LiesIn n p) (sym (right_box n tree.splits t)) half in
      record {
        node = right_node t;
        leaf = new_leaf t (right_node t) h (omega arith) (omega arith);
        lies = lies;
        allows = subst (Allows n p) (sym (new_right n tree t)) (own_there (suc t) (right_node t) (bound_after n tree t (split_at tree.splits t).leaf) (omega arith) (omega arith) lies above);
      }

  at_next : (t : ℕ) → t < length tree.splits → At t → At (suc t)
  at_next t h at = elim (same_or_other (split_at tree.splits t).leaf at.node) [
    | inl e ↦
        let s = split_at tree.splits t in
        at_half t h (subst (λ (m : ℕ). Allows n p (bound_after n tree t m)) (sym e) at.allows)
        (lies-half n p (box_after n tree.splits t s.leaf) s.coord s.cut (subst (λ (m : ℕ). LiesIn n p (box_after n tree.splits t m)) (sym e) at.lies))
    | inr d ↦
        let old : at.node < 2 * t + 1 = omega (arith, at.leaf.there, length_before tree.splits t (omega arith)) in
        record {
          node = at.node;
          leaf = subst (λ (m : ℕ). IsLeaf (take m tree.splits) at.node) (add-one t) (leaf_kept tree.splits t at.node h at.leaf d);
          lies = subst (LiesIn n p) (sym (box_kept n tree.splits t at.node old)) at.lies;
          allows = subst (Allows n p) (sym (old_bound n tree t at.node old)) at.allows;
        }
  ]

  at_all : (t : ℕ) → t ≤ length tree.splits → At t
  at_all zero h = at_root
  at_all (suc t) h = at_next t (omega arith) (at_all t (omega arith))

  reached : (o : Option ℤ) → Allows n p o → (b : ℤ) × (o ≡ Some b) × ((b *ℤ pos p.base) ≤ℤ cost_of n p)
  reached None h = absurd h
  reached (Some b) h = (b, refl, h)

  pub lies-in_one : (leaves : List OpenLeaf) → AreLeaves n tree leaves → LiesInOne n tree leaves p
  lies-in_one leaves are =
      let at = at_all (length tree.splits) (omega arith) in
      let leaf = subst (λ s. IsLeaf s at.node) (take_all (length tree.splits) tree.splits (omega arith)) at.leaf in
      let r = reached (node_bound n tree at.node) at.allows in
      let bounded : leaf_bound n tree at.node ≡ Some r.0 = cc (leaf.uncut, r.1) in
      let this : OpenLeaf = record { bound = r.0; node = at.node } in
      record { leaf = this; listed = (are.members this).1 (leaf.there, bounded); lies = at.lies; costs = r.2 }

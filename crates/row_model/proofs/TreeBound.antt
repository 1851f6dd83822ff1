-- Every plan that obeys costs at least the bound of a tree, and where a tree has none no plan obeys.
use Rattle.std.proofs.Common.{◌≡◌, ℕ, zero, suc, ◌+◌, ◌*◌, ◌<◌, ◌≤◌, ◌⊎◌, inl, inr, ◌==◌, if◌then◌else◌, length, Option, Some, None, option_map, ℤ, pos, ◌*ℤ◌, ◌≤ℤ◌, arith, refl, sym, ap, subst}
use Rattle.std.specs.Int.{int_max}
use Rattle.std.proofs.lemmas.Int.{clamps}
use Rattle.std.proofs.lemmas.Bool.{cases_lt}
use Rattle.std.proofs.lemmas.Option.{none-some}
use Rattle.std.specs.Prelude.{unwrap_or}
use borrow.Author.Differences.{up, down}
use Rattle.integers.proofs.Ring.{additive, mul_comm_ℤ}
use Rattle.integers.proofs.Order.{le-mul, le_trans_ℤ}
use Rattle.integers.proofs.AtKey.{same_or_other, chosen, passed}
use Rattle.pool_model.specs.Network.{Net, IsLimited}
use Rattle.pool_model.specs.Plan.{Plan, Obeys, cost_of}
use Rattle.pool_model.specs.Claim.{IsBound, HasNoPlan}
use Rattle.pool_model.specs.Starting.{reach_bound}
use Rattle.pool_model.proofs.Reach.{Reaches, Reaches-least_below, reach_bound-holds}
use Rattle.row_model.specs.Boxes.{Box, IsProper, LiesIn, coord_at, place, place_base, left_of, right_of}
use Rattle.row_model.specs.Multipliers.{Shown, bound, no_plan, shown_by, HoldsIn}
use Rattle.row_model.specs.Trees.{split_at, left_node, right_node, nodes, IsLeaf, box_after, box_of, Tree, IsTree, raised, own, bound_after, node_bound, leaf_bound, tree_bound}
use Rattle.row_model.proofs.RootBox.{root-proper, lies-root}
use Rattle.row_model.proofs.Halves.{lies-half, left-proper, right-proper}
use Rattle.row_model.proofs.Duality.{proof-holds}
use Rattle.row_model.proofs.TreeLaw.{box_is, leaf-found, left_box, right_box, box_kept, length_before, same_node, other_leaf as other_node}

-- ---- a half lies in its box

scaled_below : (a b : ℤ) (m : ℕ) → a ≤ℤ b → (a *ℤ pos m) ≤ℤ (b *ℤ pos m)
scaled_below a b m h = rw (mul_comm_ℤ a (pos m), mul_comm_ℤ b (pos m)) (le-mul (pos m) a b (omega (arith, additive)) h)

-- an end that is moved inwards at one coordinate
capped : (high : ℕ → ℤ) (c coord : ℕ) (cut : ℤ) → cut ≤ℤ high coord → (if c == coord then cut else high c) ≤ℤ high c
capped high c coord cut h = elim (same_or_other c coord) [
  | inl e ↦ omega (arith, additive, h, chosen c coord cut (high c) e, ap high e)
  | inr d ↦ omega (arith, additive, passed c coord cut (high c) d)
]

lifted : (low : ℕ → ℤ) (c coord : ℕ) (cut : ℤ) → low coord ≤ℤ cut → low c ≤ℤ (if c == coord then cut else low c)
lifted low c coord cut h = elim (same_or_other c coord) [
  | inl e ↦ omega (arith, additive, h, chosen c coord cut (low c) e, ap low e)
  | inr d ↦ omega (arith, additive, passed c coord cut (low c) d)
]

lies_in_left : (n : Net) (p : Plan) (b : Box) (coord : ℕ) (cut : ℤ) → cut ≤ℤ b.high coord → LiesIn n p (left_of b coord cut) → LiesIn n p b
lies_in_left n p b coord cut h lies = record {
  low = lies.low;
  high = λ c lt. le_trans_ℤ (place n p (coord_at n c)) ((if c == coord then cut else b.high c) *ℤ pos (place_base n p (coord_at n c))) (b.high c *ℤ pos (place_base n p (coord_at n c)))
      (lies.high c lt) (scaled_below (if c == coord then cut else b.high c) (b.high c) (place_base n p (coord_at n c)) (capped b.high c coord cut h));
}

lies_in_right : (n : Net) (p : Plan) (b : Box) (coord : ℕ) (cut : ℤ) → b.low coord ≤ℤ cut → LiesIn n p (right_of b coord cut) → LiesIn n p b
lies_in_right n p b coord cut h lies = record {
  low = λ c lt. le_trans_ℤ (b.low c *ℤ pos (place_base n p (coord_at n c))) ((if c == coord then cut else b.low c) *ℤ pos (place_base n p (coord_at n c))) (place n p (coord_at n c))
      (scaled_below (b.low c) (if c == coord then cut else b.low c) (place_base n p (coord_at n c)) (lifted b.low c coord cut h)) (lies.low c lt);
  high = lies.high;
}

-- ---- what a bound says of a plan

-- the plan costs at least that; None is that there is no plan
abbrev pub Allows : Net → Plan → Option ℤ → Type 0
Allows n p None = ⊥
Allows n p (Some b) = (b *ℤ pos p.base) ≤ℤ cost_of n p

abbrev AllowsShown : Net → Plan → Shown → Type 0
AllowsShown n p (bound z) = (z *ℤ pos p.base) ≤ℤ cost_of n p
AllowsShown n p no_plan = ⊥

max_either : (a b : ℤ) → (int_max a b ≡ a) ⊎ (int_max a b ≡ b)
max_either a b = elim (cases_lt (up a + down b) (up b + down a)) [ inl h ↦ inr (omega (arith, additive, clamps)) | inr h ↦ inl (omega (arith, additive, clamps)) ]

max-scaled : (a b d c : ℤ) → (a *ℤ d) ≤ℤ c → (b *ℤ d) ≤ℤ c → (int_max a b *ℤ d) ≤ℤ c
max-scaled a b d c h k = elim (max_either a b) [
  | inl e ↦ subst (λ m. (m *ℤ d) ≤ℤ c) (sym e) h
  | inr e ↦ subst (λ m. (m *ℤ d) ≤ℤ c) (sym e) k
]

raised-allows : (n : Net) (p : Plan) (o : Option ℤ) (s : Option Shown) → Allows n p o → ((z : Shown) → s ≡ Some z → AllowsShown n p z) → Allows n p (raised o s)
raised-allows n p None s h k = h
raised-allows n p (Some b) None h k = h
raised-allows n p (Some b) (Some (bound z)) h k = max-scaled b z (pos p.base) (cost_of n p) h (k (bound z) refl)
raised-allows n p (Some b) (Some no_plan) h k = k no_plan refl

-- what holds in a box that a plan lies in
shown-allows : (n : Net) (p : Plan) (b : Box) (z : Shown) → Obeys n p → LiesIn n p b → HoldsIn n b z → AllowsShown n p z
shown-allows n p b (bound z) obeys lies holds = holds p obeys lies
shown-allows n p b no_plan obeys lies holds = holds p obeys lies

some_mapped : {X Y : Type 0} (f : X → Y) (o : Option X) (y : Y) → option_map f o ≡ Some y → (x : X) × (o ≡ Some x) × (f x ≡ y)
some_mapped f None y e = absurd (none-some y e)
some_mapped f (Some x) y e = (x, refl, ap (λ o. unwrap_or o y) e)

-- ---- the boxes and bounds of nodes

-- a node of the first so many splits and one more is a new one, or stood before
pub which_node : (t node : ℕ) → node < 2 * suc t + 1 → (node ≡ left_node t) ⊎ ((node ≡ right_node t) ⊎ (node < 2 * t + 1))
which_node t node h = elim (same_or_other node (left_node t)) [
  | inl e ↦ inl e
  | inr d ↦ elim (same_or_other node (right_node t)) [ inl e ↦ inr (inl e) | inr f ↦ inr (inr (omega arith)) ]
]

pub old_bound : (n : Net) (tree : Tree) (t node : ℕ) → node < 2 * t + 1 → bound_after n tree (suc t) node ≡ bound_after n tree t node
old_bound n tree t node h = cc (other_node node (left_node t) (omega arith), other_node node (right_node t) (omega arith))

pub new_left : (n : Net) (tree : Tree) (t : ℕ) → bound_after n tree (suc t) (left_node t) ≡ raised (bound_after n tree t (split_at tree.splits t).leaf) (own n tree (left_node t))
new_left n tree t = cc (same_node (left_node t))

pub new_right : (n : Net) (tree : Tree) (t : ℕ) → bound_after n tree (suc t) (right_node t) ≡ raised (bound_after n tree t (split_at tree.splits t).leaf) (own n tree (right_node t))
new_right n tree t = cc (other_node (right_node t) (left_node t) (omega arith), same_node (right_node t))

module _ (n : Net) (tree : Tree) (limited : IsLimited n) (is : IsTree n tree) where
  leaf_there : (t : ℕ) → t < length tree.splits → (split_at tree.splits t).leaf < 2 * t + 1
  leaf_there t h = omega (arith, (is.splits t h).leaf.there, length_before tree.splits t (omega arith))

  -- each node's box is proper
  box-proper : (t node : ℕ) → t ≤ length tree.splits → node < 2 * t + 1 → IsProper n (box_after n tree.splits t node)
  box-proper zero node h k = root-proper n limited
  box-proper (suc t) node h k =
      let order = is.splits t (omega arith) in
      let s = split_at tree.splits t in
      let parent = box-proper t s.leaf (omega arith) (leaf_there t (omega arith)) in
      let b = box_after n tree.splits t s.leaf in
      elim (which_node t node k) [
        | inl e ↦ subst (λ m. IsProper n (box_after n tree.splits (suc t) m)) (sym e) (subst (IsProper n) (sym (left_box n tree.splits t)) (left-proper n b s.coord s.cut parent order.low order.high))
        | inr r ↦ elim r [
          | inl e ↦ subst (λ m. IsProper n (box_after n tree.splits (suc t) m)) (sym e)
              (subst (IsProper n) (sym (right_box n tree.splits t)) (right-proper n b s.coord s.cut parent order.low order.high))
          | inr l ↦ subst (IsProper n) (sym (box_kept n tree.splits t node l)) (box-proper t node (omega arith) l)
        ]
      ]

  pub node-proper : (node : ℕ) → node < nodes tree.splits → IsProper n (box_of n tree.splits node)
  node-proper node h = box-proper (length tree.splits) node (omega arith) h

  module _ (p : Plan) (obeys : Obeys n p) where
    -- what a node's own proof shows of a plan in its box
    own-allows : (node : ℕ) → LiesIn n p (box_of n tree.splits node) → (z : Shown) → own n tree node ≡ Some z → AllowsShown n p z
    own-allows node lies z e =
        let it = some_mapped (shown_by n (box_of n tree.splits node)) (tree.proof node) z e in
        shown-allows n p (box_of n tree.splits node) z obeys lies
        (subst (HoldsIn n (box_of n tree.splits node)) it.2 (proof-holds n (box_of n tree.splits node) it.0 limited (is.proofs node it.0 it.1)))

    own-after : (t node : ℕ) → t ≤ length tree.splits → node < 2 * t + 1 → LiesIn n p (box_after n tree.splits t node) → (z : Shown) → own n tree node ≡ Some z → AllowsShown n p z
    own-after t node h k lies = own-allows node (subst (LiesIn n p) (sym (box_is n tree.splits t node h k)) lies)

    -- a plan in a node's box costs at least the node's bound
    bound-allows : (t node : ℕ) → t ≤ length tree.splits → node < 2 * t + 1 → LiesIn n p (box_after n tree.splits t node) → Allows n p (bound_after n tree t node)
    bound-allows zero node h k lies = raised-allows n p (Some (reach_bound n)) (own n tree node) (reach_bound-holds n limited p obeys) (own-after zero node h k lies)
    bound-allows (suc t) node h k lies =
        let order = is.splits t (omega arith) in
        let s = split_at tree.splits t in
        let b = box_after n tree.splits t s.leaf in
        let above = λ (inside : LiesIn n p b). bound-allows t s.leaf (omega arith) (leaf_there t (omega arith)) inside in
        let here = λ (m : ℕ) (lt : m < 2 * suc t + 1) (in_box : LiesIn n p (box_after n tree.splits (suc t) m)) (inside : LiesIn n p b).
        raised-allows n p (bound_after n tree t s.leaf) (own n tree m) (above inside) (own-after (suc t) m h lt in_box) in
        elim (which_node t node k) [
          | inl e ↦ let lies_left = subst (λ m. LiesIn n p (box_after n tree.splits (suc t) m)) e lies in
              subst (λ m. Allows n p (bound_after n tree (suc t) m)) (sym e)
              (subst (Allows n p) (sym (new_left n tree t)) (here (left_node t) (omega arith) lies_left
              (lies_in_left n p b s.coord s.cut (omega (arith, additive, order.high)) (subst (LiesIn n p) (left_box n tree.splits t) lies_left))))
          | inr r ↦ elim r [
            | inl e ↦ let lies_right = subst (λ m. LiesIn n p (box_after n tree.splits (suc t) m)) e lies in
                subst (λ m. Allows n p (bound_after n tree (suc t) m)) (sym e)
                (subst (Allows n p) (sym (new_right n tree t)) (here (right_node t) (omega arith) lies_right
                (lies_in_right n p b s.coord s.cut (omega (arith, additive, order.low)) (subst (LiesIn n p) (right_box n tree.splits t) lies_right))))
            | inr l ↦ subst (Allows n p) (sym (old_bound n tree t node l))
                (bound-allows t node (omega arith) l (subst (LiesIn n p) (box_kept n tree.splits t node l) lies))
          ]
        ]

    pub found-leaf : (node : ℕ) × IsLeaf tree.splits node × LiesIn n p (box_of n tree.splits node)
    found-leaf = leaf-found n (LiesIn n p) (lies-half n p) tree.splits is.splits (lies-root n p limited obeys)

    leaf-reaches : (o : Option ℤ) → Allows n p o → (b : ℤ) × (o ≡ Some b) × ((b *ℤ pos p.base) ≤ℤ cost_of n p)
    leaf-reaches None h = absurd h
    leaf-reaches (Some b) h = (b, refl, h)

    -- the tree's bound is there, and the plan costs at least that
    pub tree-allows : Allows n p (tree_bound n tree)
    tree-allows =
        let f = found-leaf in
        let at = leaf-reaches (node_bound n tree f.0) (bound-allows (length tree.splits) f.0 (omega arith) f.1.there f.2) in
        let leaf : leaf_bound n tree f.0 ≡ Some at.0 = cc (f.1.uncut, at.1) in
        least-allows (tree_bound n tree) at.0
        (Reaches-least_below (leaf_bound n tree) (nodes tree.splits) f.0 at.0 f.1.there (subst (λ (o : Option ℤ). Reaches o at.0) (sym leaf) (omega (arith, additive)))) at.2
      where
        least-allows : (o : Option ℤ) (b : ℤ) → Reaches o b → (b *ℤ pos p.base) ≤ℤ cost_of n p → Allows n p o
        least-allows None b r h = r
        least-allows (Some c) b r h = le_trans_ℤ (c *ℤ pos p.base) (b *ℤ pos p.base) (cost_of n p) (scaled_below c b p.base r) h

pub tree-bound : (n : Net) (tree : Tree) (z : ℤ) → IsLimited n → IsTree n tree → tree_bound n tree ≡ Some z → IsBound n z
tree-bound n tree z limited is e p obeys = subst (Allows n p) e (tree-allows n tree limited is p obeys)

pub tree-empty : (n : Net) (tree : Tree) → IsLimited n → IsTree n tree → tree_bound n tree ≡ None → HasNoPlan n
tree-empty n tree limited is e p obeys = subst (Allows n p) e (tree-allows n tree limited is p obeys)

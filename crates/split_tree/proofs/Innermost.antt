-- The box of a node by its innermost cuts: from the node up to the root, the least of the right ends and the greatest of the left ones.
use Rattle.std.proofs.Common.{◌≡◌, ◌≢◌, ℕ, suc, ◌+◌, ◌-◌, ◌*◌, ◌/◌, ◌%◌, ◌<◌, inl, inr, ◌==◌, if◌then◌else◌, List}
use Rattle.std.proofs.Common.{length, get_or, set, ℤ, pos, ◌≤ℤ◌, ◌<ℤ◌, arith, sym, ap, subst, ◌∙◌, get_or-set_same, get_or-set_other, map}
use Rattle.std.specs.Int.{int_min, int_max}
use Rattle.std.proofs.lemmas.Int.{clamps}
use Rattle.std.proofs.lemmas.Option.{none-some}
use Rattle.std.proofs.lemmas.List.{length-set, get_or-map, length-map}
use Rattle.integers.proofs.Ring.{additive}
use Rattle.integers.proofs.AtKey.{same_or_other, chosen, passed}
use Rattle.pool_model.specs.Network.{Net, IsLimited}
use Rattle.row_model.specs.Boxes.{Box, coords, root, left_of, right_of}
use Rattle.row_model.specs.Trees.{Split, no_split, split_at, left_node, right_node, nodes, box_of, Tree, IsTree}
use Rattle.row_model.proofs.TreeLaw.{box_is, left_box, right_box, length_before}
use Rattle.row_model.proofs.TreeBound.{node-proper}
use Rattle.box_space.specs.Views.{AreEndsOf, shown_split}
use Rattle.box_space.proofs.Halving.{agree-ends}
use Rattle.box_space.specs.declared.boxes.BoxEnds.{BoxEnds}
use Rattle.box_space.specs.declared.coordinates.Split.{Split as HeldSplit}
use Rattle.split_tree.specs.Splits.{Splits, tree_of, IsOf}

-- splits of a network are a tree without proofs
pub tree-of : (n : Net) (t : Splits) → IsOf n t → IsTree n (tree_of t.list)
tree-of n t is = record { few = is.few; splits = is.in_order; placed = λ node proof e. absurd (none-some proof e); proofs = λ node proof e. absurd (none-some proof e) }

-- ---- the box of a child

pub leaf_before : (n : Net) (tree : Tree) (t : ℕ) → IsTree n tree → t < length tree.splits → (split_at tree.splits t).leaf < left_node t
leaf_before n tree t is h = omega (arith, (is.splits t h).leaf.there, length_before tree.splits t (omega arith))

-- and is a node of the tree
pub leaf_there : (n : Net) (tree : Tree) (t : ℕ) → IsTree n tree → t < length tree.splits → (split_at tree.splits t).leaf < nodes tree.splits
leaf_there n tree t is h = omega (arith, h, leaf_before n tree t is h)

pub child_left : (n : Net) (tree : Tree) (t : ℕ) → IsTree n tree → t < length tree.splits
    → box_of n tree.splits (left_node t) ≡ left_of (box_of n tree.splits (split_at tree.splits t).leaf) (split_at tree.splits t).coord (split_at tree.splits t).cut
child_left n tree t is h =
    let s = split_at tree.splits t in
    box_is n tree.splits (suc t) (left_node t) (omega arith) (omega arith)
    ∙ left_box n tree.splits t
    ∙ ap (λ (b : Box). left_of b s.coord s.cut) (sym (box_is n tree.splits t s.leaf (omega arith) (leaf_before n tree t is h)))

pub child_right : (n : Net) (tree : Tree) (t : ℕ) → IsTree n tree → t < length tree.splits
    → box_of n tree.splits (right_node t) ≡ right_of (box_of n tree.splits (split_at tree.splits t).leaf) (split_at tree.splits t).coord (split_at tree.splits t).cut
child_right n tree t is h =
    let s = split_at tree.splits t in
    box_is n tree.splits (suc t) (right_node t) (omega arith) (omega arith)
    ∙ right_box n tree.splits t
    ∙ ap (λ (b : Box). right_of b s.coord s.cut) (sym (box_is n tree.splits t s.leaf (omega arith) (leaf_before n tree t is h)))

-- the cut of a split lies inside the box of its leaf
cut_low : (n : Net) (tree : Tree) (t : ℕ) → IsTree n tree → t < length tree.splits
    → (box_of n tree.splits (split_at tree.splits t).leaf).low (split_at tree.splits t).coord <ℤ (split_at tree.splits t).cut
cut_low n tree t is h =
    let s = split_at tree.splits t in
    subst (λ (b : Box). b.low s.coord <ℤ s.cut) (sym (box_is n tree.splits t s.leaf (omega arith) (leaf_before n tree t is h))) (is.splits t h).low

cut_high : (n : Net) (tree : Tree) (t : ℕ) → IsTree n tree → t < length tree.splits
    → (split_at tree.splits t).cut <ℤ (box_of n tree.splits (split_at tree.splits t).leaf).high (split_at tree.splits t).coord
cut_high n tree t is h =
    let s = split_at tree.splits t in
    subst (λ (b : Box). s.cut <ℤ b.high s.coord) (sym (box_is n tree.splits t s.leaf (omega arith) (leaf_before n tree t is h))) (is.splits t h).high

-- ---- the ends so far

-- With the ends so far, from the node up to another, that one's box gives the node's.
pub record IsSoFar (n : Net) (splits : List Split) (node at : ℕ) (low high : List ℤ) : Type 0 where
  pub there : at < nodes splits
  pub lows : length low ≡ coords n
  pub highs : length high ≡ coords n
  pub above : (c : ℕ) → c < coords n → (root n).low c ≤ℤ get_or low c (pos 0)
  pub below : (c : ℕ) → c < coords n → get_or high c (pos 0) ≤ℤ (root n).high c
  pub least : (c : ℕ) → c < coords n → (box_of n splits node).low c ≡ int_max (get_or low c (pos 0)) ((box_of n splits at).low c)
  pub greatest : (c : ℕ) → c < coords n → (box_of n splits node).high c ≡ int_min (get_or high c (pos 0)) ((box_of n splits at).high c)

max_right : (a b : ℤ) → a ≤ℤ b → b ≡ int_max a b
max_right a b h = omega (arith, additive, clamps)

min_right : (a b : ℤ) → b ≤ℤ a → b ≡ int_min a b
min_right a b h = omega (arith, additive, clamps)

max_left : (a b : ℤ) → b ≤ℤ a → int_max a b ≡ a
max_left a b h = omega (arith, additive, clamps)

min_left : (a b : ℤ) → a ≤ℤ b → int_min a b ≡ a
min_left a b h = omega (arith, additive, clamps)

at_most : (a b : ℤ) → a ≡ b → a ≤ℤ b
at_most a b e = omega (arith, additive, e)

pub so_far-first : (n : Net) (tree : Tree) (node : ℕ) (low high : List ℤ) → IsLimited n → IsTree n tree → node < nodes tree.splits → length low ≡ coords n → length high ≡ coords n
    → ((c : ℕ) → c < coords n → get_or low c (pos 0) ≡ (root n).low c) → ((c : ℕ) → c < coords n → get_or high c (pos 0) ≡ (root n).high c)
    → IsSoFar n tree.splits node node low high
so_far-first n tree node low high lim is there lows highs l h =
    let proper = node-proper n tree lim is node there in
    record {
      there = there;
      lows = lows;
      highs = highs;
      above = λ c lt. at_most ((root n).low c) (get_or low c (pos 0)) (sym (l c lt));
      below = λ c lt. at_most (get_or high c (pos 0)) ((root n).high c) (h c lt);
      least = λ c lt. max_right (get_or low c (pos 0)) ((box_of n tree.splits node).low c) (subst (λ (z : ℤ). z ≤ℤ (box_of n tree.splits node).low c) (sym (l c lt)) (proper.low c lt));
      greatest = λ c lt. min_right (get_or high c (pos 0)) ((box_of n tree.splits node).high c) (subst (λ (z : ℤ). (box_of n tree.splits node).high c ≤ℤ z) (sym (h c lt)) (proper.high c lt));
    }

-- an end that is lowered at one coordinate
lowered : (xs : List ℤ) (coord c : ℕ) (cut old : ℤ) (high : ℕ → ℤ) → coord < length xs → cut <ℤ high coord → old ≡ int_min (get_or xs c (pos 0)) (if c == coord then cut else high c)
    → old ≡ int_min (get_or (set xs coord (int_min (get_or xs coord (pos 0)) cut)) c (pos 0)) (high c)
lowered xs coord c cut old high lt inside e = elim (same_or_other c coord) [
  | inl s ↦
      subst (λ (i : ℕ). old ≡ int_min (get_or (set xs coord (int_min (get_or xs coord (pos 0)) cut)) i (pos 0)) (high i)) (sym s)
      (e ∙ ap (λ (i : ℕ). int_min (get_or xs i (pos 0)) (if c == coord then cut else high c)) s
      ∙ ap (λ (z : ℤ). int_min (get_or xs coord (pos 0)) z) (chosen c coord cut (high c) s)
      ∙ sym (min_left (int_min (get_or xs coord (pos 0)) cut) (high coord) (omega (arith, additive, clamps, inside)))
      ∙ ap (λ (z : ℤ). int_min z (high coord)) (sym (get_or-set_same xs coord (int_min (get_or xs coord (pos 0)) cut) (pos 0) lt)))
  | inr d ↦
      e ∙ ap (λ (z : ℤ). int_min (get_or xs c (pos 0)) z) (passed c coord cut (high c) d)
      ∙ ap (λ (z : ℤ). int_min z (high c)) (sym (get_or-set_other xs coord c (int_min (get_or xs coord (pos 0)) cut) (pos 0) d))
]

raised : (xs : List ℤ) (coord c : ℕ) (cut old : ℤ) (low : ℕ → ℤ) → coord < length xs → low coord <ℤ cut → old ≡ int_max (get_or xs c (pos 0)) (if c == coord then cut else low c)
    → old ≡ int_max (get_or (set xs coord (int_max (get_or xs coord (pos 0)) cut)) c (pos 0)) (low c)
raised xs coord c cut old low lt inside e = elim (same_or_other c coord) [
  | inl s ↦
      subst (λ (i : ℕ). old ≡ int_max (get_or (set xs coord (int_max (get_or xs coord (pos 0)) cut)) i (pos 0)) (low i)) (sym s)
      (e ∙ ap (λ (i : ℕ). int_max (get_or xs i (pos 0)) (if c == coord then cut else low c)) s
      ∙ ap (λ (z : ℤ). int_max (get_or xs coord (pos 0)) z) (chosen c coord cut (low c) s)
      ∙ sym (max_left (int_max (get_or xs coord (pos 0)) cut) (low coord) (omega (arith, additive, clamps, inside)))
      ∙ ap (λ (z : ℤ). int_max z (low coord)) (sym (get_or-set_same xs coord (int_max (get_or xs coord (pos 0)) cut) (pos 0) lt)))
  | inr d ↦
      e ∙ ap (λ (z : ℤ). int_max (get_or xs c (pos 0)) z) (passed c coord cut (low c) d)
      ∙ ap (λ (z : ℤ). int_max z (low c)) (sym (get_or-set_other xs coord c (int_max (get_or xs coord (pos 0)) cut) (pos 0) d))
]

-- what holds of each number holds after one is changed to a number of which it holds
set-each : (P : ℕ → ℤ → Type 0) (xs : List ℤ) (coord c : ℕ) (new : ℤ) → coord < length xs → P coord new → P c (get_or xs c (pos 0)) → P c (get_or (set xs coord new) c (pos 0))
set-each P xs coord c new lt here old = elim (same_or_other c coord) [
  | inl s ↦ subst (λ (i : ℕ). P i (get_or (set xs coord new) i (pos 0))) (sym s) (subst (λ (z : ℤ). P coord z) (sym (get_or-set_same xs coord new (pos 0) lt)) here)
  | inr d ↦ subst (λ (z : ℤ). P c z) (sym (get_or-set_other xs coord c new (pos 0) d)) old
]

lower_still : (a b c : ℤ) → a ≤ℤ c → int_min a b ≤ℤ c
lower_still a b c h = omega (arith, additive, clamps)

higher_still : (a b c : ℤ) → c ≤ℤ a → c ≤ℤ int_max a b
higher_still a b c h = omega (arith, additive, clamps)

pub so_far-left : (n : Net) (tree : Tree) (node at t : ℕ) (low high : List ℤ) → IsTree n tree → at ≡ left_node t → t < length tree.splits → IsSoFar n tree.splits node at low high
    → IsSoFar n tree.splits node (split_at tree.splits t).leaf low (set high (split_at tree.splits t).coord (int_min (get_or high (split_at tree.splits t).coord (pos 0)) (split_at tree.splits t).cut))
so_far-left n tree node at t low high is e lt so_far =
    let s = split_at tree.splits t in
    let above = box_of n tree.splits s.leaf in
    let box : box_of n tree.splits at ≡ left_of above s.coord s.cut = ap (box_of n tree.splits) e ∙ child_left n tree t is lt in
    let known = (is.splits t lt).coord in
    let room : s.coord < length high = omega (arith, known, so_far.highs) in
    record {
      there = omega (arith, leaf_before n tree t is lt);
      lows = so_far.lows;
      highs = length-set high s.coord (int_min (get_or high s.coord (pos 0)) s.cut) ∙ so_far.highs;
      above = so_far.above;
      below = λ c h. set-each (λ i z. z ≤ℤ (root n).high i) high s.coord c (int_min (get_or high s.coord (pos 0)) s.cut) room
          (lower_still (get_or high s.coord (pos 0)) s.cut ((root n).high s.coord) (so_far.below s.coord known)) (so_far.below c h);
      least = λ c h. so_far.least c h ∙ ap (λ (b : Box). int_max (get_or low c (pos 0)) (b.low c)) box;
      greatest = λ c h. lowered high s.coord c s.cut ((box_of n tree.splits node).high c) above.high room (cut_high n tree t is lt)
          (so_far.greatest c h ∙ ap (λ (b : Box). int_min (get_or high c (pos 0)) (b.high c)) box);
    }

pub so_far-right : (n : Net) (tree : Tree) (node at t : ℕ) (low high : List ℤ) → IsTree n tree → at ≡ right_node t → t < length tree.splits → IsSoFar n tree.splits node at low high
    → IsSoFar n tree.splits node (split_at tree.splits t).leaf (set low (split_at tree.splits t).coord (int_max (get_or low (split_at tree.splits t).coord (pos 0)) (split_at tree.splits t).cut)) high
so_far-right n tree node at t low high is e lt so_far =
    let s = split_at tree.splits t in
    let above = box_of n tree.splits s.leaf in
    let box : box_of n tree.splits at ≡ right_of above s.coord s.cut = ap (box_of n tree.splits) e ∙ child_right n tree t is lt in
    let known = (is.splits t lt).coord in
    let room : s.coord < length low = omega (arith, known, so_far.lows) in
    record {
      there = omega (arith, leaf_before n tree t is lt);
      lows = length-set low s.coord (int_max (get_or low s.coord (pos 0)) s.cut) ∙ so_far.lows;
      highs = so_far.highs;
      above = λ c h. set-each (λ i z. (root n).low i ≤ℤ z) low s.coord c (int_max (get_or low s.coord (pos 0)) s.cut) room
          (higher_still (get_or low s.coord (pos 0)) s.cut ((root n).low s.coord) (so_far.above s.coord known)) (so_far.above c h);
      below = so_far.below;
      least = λ c h. raised low s.coord c s.cut ((box_of n tree.splits node).low c) above.low room (cut_low n tree t is lt)
          (so_far.least c h ∙ ap (λ (b : Box). int_max (get_or low c (pos 0)) (b.low c)) box);
      greatest = λ c h. so_far.greatest c h ∙ ap (λ (b : Box). int_min (get_or high c (pos 0)) (b.high c)) box;
    }

-- ---- the ends at the root

pub so_far-last : (n : Net) (tree : Tree) (node at : ℕ) (e : BoxEnds) → IsLimited n → IsTree n tree → node < nodes tree.splits → at ≡ 0 → IsSoFar n tree.splits node at e.low.items e.high.items
    → AreEndsOf n (box_of n tree.splits node) e
so_far-last n tree node at e lim is there last so_far =
    let top : box_of n tree.splits at ≡ root n = ap (box_of n tree.splits) last ∙ box_is n tree.splits 0 0 (omega arith) (omega arith) in
    agree-ends n (box_of n tree.splits node) e (node-proper n tree lim is node there) so_far.lows so_far.highs record {
      low = λ c h. sym (so_far.least c h ∙ ap (λ (b : Box). int_max (get_or e.low.items c (pos 0)) (b.low c)) top ∙ max_left (get_or e.low.items c (pos 0)) ((root n).low c) (so_far.above c h));
      high = λ c h. sym (so_far.greatest c h ∙ ap (λ (b : Box). int_min (get_or e.high.items c (pos 0)) (b.high c)) top
          ∙ min_left (get_or e.high.items c (pos 0)) ((root n).high c) (so_far.below c h));
    }

-- ---- splits as code holds them

-- what stands behind the end of a list of them
abbrev pub no_held : HeldSplit
no_held = record { leaf = 0; coord = 0; cut = pos 0 }

pub held_at : (held : List HeldSplit) (splits : List Split) (t : ℕ) → map shown_split held ≡ splits → t < length splits → shown_split (get_or held t no_held) ≡ split_at splits t
held_at held splits t e h =
    sym (get_or-map shown_split held t no_held no_split (subst (λ (l : ℕ). t < l) (ap (λ (xs : List Split). length xs) (sym e) ∙ length-map held shown_split) h))
    ∙ ap (λ (xs : List Split). get_or xs t no_split) e

pub parent_below : (at l : ℕ) → 0 < at → at < 2 * l + 1 → (at - 1) / 2 < l
parent_below at l h k = omega arith

pub walked-left : (n : Net) (tree : Tree) (node at : ℕ) (low high : List ℤ) (held : List HeldSplit) → IsTree n tree
    → map shown_split held ≡ tree.splits → 0 < at → at % 2 ≡ 1 → IsSoFar n tree.splits node at low high
    → IsSoFar n tree.splits node (get_or held ((at - 1) / 2) no_held).leaf low
    (set high (get_or held ((at - 1) / 2) no_held).coord (int_min (get_or high (get_or held ((at - 1) / 2) no_held).coord (pos 0)) (get_or held ((at - 1) / 2) no_held).cut))
walked-left n tree node at low high held is e some odd so_far =
    let t = (at - 1) / 2 in
    let there = parent_below at (length tree.splits) some so_far.there in
    subst (λ (s : Split). IsSoFar n tree.splits node s.leaf low (set high s.coord (int_min (get_or high s.coord (pos 0)) s.cut))) (sym (held_at held tree.splits t e there))
    (so_far-left n tree node at t low high is (omega arith) there so_far)

pub walked-right : (n : Net) (tree : Tree) (node at : ℕ) (low high : List ℤ) (held : List HeldSplit) → IsTree n tree
    → map shown_split held ≡ tree.splits → 0 < at → at % 2 ≢ 1 → IsSoFar n tree.splits node at low high
    → IsSoFar n tree.splits node (get_or held ((at - 1) / 2) no_held).leaf
    (set low (get_or held ((at - 1) / 2) no_held).coord (int_max (get_or low (get_or held ((at - 1) / 2) no_held).coord (pos 0)) (get_or held ((at - 1) / 2) no_held).cut)) high
walked-right n tree node at low high held is e some even so_far =
    let t = (at - 1) / 2 in
    let there = parent_below at (length tree.splits) some so_far.there in
    subst (λ (s : Split). IsSoFar n tree.splits node s.leaf (set low s.coord (int_max (get_or low s.coord (pos 0)) s.cut)) high) (sym (held_at held tree.splits t e there))
    (so_far-right n tree node at t low high is (omega arith) there so_far)

-- what is known of the split above a node
pub record IsAbove (n : Net) (at : ℕ) (s : HeldSplit) : Type 0 where
  pub coord : s.coord < coords n
  pub leaf : s.leaf < at

pub above-held : (n : Net) (tree : Tree) (at : ℕ) (held : List HeldSplit) → IsTree n tree → map shown_split held ≡ tree.splits → 0 < at
    → at < nodes tree.splits → IsAbove n at (get_or held ((at - 1) / 2) no_held)
above-held n tree at held is e some there =
    let t = (at - 1) / 2 in
    let below = parent_below at (length tree.splits) some there in
    let same = held_at held tree.splits t e below in
    record {
      coord = subst (λ (s : Split). s.coord < coords n) (sym same) (is.splits t below).coord;
      leaf = subst (λ (s : Split). s.leaf < at) (sym same) (omega (arith, leaf_before n tree t is below));
    }

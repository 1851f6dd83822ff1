use Rattle.std.proofs.Common.{◌≡◌, ◌-◌, ◌/◌, List, length, get_or, set, ap, sym, subst, arith, rules, ◌∙◌, ℤ, pos, FitsSigned, to_z, of_z, to_z-of_z, vec_len}
use mir.Syntax.{w64}
use Rattle.std.specs.Int.{int_min, int_max}
use Rattle.pool_model.specs.Network.{net_of}
use Rattle.split_tree.specs.Splits.{tree_of}
use Rattle.split_tree.proofs.Innermost.{tree-of, IsSoFar, no_held, so_far-first, so_far-last, walked-left, walked-right, above-held}
use Rattle.split_tree.proofs.splits.SplitTree.climb.Goals as goal

pub loop-at-init : goal.loop-at-init
loop-at-init c =
    so_far-first (net_of c.args.net.now)
    (tree_of c.args.self.now.list) c.args.node c.args.ends.now.low.items c.args.ends.now.high.items c.requires.limited
    (tree-of (net_of c.args.net.now) c.args.self.now c.requires.tree) c.requires.there
    c.requires.root.lows c.requires.root.highs c.requires.root.low c.requires.root.high

pub bounds-as_slice-coord : goal.bounds-as_slice-coord
bounds-as_slice-coord c =
    let held = c.splits-splits.ensures in
    let above = above-held (net_of c.args.net.now) (tree_of c.args.self.now.list) c.loop-at.at c.splits-splits.result.now
    (tree-of (net_of c.args.net.now) c.args.self.now c.requires.tree) held c.loop-at-test.true c.loop-at.invariant.there in
    omega (arith, above.coord, c.loop-at.invariant.highs, ap (λ (xs : List ℤ). length xs) c.as_slice.ensures.value)

pub bounds-as_slice-coord-else-at-eq1 : goal.bounds-as_slice-coord-else-at-eq1
bounds-as_slice-coord-else-at-eq1 c =
    let held = c.splits-splits.ensures in
    let above = above-held (net_of c.args.net.now) (tree_of c.args.self.now.list) c.loop-at.at c.splits-splits.result.now
    (tree-of (net_of c.args.net.now) c.args.self.now c.requires.tree) held c.loop-at-test.true c.loop-at.invariant.there in
    omega (arith, above.coord, c.loop-at.invariant.lows, ap (λ (xs : List ℤ). length xs) c.as_slice-else-at-eq1.ensures.value)

pub index_mut-requires : goal.index_mut-requires
index_mut-requires c =
    let held = c.splits-splits.ensures in
    let above = above-held (net_of c.args.net.now) (tree_of c.args.self.now.list) c.loop-at.at c.splits-splits.result.now
    (tree-of (net_of c.args.net.now) c.args.self.now c.requires.tree) held c.loop-at-test.true c.loop-at.invariant.there in
    let room : length c.loop-at.ends.high.items ≡ vec_len c.loop-at.ends.high = search rules in
    omega (arith, above.coord, c.loop-at.invariant.highs, room)

pub index_mut-requires-else-at-eq1 : goal.index_mut-requires-else-at-eq1
index_mut-requires-else-at-eq1 c =
    let held = c.splits-splits.ensures in
    let above = above-held (net_of c.args.net.now) (tree_of c.args.self.now.list) c.loop-at.at c.splits-splits.result.now
    (tree-of (net_of c.args.net.now) c.args.self.now c.requires.tree) held c.loop-at-test.true c.loop-at.invariant.there in
    let room : length c.loop-at.ends.low.items ≡ vec_len c.loop-at.ends.low = search rules in
    omega (arith, above.coord, c.loop-at.invariant.lows, room)

pub loop-at-smaller-then-at-eq1 : goal.loop-at-smaller-then-at-eq1
loop-at-smaller-then-at-eq1 c =
    let held = c.splits-splits.ensures in
    let above = above-held (net_of c.args.net.now) (tree_of c.args.self.now.list) c.loop-at.at c.splits-splits.result.now
    (tree-of (net_of c.args.net.now) c.args.self.now c.requires.tree) held c.loop-at-test.true c.loop-at.invariant.there in
    above.leaf

pub loop-at-smaller : goal.loop-at-smaller
loop-at-smaller c =
    let held = c.splits-splits.ensures in
    let above = above-held (net_of c.args.net.now) (tree_of c.args.self.now.list) c.loop-at.at c.splits-splits.result.now
    (tree-of (net_of c.args.net.now) c.args.self.now c.requires.tree) held c.loop-at-test.true c.loop-at.invariant.there in
    above.leaf

pub loop-at-preserved-then-at-eq1 : goal.loop-at-preserved-then-at-eq1
loop-at-preserved-then-at-eq1 c =
    let held = c.splits-splits.ensures in
    let above = above-held (net_of c.args.net.now) (tree_of c.args.self.now.list) c.loop-at.at c.splits-splits.result.now
    (tree-of (net_of c.args.net.now) c.args.self.now c.requires.tree) held c.loop-at-test.true c.loop-at.invariant.there in
    let s = get_or c.splits-splits.result.now ((c.loop-at.at - 1) / 2) no_held in
    let fits : FitsSigned w64 c.min.result = search rules in
    let end_fits : FitsSigned w64 (get_or c.as_slice.result.now s.coord (pos 0)) = search rules in
    let cut_fits : FitsSigned w64 s.cut = search rules in
    let new : to_z w64 (of_z w64 c.min.result) ≡ int_min (get_or c.loop-at.ends.high.items s.coord (pos 0)) s.cut = to_z-of_z fits ∙ c.min.ensures.value
    ∙ ap (λ (z : ℤ). int_min z (to_z w64 (of_z w64 s.cut))) (to_z-of_z end_fits)
    ∙ ap (λ (z : ℤ). int_min (get_or c.as_slice.result.now s.coord (pos 0)) z) (to_z-of_z cut_fits) ∙ ap (λ (xs : List ℤ). int_min (get_or xs s.coord (pos 0)) s.cut) c.as_slice.ensures.value in
    subst (λ (z : ℤ). IsSoFar (net_of c.args.net.now) c.args.self.now.list c.args.node s.leaf c.loop-at.ends.low.items (set c.loop-at.ends.high.items s.coord z)) (sym new)
    (walked-left (net_of c.args.net.now)
    (tree_of c.args.self.now.list) c.args.node c.loop-at.at c.loop-at.ends.low.items c.loop-at.ends.high.items c.splits-splits.result.now
    (tree-of (net_of c.args.net.now) c.args.self.now c.requires.tree) held c.loop-at-test.true c.if-at-eq1.true c.loop-at.invariant)

pub loop-at-preserved : goal.loop-at-preserved
loop-at-preserved c =
    let held = c.splits-splits.ensures in
    let above = above-held (net_of c.args.net.now) (tree_of c.args.self.now.list) c.loop-at.at c.splits-splits.result.now
    (tree-of (net_of c.args.net.now) c.args.self.now c.requires.tree) held c.loop-at-test.true c.loop-at.invariant.there in
    let s = get_or c.splits-splits.result.now ((c.loop-at.at - 1) / 2) no_held in
    let fits : FitsSigned w64 c.max.result = search rules in
    let end_fits : FitsSigned w64 (get_or c.as_slice-else-at-eq1.result.now s.coord (pos 0)) = search rules in
    let cut_fits : FitsSigned w64 s.cut = search rules in
    let new : to_z w64 (of_z w64 c.max.result) ≡ int_max (get_or c.loop-at.ends.low.items s.coord (pos 0)) s.cut = to_z-of_z fits ∙ c.max.ensures.value
    ∙ ap (λ (z : ℤ). int_max z (to_z w64 (of_z w64 s.cut))) (to_z-of_z end_fits)
    ∙ ap (λ (z : ℤ). int_max (get_or c.as_slice-else-at-eq1.result.now s.coord (pos 0)) z) (to_z-of_z cut_fits)
    ∙ ap (λ (xs : List ℤ). int_max (get_or xs s.coord (pos 0)) s.cut) c.as_slice-else-at-eq1.ensures.value in
    subst (λ (z : ℤ). IsSoFar (net_of c.args.net.now) c.args.self.now.list c.args.node s.leaf (set c.loop-at.ends.low.items s.coord z) c.loop-at.ends.high.items) (sym new)
    (walked-right (net_of c.args.net.now)
    (tree_of c.args.self.now.list) c.args.node c.loop-at.at c.loop-at.ends.low.items c.loop-at.ends.high.items c.splits-splits.result.now
    (tree-of (net_of c.args.net.now) c.args.self.now c.requires.tree) held c.loop-at-test.true (search rules) c.loop-at.invariant)

pub returns : goal.returns
returns c =
    so_far-last (net_of c.args.net.now)
    (tree_of c.args.self.now.list) c.args.node c.loop-at.at c.loop-at.ends c.requires.limited
    (tree-of (net_of c.args.net.now) c.args.self.now c.requires.tree) c.requires.there (omega arith) c.loop-at.invariant

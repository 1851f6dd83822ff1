use Rattle.std.proofs.Common.{◌<◌, ◌+◌, ℤ, set, sym, subst, arith, rules, FitsSigned, to_z, of_z, to_z-of_z}
use mir.Syntax.{w64}
use Rattle.pool_model.specs.Network.{net_of}
use Rattle.row_model.specs.Boxes.{coords}
use Rattle.split_tree.proofs.Finding.{cut-on, IsFilled, filled-first, filled-past, filled-more, filled-last}
use Rattle.split_tree.proofs.splits.SplitTree.look_up.Goals as goal

pub half_span-span-requires-clause-there : goal.half_span-span-requires-clause-there
half_span-span-requires-clause-there c =
    (cut-on c.args.self.now.list c.loop-coord.coord c.innermost-at.result (omega (arith, c.if-at-eq0.false)) c.innermost-at.ensures).there

pub loop-coord-init : goal.loop-coord-init
loop-coord-init c = filled-first (net_of c.args.net.now) c.args.self.now.list c.args.node c.args.ends.now c.requires.root

pub loop-coord-preserved-then-at-eq0 : goal.loop-coord-preserved-then-at-eq0
loop-coord-preserved-then-at-eq0 c =
    let n = net_of c.args.net.now in
    let lt : c.loop-coord.coord < coords n = omega (arith, c.loop-coord-test.true, c.loop-coord.auto.coord-end, c.coords-coord-end.ensures.count) in
    filled-past n c.args.self.now c.args.node c.loop-coord.coord c.innermost-at.result c.loop-coord.ends.low.items c.loop-coord.ends.high.items
    c.requires.tree c.requires.there lt c.innermost-at.ensures c.if-at-eq0.true c.loop-coord.invariant

pub loop-coord-preserved : goal.loop-coord-preserved
loop-coord-preserved c =
    let n = net_of c.args.net.now in
    let list = c.args.self.now.list in
    let coord = c.loop-coord.coord in
    let span = c.half_span-span.result in
    let lows = c.loop-coord.ends.low.items in
    let highs = c.loop-coord.ends.high.items in
    let lt : coord < coords n = omega (arith, c.loop-coord-test.true, c.loop-coord.auto.coord-end, c.coords-coord-end.ensures.count) in
    let low_fits : FitsSigned w64 span.low = search rules in
    let high_fits : FitsSigned w64 span.high = search rules in
    subst (λ (z : ℤ). IsFilled n list c.args.node (coord + 1) (set lows coord z) (set highs coord (to_z w64 (of_z w64 span.high)))) (sym (to_z-of_z low_fits))
    (subst (λ (z : ℤ). IsFilled n list c.args.node (coord + 1) (set lows coord span.low) (set highs coord z)) (sym (to_z-of_z high_fits))
    (filled-more n c.args.self.now c.args.node coord c.innermost-at.result lows highs span c.requires.tree c.requires.there lt c.innermost-at.ensures
    (omega (arith, c.if-at-eq0.false)) (c.half_span-span.ensures n c.requires.tree) c.loop-coord.invariant))

pub returns : goal.returns
returns c =
    let n = net_of c.args.net.now in
    filled-last n c.args.self.now c.args.node c.loop-coord.coord c.loop-coord.ends c.requires.limited c.requires.tree c.requires.there
    (omega (arith, c.loop-coord-test.false, c.loop-coord.auto.coord-end, c.coords-coord-end.ensures.count)) c.loop-coord.invariant

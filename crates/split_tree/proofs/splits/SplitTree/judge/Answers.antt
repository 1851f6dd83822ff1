use Rattle.std.proofs.Common.{◌<◌, ◌<ℤ◌, rules, arith}
use Rattle.pool_model.specs.Network.{net_of}
use Rattle.row_model.specs.Boxes.{coords}
use Rattle.row_model.specs.Trees.{IsLeaf, box_of}
use Rattle.box_space.specs.Views.{shown_split}
use Rattle.split_tree.proofs.Pushed.{not-inside, too-many}
use Rattle.split_tree.proofs.Spans.{inside-box, outside-box}
use Rattle.split_tree.proofs.splits.SplitTree.judge.Goals as goal

pub returns-then-not-has_inside-clause-fault : goal.returns-then-not-has_inside-clause-fault
returns-then-not-has_inside-clause-fault c =
    let n = net_of c.args.net.now in
    let splits = c.args.self.now.list in
    let s = shown_split c.args.split.now in
    let span = c.span_of-span.result in
    let leaf : IsLeaf splits s.leaf = search rules in
    let coord : s.coord < coords n = omega (arith, c.if-split-coords.false, c.coords.ensures.count) in
    let not_within : ¬ ((span.low <ℤ s.cut) × (s.cut <ℤ span.high)) = search rules in
    not-inside n splits s leaf coord (outside-box (box_of n splits s.leaf) s span c.span_of-span.ensures not_within)

pub returns-then-len-ge-MAX_SPLITS-clause-fault : goal.returns-then-len-ge-MAX_SPLITS-clause-fault
returns-then-len-ge-MAX_SPLITS-clause-fault c =
    let n = net_of c.args.net.now in
    let splits = c.args.self.now.list in
    let s = shown_split c.args.split.now in
    let span = c.span_of-span.result in
    let leaf : IsLeaf splits s.leaf = search rules in
    let coord : s.coord < coords n = omega (arith, c.if-split-coords.false, c.coords.ensures.count) in
    let within : (span.low <ℤ s.cut) × (s.cut <ℤ span.high) = search rules in
    too-many n splits s leaf coord (inside-box (box_of n splits s.leaf) s span c.span_of-span.ensures within) (search rules)

pub returns-clause-cuts : goal.returns-clause-cuts
returns-clause-cuts c =
    let n = net_of c.args.net.now in
    let splits = c.args.self.now.list in
    let s = shown_split c.args.split.now in
    let span = c.span_of-span.result in
    let leaf : IsLeaf splits s.leaf = search rules in
    let coord : s.coord < coords n = omega (arith, c.if-split-coords.false, c.coords.ensures.count) in
    let within : (span.low <ℤ s.cut) × (s.cut <ℤ span.high) = search rules in
    let inside = inside-box (box_of n splits s.leaf) s span c.span_of-span.ensures within in
    record { leaf = leaf; coord = coord; low = inside.low; high = inside.high }

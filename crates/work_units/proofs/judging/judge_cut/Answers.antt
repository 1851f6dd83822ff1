use Rattle.std.proofs.Common.{◌<◌, ◌<ℤ◌, List, length, get_or, pos, rules, arith, ap}
use Rattle.std.proofs.lemmas.List.{length-map}
use Rattle.pool_model.specs.Network.{net_of}
use Rattle.row_model.specs.Boxes.{coords}
use Rattle.row_model.specs.Trees.{Split, box_of}
use Rattle.box_space.specs.Views.{shown_split}
use Rattle.work_units.proofs.Cutting.{cut-outside, too-many, inside-box, outside-box}
use Rattle.work_units.proofs.judging.judge_cut.Goals as goal

pub returns-then-not-is_inside-clause-fault : goal.returns-then-not-is_inside-clause-fault
returns-then-not-is_inside-clause-fault c =
    let n = net_of c.args.net.now in
    let list = c.args.tree.now.kept.splits.list in
    let s = shown_split c.args.split.now in
    let e = c.args.ends.now in
    let coord : s.coord < coords n = omega (arith, c.if-split-coords.false, c.coords.ensures.count) in
    let not_within : ¬ ((get_or e.low.items s.coord (pos 0) <ℤ s.cut) × (s.cut <ℤ get_or e.high.items s.coord (pos 0))) = search rules in
    cut-outside n list s c.requires.leaf coord (outside-box n (box_of n list s.leaf) e s c.requires.ends coord not_within)

pub returns-then-splits-ge-MAX_SPLITS-clause-fault : goal.returns-then-splits-ge-MAX_SPLITS-clause-fault
returns-then-splits-ge-MAX_SPLITS-clause-fault c =
    let n = net_of c.args.net.now in
    let list = c.args.tree.now.kept.splits.list in
    let s = shown_split c.args.split.now in
    let e = c.args.ends.now in
    let coord : s.coord < coords n = omega (arith, c.if-split-coords.false, c.coords.ensures.count) in
    let within : (get_or e.low.items s.coord (pos 0) <ℤ s.cut) × (s.cut <ℤ get_or e.high.items s.coord (pos 0)) = search rules in
    too-many n list s c.requires.leaf coord (inside-box n (box_of n list s.leaf) e s c.requires.ends coord within)
    (omega (arith, c.if-splits-ge-MAX_SPLITS.true, ap (λ (xs : List Split). length xs) c.splits.ensures, length-map c.splits.result.now shown_split))

pub returns-clause-cuts : goal.returns-clause-cuts
returns-clause-cuts c =
    let n = net_of c.args.net.now in
    let list = c.args.tree.now.kept.splits.list in
    let s = shown_split c.args.split.now in
    let e = c.args.ends.now in
    let coord : s.coord < coords n = omega (arith, c.if-split-coords.false, c.coords.ensures.count) in
    let within : (get_or e.low.items s.coord (pos 0) <ℤ s.cut) × (s.cut <ℤ get_or e.high.items s.coord (pos 0)) = search rules in
    let inside = inside-box n (box_of n list s.leaf) e s c.requires.ends coord within in
    record { leaf = c.requires.leaf; coord = coord; low = inside.low; high = inside.high }

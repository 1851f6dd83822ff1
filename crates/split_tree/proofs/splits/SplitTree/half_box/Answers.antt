use Rattle.std.proofs.Common.{set, ℤ, refl, ap, sym, subst, rules, FitsSigned, to_z, of_z, to_z-of_z}
use Rattle.std.specs.Vec.{with_item}
use mir.Syntax.{w64}
use Rattle.pool_model.specs.Network.{net_of}
use Rattle.row_model.specs.Trees as trees
use Rattle.box_space.specs.Views.{AreEndsOf}
use Rattle.box_space.specs.declared.boxes.BoxEnds.{BoxEnds}
use Rattle.box_space.proofs.Halving.{left-half, right-half}
use Rattle.split_tree.specs.declared.span.Side.{Side}
use Rattle.split_tree.specs.Spans.{half_of}
use Rattle.split_tree.proofs.splits.SplitTree.half_box.Goals as goal

pub returns-in-Left : goal.returns-in-Left
returns-in-Left c =
    let n = net_of c.args.net.now in
    let s = c.args.split.now in
    let box = trees.box_of n c.args.self.now.list s.leaf in
    let ends = c.in_ok-ends.ends in
    let half : BoxEnds = record { low = ends.low; high = with_item ends.high s.coord (to_z w64 (of_z w64 s.cut)) } in
    let fits : FitsSigned w64 s.cut = search rules in
    subst (λ (side : Side). AreEndsOf n (half_of side box s.coord s.cut) half) (sym c.in-Left.is)
    (left-half n box ends half s.coord s.cut c.in_ok-ends.ensures refl (ap (λ (z : ℤ). set ends.high.items s.coord z) (to_z-of_z fits)) c.requires.cuts.coord c.requires.cuts.low c.requires.cuts.high)

pub returns-in-Right : goal.returns-in-Right
returns-in-Right c =
    let n = net_of c.args.net.now in
    let s = c.args.split.now in
    let box = trees.box_of n c.args.self.now.list s.leaf in
    let ends = c.in_ok-ends.ends in
    let half : BoxEnds = record { low = with_item ends.low s.coord (to_z w64 (of_z w64 s.cut)); high = ends.high } in
    let fits : FitsSigned w64 s.cut = search rules in
    subst (λ (side : Side). AreEndsOf n (half_of side box s.coord s.cut) half) (sym c.in-Right.is)
    (right-half n box ends half s.coord s.cut c.in_ok-ends.ensures (ap (λ (z : ℤ). set ends.low.items s.coord z) (to_z-of_z fits)) refl c.requires.cuts.coord c.requires.cuts.low c.requires.cuts.high)

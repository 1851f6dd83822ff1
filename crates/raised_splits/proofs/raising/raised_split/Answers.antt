use Rattle.std.proofs.Common.{option_map, Option, ℤ, FitsSigned, w64, to_z-of_z, refl, subst, rules}
use Rattle.pool_model.specs.Network.{net_of}
use Rattle.row_model.specs.Boxes.{left_of, right_of}
use Rattle.row_model.specs.Trees.{box_of}
use Rattle.box_space.specs.Views.{shown_proof, shown_split, AreHalves}
use Rattle.box_space.proofs.Halving.{left-half, right-half}
use Rattle.raised_splits.specs.Raising.{IsRaisedHalf}
use Rattle.raised_splits.proofs.raising.raised_split.Goals as goal

pub raised_half-requires-clause-ends : goal.raised_half-requires-clause-ends
raised_half-requires-clause-ends c = (c.in_ok-below.ensures.proper (net_of c.args.net.now) c.in_ok-ends.ensures.proper).0

pub raised_half-requires-2-clause-ends : goal.raised_half-requires-2-clause-ends
raised_half-requires-2-clause-ends c = (c.in_ok-below.ensures.proper (net_of c.args.net.now) c.in_ok-ends.ensures.proper).1

pub returns : goal.returns
returns c =
    let n = net_of c.args.net.now in
    let s = shown_split c.args.split in
    let b = box_of n c.args.tree.now.kept.splits.list s.leaf in
    let cuts = c.requires.in_order.cuts in
    let fits : FitsSigned w64 s.cut = search rules in
    let halves = subst (λ (z : ℤ). AreHalves c.in_ok-ends.ends c.in_ok-below.below c.in_ok-below.beyond s.coord z) (to_z-of_z fits) c.in_ok-below.ensures.cut in
    let lower = left-half n b c.in_ok-ends.ends c.in_ok-below.below s.coord s.cut c.in_ok-ends.ensures halves.left_low halves.left_high cuts.coord cuts.low cuts.high in
    let upper = right-half n b c.in_ok-ends.ends c.in_ok-below.beyond s.coord s.cut c.in_ok-ends.ensures halves.right_low halves.right_high cuts.coord cuts.low cuts.high in
    let above = c.node_bound-above.ensures.bound n c.requires.tree cuts.leaf.there in
    let left = option_map shown_proof c.in_ok-left.left in
    let right = option_map shown_proof c.in_ok-right.right in (
      left,
      right,
      refl,
      record {
        left_half = subst (λ (a : Option ℤ). IsRaisedHalf n c.args.form (left_of b s.coord s.cut) c.args.pivots a (option_map shown_proof c.args.left) left) above
            (c.in_ok-left.ensures.raised (left_of b s.coord s.cut) lower c.requires.in_order.left_proof);
        right_half = subst (λ (a : Option ℤ). IsRaisedHalf n c.args.form (right_of b s.coord s.cut) c.args.pivots a (option_map shown_proof c.args.right) right) above
            (c.in_ok-right.ensures.raised (right_of b s.coord s.cut) upper c.requires.in_order.right_proof);
      },
    )

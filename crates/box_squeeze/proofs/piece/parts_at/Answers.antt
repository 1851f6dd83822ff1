use Rattle.std.proofs.Common.{ℤ, rules, subst, FitsSigned, to_z-of_z}
use mir.Syntax.{w64}
use Rattle.pool_model.specs.Network.{net_of}
use Rattle.box_space.specs.Views.{AreHalves}
use Rattle.box_squeeze.proofs.PieceEnds.{left-piece, left-kept, right-piece, right-kept}
use Rattle.box_squeeze.proofs.piece.parts_at.Goals as goal

pub returns-in-Left-clause-piece : goal.returns-in-Left-clause-piece
returns-in-Left-clause-piece c = λ b is.
    let e = c.args.ends.now in
    let fits : FitsSigned w64 c.cut_at-cut.result = search rules in
    let halves = subst (λ (z : ℤ). AreHalves e c.in_ok-left.left c.in_ok-left.right c.args.coord z) (to_z-of_z fits) c.in_ok-left.ensures.cut in
    left-piece (net_of c.args.net.now) c.args.form e c.in_ok-left.left c.in_ok-left.right c.args.side c.args.coord c.cut_at-cut.result c.requires.pieces c.cut_at-cut.ensures halves b is c.in-Left.is

pub returns-in-Left-clause-kept : goal.returns-in-Left-clause-kept
returns-in-Left-clause-kept c = λ b is.
    let e = c.args.ends.now in
    let fits : FitsSigned w64 c.cut_at-cut.result = search rules in
    let halves = subst (λ (z : ℤ). AreHalves e c.in_ok-left.left c.in_ok-left.right c.args.coord z) (to_z-of_z fits) c.in_ok-left.ensures.cut in
    right-kept (net_of c.args.net.now) c.args.form e c.in_ok-left.left c.in_ok-left.right c.args.side c.args.coord c.cut_at-cut.result c.requires.pieces c.cut_at-cut.ensures halves b is c.in-Left.is

pub returns-in-Right-clause-piece : goal.returns-in-Right-clause-piece
returns-in-Right-clause-piece c = λ b is.
    let e = c.args.ends.now in
    let fits : FitsSigned w64 c.cut_at-cut.result = search rules in
    let halves = subst (λ (z : ℤ). AreHalves e c.in_ok-left.left c.in_ok-left.right c.args.coord z) (to_z-of_z fits) c.in_ok-left.ensures.cut in
    right-piece (net_of c.args.net.now) c.args.form e c.in_ok-left.left c.in_ok-left.right c.args.side c.args.coord c.cut_at-cut.result c.requires.pieces c.cut_at-cut.ensures halves b is c.in-Right.is

pub returns-in-Right-clause-kept : goal.returns-in-Right-clause-kept
returns-in-Right-clause-kept c = λ b is.
    let e = c.args.ends.now in
    let fits : FitsSigned w64 c.cut_at-cut.result = search rules in
    let halves = subst (λ (z : ℤ). AreHalves e c.in_ok-left.left c.in_ok-left.right c.args.coord z) (to_z-of_z fits) c.in_ok-left.ensures.cut in
    left-kept (net_of c.args.net.now) c.args.form e c.in_ok-left.left c.in_ok-left.right c.args.side c.args.coord c.cut_at-cut.result c.requires.pieces c.cut_at-cut.ensures halves b is c.in-Right.is

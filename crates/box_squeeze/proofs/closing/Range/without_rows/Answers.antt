use Rattle.std.proofs.Common.{IsTrue, ℤ, ◌∙◌, rules, sym, subst, FitsSigned, to_z, of_z, to_z-of_z}
use mir.Syntax.{w64, w128}
use Rattle.pool_model.specs.Network.{net_of}
use Rattle.row_model.specs.Multipliers.{Proof, IsInOrder}
use Rattle.box_space.specs.Views.{shown_box_ends, shown_proof}
use Rattle.box_squeeze.specs.Pieces.{piece_of}
use Rattle.box_squeeze.specs.Squeezes.{empty, Reaches}
use Rattle.box_squeeze.proofs.EmptyProofs.{empty-in_order}
use Rattle.box_squeeze.proofs.PieceEnds.{pieces-of, ends-own}
use Rattle.box_squeeze.proofs.Closings.{reaches-held}
use Rattle.box_squeeze.proofs.closing.Range.without_rows.Goals as goal

pub reaches-requires-clause-ends : goal.reaches-requires-clause-ends
reaches-requires-clause-ends c =
    let e = c.args.self.now.ends in
    (c.in_ok-parts.ensures.piece (shown_box_ends e) (ends-own (net_of c.args.net.now) e c.requires.ends)).proper

pub proof_or_empty-requires-clause-ends : goal.proof_or_empty-requires-clause-ends
proof_or_empty-requires-clause-ends c =
    let e = c.args.self.now.ends in
    (c.in_ok-parts.ensures.piece (shown_box_ends e) (ends-own (net_of c.args.net.now) e c.requires.ends)).proper

pub returns-then-not-reaches-clause-none : goal.returns-then-not-reaches-clause-none
returns-then-not-reaches-clause-none c = λ b is reached.
    let n = net_of c.args.net.now in
    let e = c.in_ok-parts.parts.piece in
    let piece = piece_of b c.args.side c.args.coord in
    let target = c.args.self.now.target in
    let ends = c.in_ok-parts.ensures.piece b is in
    let not : ¬ IsTrue c.reaches.result = search rules in
    let fits : FitsSigned w128 target = search rules in
    let order = subst (λ (p : Proof). IsInOrder n (shown_box_ends e) p) (sym c.empty_proof-empty.ensures) (empty-in_order n (shown_box_ends e) c.requires.limited ends.proper.proper) in
    c.reaches.ensures.no not order
    (subst (λ (p : Proof). Reaches n (shown_box_ends e) (to_z w128 (of_z w128 target)) p) (sym c.empty_proof-empty.ensures)
    (subst (λ (z : ℤ). Reaches n (shown_box_ends e) z empty) (sym (to_z-of_z fits)) (reaches-held n piece e c.requires.limited ends target empty reached)))

pub returns-clause-some : goal.returns-clause-some
returns-clause-some c = λ b is.
    let cut_fits : FitsSigned w64 c.in_ok-parts.parts.cut = search rules in
    record {
      pieces = pieces-of (net_of c.args.net.now) b c.args.self.now.ends is c.args.coord c.args.self.now.form c.requires.pieces;
      cut = to_z-of_z cut_fits ∙ c.in_ok-parts.ensures.cut b is;
      closes = c.in_ok-proof.ensures (piece_of b c.args.side c.args.coord) (c.in_ok-parts.ensures.piece b is);
      kept = c.in_ok-parts.ensures.kept b is;
    }

pub proof_or_empty-requires-clause-reaches : goal.proof_or_empty-requires-clause-reaches
proof_or_empty-requires-clause-reaches c =
    let target = c.args.self.now.target in
    let fits : FitsSigned w128 target = search rules in
    subst (λ (z : ℤ). Reaches (net_of c.args.net.now) (shown_box_ends c.in_ok-parts.parts.piece) z (shown_proof c.empty_proof-empty.result)) (to_z-of_z fits)
    (c.reaches.ensures.yes c.if-not-reaches.false)

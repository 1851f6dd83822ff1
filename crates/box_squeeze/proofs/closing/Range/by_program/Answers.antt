use Rattle.std.proofs.Common.{◌∙◌, rules, FitsSigned, to_z-of_z}
use mir.Syntax.{w64}
use Rattle.pool_model.specs.Network.{net_of}
use Rattle.box_space.specs.Views.{shown_box_ends, shown_proof}
use Rattle.box_squeeze.specs.Pieces.{piece_of}
use Rattle.box_squeeze.proofs.PieceEnds.{pieces-of, ends-own}
use Rattle.box_squeeze.proofs.Closings.{closes-given}
use Rattle.box_squeeze.proofs.closing.Range.by_program.Goals as goal

pub closing_proof-requires-clause-ends : goal.closing_proof-requires-clause-ends
closing_proof-requires-clause-ends c =
    let e = c.args.self.now.ends in
    (c.in_ok-parts.ensures.piece (shown_box_ends e) (ends-own (net_of c.args.net.now) e c.requires.ends)).proper

pub returns : goal.returns
returns c = λ b is.
    let piece = piece_of b c.args.side c.args.coord in
    let cut_fits : FitsSigned w64 c.in_ok-parts.parts.cut = search rules in
    record {
      pieces = pieces-of (net_of c.args.net.now) b c.args.self.now.ends is c.args.coord c.args.self.now.form c.requires.pieces;
      cut = to_z-of_z cut_fits ∙ c.in_ok-parts.ensures.cut b is;
      closes = closes-given (net_of c.args.net.now) c.args.self.now.form piece c.args.self.now.target (shown_proof c.in-Some.proof)
          (rw c.in-Some.is at (c.in_ok-proof.ensures piece (c.in_ok-parts.ensures.piece b is)));
      kept = c.in_ok-parts.ensures.kept b is;
    }

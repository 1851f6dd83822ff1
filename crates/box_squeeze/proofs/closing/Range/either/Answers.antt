use Rattle.std.proofs.Common.{rules, IsTrue}
use Rattle.pool_model.specs.Network.{net_of}
use Rattle.box_squeeze.proofs.PieceEnds.{pieces-held}
use Rattle.box_squeeze.proofs.Closings.{none-at}
use Rattle.box_squeeze.proofs.closing.Range.either.Goals as goal

pub returns-then-not-has_pieces-clause-none : goal.returns-then-not-has_pieces-clause-none
returns-then-not-has_pieces-clause-none c = λ b is side has.
    let not : ¬ IsTrue c.has_pieces.result = search rules in
    absurd (not (c.has_pieces.ensures.1 (pieces-held (net_of c.args.net.now) b c.args.self.now.ends is c.args.coord c.args.self.now.form has)))

pub returns-clause-none : goal.returns-clause-none
returns-clause-none c = λ b is.
    none-at (net_of c.args.net.now) c.args.self.now.form b c.args.self.now.target c.args.coord c.in_ok-right.right (rw c.in_default.is at (c.in_ok-closed.ensures.none b is)) (c.in_ok-right.ensures.none b is)

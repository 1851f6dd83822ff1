use Rattle.std.proofs.Common.{sym, subst}
use Rattle.pool_model.specs.Network.{net_of}
use Rattle.row_model.specs.Multipliers.{Proof}
use Rattle.box_space.specs.Views.{shown_box_ends, shown_proof}
use Rattle.box_squeeze.specs.Squeezes.{empty, Reaches, Closes}
use Rattle.box_squeeze.proofs.Closings.{closes-given, closes-empty, proper-of, reaches-of}
use Rattle.box_squeeze.proofs.closing.Range.proof_or_empty.Goals as goal

pub returns-in-Some : goal.returns-in-Some
returns-in-Some c = λ b is.
    closes-given (net_of c.args.net.now) c.args.self.now.form b c.args.self.now.target (shown_proof c.in-Some.proof) (rw c.in-Some.is at (c.in_ok-proof.ensures b is))

pub returns-in-None : goal.returns-in-None
returns-in-None c = λ b is.
    let n = net_of c.args.net.now in
    let form = c.args.self.now.form in
    let target = c.args.self.now.target in
    let e = c.args.ends.now in
    let reaches = reaches-of n b e c.requires.limited is target empty (subst (λ (p : Proof). Reaches n (shown_box_ends e) target p) c.requires.empty c.requires.reaches) in
    subst (λ (p : Proof). Closes n form b target p) (sym c.requires.empty)
    (closes-empty n form b target c.requires.limited (proper-of n b e is) (rw c.in-None.is at (c.in_ok-proof.ensures b is)) reaches)

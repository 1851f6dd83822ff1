-- The fault of a line that is too long, or the first one in the node's box.
use Rattle.std.proofs.Common.{◌≡◌, None, refl, subst, rules}
use Rattle.pool_model.specs.Network.{Net, net_of}
use Rattle.row_model.specs.Boxes.{Box}
use Rattle.row_model.specs.Multipliers.{Proof}
use Rattle.row_model.specs.Trees.{box_of}
use Rattle.row_book.specs.Faults.{IsFirstFault}
use Rattle.proof_lines.specs.Lines.{IsKept}
use Rattle.proof_lines.proofs.line_judge.LineJudge.value.Goals as goal

pub returns-in-Some-clause-shown : goal.returns-in-Some-clause-shown
returns-in-Some-clause-shown c = λ proof kept.
    let n : Net = net_of c.args.net.now in
    let first = subst (IsKept n proof c.args.self.now.proof) c.in-Some.is kept in
    record { fault = c.in-Some.fault; is = refl; first = first (box_of n c.args.tree.now.list c.args.node) }

pub returns-in-Err-clause-shown : goal.returns-in-Err-clause-shown
returns-in-Err-clause-shown c = λ proof kept.
    let n : Net = net_of c.args.net.now in
    let box : Box = box_of n c.args.tree.now.list c.args.node in
    let none : c.args.excess ≡ None = search rules in
    let same = subst (IsKept n proof c.args.self.now.proof) none kept in
    record { fault = c.in-Err.fault; is = refl; first = subst (λ (q : Proof). IsFirstFault n box q c.in-Err.fault) same (c.in-Err.ensures.fault box c.narrow.ensures) }

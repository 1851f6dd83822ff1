use Rattle.std.proofs.Common.{subst}
use Rattle.pool_model.specs.Network.{net_of}
use Rattle.box_space.specs.Views.{shown_box, shown_proof}
use Rattle.row_book.specs.Faults.{IsFirstFault}
use Rattle.row_book.specs.declared.fault.ProofFault.{ProofFault}
use Rattle.tight_leaf.proofs.EndMarks.{only-wide}
use Rattle.tight_leaf.proofs.leaf.is_narrow.Goals as goal

pub returns-in-Err-clause-wide : goal.returns-in-Err-clause-wide
returns-in-Err-clause-wide c = λ no.
    let n = net_of c.args.net.now in
    let b = shown_box c.args.v.now in
    let proof = shown_proof c.args.proof.now in
    let first : IsFirstFault n b proof c.in-Err.field-0 = c.in-Err.ensures.fault in
    subst (λ (f : ProofFault). IsFirstFault n b proof f) (only-wide n b proof c.in-Err.field-0 c.requires.order c.requires.shows first) first

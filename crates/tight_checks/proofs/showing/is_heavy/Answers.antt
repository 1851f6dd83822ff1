use Rattle.std.proofs.Common.{subst}
use Rattle.pool_model.specs.Network.{net_of}
use Rattle.box_space.specs.Views.{shown_box, shown_proof}
use Rattle.row_book.specs.Faults.{IsFirstFault}
use Rattle.tight_checks.proofs.Fitting.{first_wide}
use Rattle.tight_checks.proofs.showing.is_heavy.Goals as goal

pub returns-in-Err-clause-holds : goal.returns-in-Err-clause-holds
returns-in-Err-clause-holds c =
    let n = net_of c.args.net.now in
    let b = shown_box c.args.v.now in
    let proof = shown_proof c.args.proof.now in (
      λ t. subst (IsFirstFault n b proof) (c.is_weight.ensures.0 t) c.in-Err.ensures.fault,
      λ h. c.is_weight.ensures.1 (first_wide n b proof c.in-Err.fault c.in-Err.ensures.fault h),
    )

-- A valid certificate can be reported, and a report ends as the check does.
use Rattle.std.proofs.Common.{◌≡◌, List, ℕ, Option, refl, sym, subst, ap, ◌∙◌}
use Rattle.pool_model.specs.Network.{Net}
use Rattle.pool_model.specs.Claim.{Claimed, with_gap, with_bound, no_plan}
use Rattle.row_model.specs.Trees.{Tree}
use Rattle.cert_format.specs.Cert.{Cert}
use Rattle.cert_format.specs.Valid.{IsShown, IsValid, tree_of}
use Rattle.pool_report.specs.Report.{IsReported}
use Rattle.run_status.specs.Took.{Took}
use Rattle.run_status.specs.declared.reading.Unread.TheVariants as unread
use Rattle.run_status.specs.declared.status.Status.{Status}
use Rattle.run_status.specs.declared.status.Status.TheVariants as statuses
use Rattle.certificate_commands.specs.CheckEnds.{check_status}
use Rattle.certificate_commands.specs.ReportEnds.{as_check}
use Rattle.certificate_commands.specs.declared.checking.CheckOutcome.{CheckOutcome}
use Rattle.certificate_commands.specs.declared.checking.CheckOutcome.TheVariants as outcomes

shown-reported : (n : Net) (tree : Tree) (claim : Claimed) → IsShown n tree claim → IsReported n claim
shown-reported n tree (with_gap w cost base bound gap) h = record { written = h.written; obeys = h.obeys; cost_is = h.cost_is; base_is = h.base_is }
shown-reported n tree (with_bound bound) h = tt
shown-reported n tree no_plan h = tt

pub valid-reported : (n : Net) (c : Cert) → IsValid n c → IsReported n c.claim
valid-reported n c valid = shown-reported n (tree_of c) c.claim valid.claim

-- ---- the status of a report

pub as_check-twice : (s : Status) → as_check (as_check s) ≡ s
as_check-twice statuses.Done = refl
as_check-twice statuses.Accepted = refl
as_check-twice _ = refl

-- a status that is neither of the two is the same of both
pub same-status : (s t : Status) → as_check t ≡ t → as_check s ≡ t → s ≡ t
same-status s t own is = sym (as_check-twice s) ∙ ap as_check is ∙ own

-- what the sink took, told by the status of a report
pub took-report : (A : Status → List ℕ → Type 0) (o : CheckOutcome) (old new : Option (List ℕ)) → Took A (check_status o) old new
    → Took (λ status. A (as_check status)) (as_check (check_status o)) old new
took-report A outcomes.Accepted old new t = t
took-report A (outcomes.Refused r) old new t = t
took-report A (outcomes.Unread (unread.Refused cause)) old new t = t
took-report A (outcomes.Unread unread.Failed) old new t = t
took-report A (outcomes.Unread unread.Memory) old new t = t
took-report A outcomes.ReadFault old new t = t
took-report A outcomes.TooLong old new t = t
took-report A outcomes.Memory old new t = t
took-report A outcomes.WriteFault old new t = (t.0, (as_check t.1.0, subst (λ s. A s t.0) (sym (as_check-twice t.1.0)) t.1.1), t.2)

-- The line that `check` prints.
use Rattle.std.specs.Prelude.{ℕ, List, [], ◌++◌, ℤ, pos, codes}
use Rattle.std.specs.Fmt.{signed_decimal}
use Rattle.plan_core.specs.Faults as plans
use Rattle.row_book.specs.Faults as proofs
use Rattle.proof_lines.specs.declared.refusal.Refusal.{Refusal}
use Rattle.proof_lines.specs.declared.refusal.Refusal.TheVariants as refusals
use Rattle.pool_model.specs.Claim.{Claimed, with_gap, with_bound, no_plan}

-- a number behind a word
abbrev pub labelled : List ℕ → ℤ → List ℕ
labelled word n = word ++ signed_decimal n

-- a line that ends with a number
abbrev pub numbered : List ℕ → ℤ → List ℕ
numbered word n = labelled word n ++ codes "\n"

-- the line of a cost over a base, a bound, and their gap over that base
abbrev pub gap_line : (cost : ℤ) (base : ℕ) (bound gap : ℤ) → List ℕ
gap_line cost base bound gap =
    labelled (codes "accepted gap cost ") cost ++ (labelled (codes " base ") (pos base) ++ (labelled (codes " bound ") bound ++ numbered (codes " gap ") gap))

-- the line of an accepted certificate, with the numbers that it claims
abbrev pub accepted_line : Claimed → List ℕ
accepted_line (with_gap plan cost base bound gap) = gap_line cost base bound gap
accepted_line (with_bound bound) = numbered (codes "accepted bound ") bound
accepted_line no_plan = codes "accepted none\n"

-- The line of a refused certificate. Want of memory is no refusal, and has none.
abbrev pub refused_line : Refusal → List ℕ
refused_line (refusals.Text fault) = numbered (codes "refused text ") (pos fault.line)
refused_line refusals.Shape = codes "refused shape\n"
refused_line (refusals.Plan fault) = numbered (codes "refused plan ") (pos (plans.number fault))
refused_line (refusals.Split t) = numbered (codes "refused split ") (pos t)
refused_line (refusals.ProofPlace k) = numbered (codes "refused place ") (pos k)
refused_line (refusals.Proof node fault) = labelled (codes "refused proof ") (pos node) ++ numbered (codes " ") (pos (proofs.number fault))
refused_line refusals.WrongKind = codes "refused kind\n"
refused_line refusals.WrongCost = codes "refused cost\n"
refused_line refusals.WrongBound = codes "refused bound\n"
refused_line refusals.WrongGap = codes "refused gap\n"
refused_line refusals.Memory = []

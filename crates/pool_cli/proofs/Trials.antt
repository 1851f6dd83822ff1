-- How a trial goes.
use Rattle.std.proofs.Common.{◌≡◌, ◌⊎◌, ℕ, ◌+◌, ◌*◌, inl, inr, Option, Some, None, ℤ, refl, sym, ap, subst, ◌∙◌}
use Rattle.integers.proofs.Tabulate.{get_or-tabulate}
use Rattle.pool_model.specs.Network.{Net, no_product, net_of}
use Rattle.pool_model.specs.Plan.{Written, plan_of}
use Rattle.pool_model.specs.Starting.{HasNoMinima, zero_plan}
use Rattle.pool_model.specs.Claim.{Claimed, with_gap, Follows}
use Rattle.pool_model.proofs.Starts.{zero-obeys}
use Rattle.row_model.specs.Trees.{tree_bound}
use Rattle.cert_format.specs.Cert.{Cert}
use Rattle.cert_format.specs.Views.{shown_claim}
use Rattle.cert_writing.specs.declared.certificate.Claim.{Claim}
use Rattle.cert_writing.specs.declared.certificate.Claim.TheVariants as claims
use Rattle.tree_certificate.specs.Certificates.{claim_of}
use Rattle.drawn_numbers.specs.Draws.{state_after}
use Rattle.network_maker.specs.Generated.{generated, drawn_product}
use Rattle.search_run.specs.Found.{CoversStarts}
use Rattle.search_run.specs.declared.orders.Orders.{Orders}
use Rattle.run_status.specs.Messages.{code_of}
use Rattle.solve_command.specs.Solution.{IsSolution}
use Rattle.pool_cli.specs.TrialEnds.{IsToldOf}
use Rattle.run_status.specs.declared.status.Status.{Status}

-- no product of a made network must take anything
pub made-no_minima : (number : ℕ) → HasNoMinima (net_of (generated number))
unfolding generated net_of
made-no_minima number j below = ap (λ p. p.min) (get_or-tabulate (λ i. drawn_product (state_after number (43 + 4 * i)) i) 6 j no_product below)

-- a claim that has a plan
abbrev pub HasPlanned : Claimed → Type 0
HasPlanned (with_gap plan cost base bound gap) = Unit {0}
HasPlanned claim = ⊥

-- where the zero plan obeys, a plan is found that costs no more, and no proof shows that there is none
planned_by : (n : Net) (best : Option Written) (bound : Option ℤ) → HasNoMinima n → CoversStarts n best → Follows n (claim_of n best bound) → HasPlanned (claim_of n best bound)
planned_by n None None m starts follows = follows (plan_of n (zero_plan n)) (zero-obeys n m)
planned_by n (Some w) None m starts follows = follows (plan_of n (zero_plan n)) (zero-obeys n m)
planned_by n None (Some z) m starts follows = starts (zero_plan n) (inl refl) (zero-obeys n m)
planned_by n (Some w) (Some z) m starts follows = tt

pub solution-planned : (n : Net) (o : Orders) (status : Status) (c : Cert) → HasNoMinima n → IsSolution n o status c → HasPlanned c.claim
solution-planned n o status c m s =
    let is = ap (λ (x : Cert). x.claim) s.is in
    subst HasPlanned (sym is) (planned_by n s.found.best (tree_bound n s.found.tree) m s.search.starts (subst (Follows n) is s.follows))

-- what is claimed, of a claim with a plan, is a gap
pub planned-gap : (claim : Claimed) (read : Claim) → HasPlanned claim → shown_claim read ≡ claim → ((bound : ℤ) × (read ≡ claims.Bound bound)) ⊎ (read ≡ claims.NoPlan) → ⊥
planned-gap claim read planned is (inl (z, e)) = subst HasPlanned (sym is ∙ ap shown_claim e) planned
planned-gap claim read planned is (inr e) = subst HasPlanned (sym is ∙ ap shown_claim e) planned

pub told-of : (status : Status) (claim : Claimed) (plan : Written) (cost bound gap : ℤ) (base code : ℕ) → with_gap plan cost base bound gap ≡ claim → code ≡ code_of status
    → IsToldOf status claim (record { status = code; cost = cost; base = base; bound = bound; gap = gap })
told-of status claim plan cost bound gap base code is told =
    subst (λ c. IsToldOf status c (record { status = code; cost = cost; base = base; bound = bound; gap = gap })) is
    (ap (λ k. record { status = k; cost = cost; base = base; bound = bound; gap = gap }) told)

-- The bound and the base that are claimed are those that were found.
use Rattle.std.proofs.Common.{to_z, of_z, to_z-of_z, FitsSigned, rules}
use Rattle.std.specs.Int.{w128}
use Rattle.cert_checker.proofs.claim.check_claim.Goals as goal

pub check_gap-requires : goal.check_gap-requires
check_gap-requires c =
    let f : FitsSigned w128 c.in-Gap.num = search rules in
    c.requires record { num = to_z w128 (of_z w128 c.in-Gap.num); base = c.in-Gap.base } (to_z w128 (of_z w128 c.in-Gap.bound))
    (simp to_z-of_z f) c.in_ok-check_cost-in-Gap.ensures.same c.in_ok-check_bound-in-Gap.ensures.same

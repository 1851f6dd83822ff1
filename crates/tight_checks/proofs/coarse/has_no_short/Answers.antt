use Rattle.std.proofs.Common.{Fits, w64, arith, rules}
use Rattle.std.proofs.lemmas.Bool.{false≢true}
use Rattle.tight_checks.proofs.TooCoarse.{short}
use Rattle.tight_checks.proofs.coarse.has_no_short.Goals as goal

pub returns-in-Ok : goal.returns-in-Ok
returns-in-Ok c =
    let fits : Fits w64 c.in-Ok.field-0 = search rules in
    (λ t. absurd (false≢true t), λ h. absurd (short c.args.times c.args.fraction.den c.in-Ok.field-0 c.in-Ok.ensures.least (omega (arith, fits)) h))

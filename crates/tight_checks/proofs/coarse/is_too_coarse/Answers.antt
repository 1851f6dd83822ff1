use Rattle.std.proofs.Common.{inl}
use Rattle.tight_checks.proofs.coarse.is_too_coarse.Goals as goal

pub returns-then-has_no_short : goal.returns-then-has_no_short
returns-then-has_no_short c = (λ t. inl (c.has_no_short.ensures.0 t), λ h. c.if-has_no_short.true)

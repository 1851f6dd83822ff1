use Rattle.std.proofs.Common.{refl}
use Rattle.tree_certificate.proofs.certificate.claim_of.Goals as goal

pub gap-requires-clause-written : goal.gap-requires-clause-written
gap-requires-clause-written c = c.requires.written _ (rw c.in-Some-Some.is-0 refl)

pub gap-requires-clause-obeys : goal.gap-requires-clause-obeys
gap-requires-clause-obeys c = c.requires.obeys _ (rw c.in-Some-Some.is-0 refl)

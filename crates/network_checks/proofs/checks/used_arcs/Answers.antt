use Rattle.network_parts.specs.Parts.{rows_of}
use Rattle.network_checks.proofs.Refusals.{handed}
use Rattle.network_checks.proofs.checks.used_arcs.Goals as goal

pub returns-in_err-check_arcs-clause-fault : goal.returns-in_err-check_arcs-clause-fault
returns-in_err-check_arcs-clause-fault c =
    handed (rows_of c.args.parts.now) c.from_residual-in_err-check_arcs.result c.in_err-check_arcs.field-0.0 c.from_residual-in_err-check_arcs.ensures.1 c.in_err-check_arcs.ensures.fault

use Rattle.network_parts.specs.Parts.{rows_of}
use Rattle.network_checks.proofs.Order.{faultless_from}
use Rattle.network_checks.proofs.checks.checked_arcs.Goals as goal

pub returns-clause-checked : goal.returns-clause-checked
returns-clause-checked c = record {
  faultless = faultless_from (rows_of c.args.parts.now) c.in_ok-check_numbers.ensures.clear;
  ranges = c.in_ok-check_numbers.ensures.ranges;
  found = c.in_ok-arcs.ensures.found;
}

use Rattle.run_laws.proofs.Reached.{placed, basis-columns, basis-apart, basis-value, basis-factor, basis-cost}
use Rattle.run_laws.proofs.laws.basis_law.Goals as goal

pub returns : goal.returns
returns c = record { columns = basis-columns; apart = basis-apart; either = placed; value = basis-value; factor = basis-factor; cost = basis-cost }

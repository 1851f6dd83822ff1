use Rattle.run_laws.proofs.Reached.{signs-low, signs-high, ends-high}
use Rattle.run_laws.proofs.laws.signs_law.Goals as goal

pub returns : goal.returns
returns c = record { low = signs-low; high = signs-high; end = ends-high }

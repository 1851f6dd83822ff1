use Rattle.run_laws.proofs.Best.{best-duality, best-cost, best-none}
use Rattle.run_laws.proofs.laws.best_law.Goals as goal

pub returns : goal.returns
returns c = record { duality = best-duality; best = best-cost; none = best-none }

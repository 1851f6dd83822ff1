use Rattle.work_units.proofs.Deliveries.{taken-all, made-all, order-all, from-all}
use Rattle.work_units.proofs.laws.deliveries_law.Goals as goal

pub returns : goal.returns
returns c = record { taken = taken-all; made = made-all; in_order = order-all; from = from-all }

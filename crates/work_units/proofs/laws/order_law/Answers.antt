use Rattle.row_model.specs.Entries.{made_from}
use Rattle.work_units.proofs.DeskBounds.{desks-bound}
use Rattle.work_units.proofs.Reordered.{same-leaves}
use Rattle.work_units.proofs.SameBounds.{same-bound}
use Rattle.work_units.proofs.laws.order_law.Goals as goal

pub returns : goal.returns
returns c = record {
  leaves = same-leaves;
  bound = λ n s es fs is one other same. same-bound n (made_from s es).tree (made_from s fs).tree (same-leaves n s es fs is one other same);
  desks = desks-bound;
}

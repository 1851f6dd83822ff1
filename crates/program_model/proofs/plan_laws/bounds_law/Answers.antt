use Rattle.program_model.proofs.Bounds.{carries-bounded, path-le, proportion-le}
use Rattle.program_model.proofs.plan_laws.bounds_law.Goals as goal

pub returns : goal.returns
returns c = record { flows = carries-bounded; paths = path-le; proportions = proportion-le }

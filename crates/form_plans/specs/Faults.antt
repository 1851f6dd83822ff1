-- When a point has no written plan though it is one of its program.
use Rattle.std.specs.Prelude.{ℕ, ◌<◌}
use Rattle.pool_model.specs.Network.{Net}
use Rattle.pool_model.specs.Plan.{Plan}
use Rattle.program_model.specs.LeastBases.{IsLeastFlowBase}

-- the least base of the flows passes the limit of written plans
pub record AreTooFine (n : Net) (p : Plan) : Type 0 where
  pub base : ℕ
  pub least : IsLeastFlowBase n p base
  pub over : 65536 < base

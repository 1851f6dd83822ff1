use Rattle.pool_model.specs.Network.{net_of}
use Rattle.relaxation_points.specs.Points.{IsRowOf}
use Rattle.tight_checks.proofs.Naming.{HaveBelow}
use Rattle.tight_checks.proofs.showing.are_named.Given as goal

abbrev pub invariant-loop-part : goal.invariant-loop-part
invariant-loop-part l = HaveBelow (IsRowOf (net_of l.net) l.form) l.parts l.part-index

use Rattle.std.proofs.Common.{◌≡◌, get_or, None, if◌then◌else◌}
use Rattle.pool_model.specs.Starting.{least_below}
use Rattle.row_model.specs.Trees.{is_cut}
use Rattle.proof_lines.proofs.tree.least_bound.Given as goal

-- the least of the nodes so far
abbrev pub invariant-loop-node : goal.invariant-loop-node
invariant-loop-node l = l.least ≡ least_below (λ node. if is_cut l.tree.list node then None else get_or l.bounds node None) l.node

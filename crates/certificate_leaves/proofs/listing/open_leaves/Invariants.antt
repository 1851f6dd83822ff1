use Rattle.std.proofs.Common.{get_or, None, if◌then◌else◌}
use Rattle.row_model.specs.Trees.{is_cut}
use Rattle.certificate_leaves.specs.Leaves.{AreListed}
use Rattle.certificate_leaves.proofs.listing.open_leaves.Given as goal

-- the nodes so far are listed
abbrev pub invariant-loop-node : goal.invariant-loop-node
invariant-loop-node l = AreListed (λ node. if is_cut l.tree.list node then None else get_or l.bounds node None) l.node l.leaves.items

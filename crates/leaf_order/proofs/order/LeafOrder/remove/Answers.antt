use Rattle.std.proofs.Common.{List, Some, subst}
use Rattle.leaf_order.specs.Order.{IsTakenOut}
use Rattle.leaf_order.specs.declared.leaf.OpenLeaf.{OpenLeaf}
use Rattle.leaf_order.proofs.Sets.{ordered-from_sorted, taken-out}
use Rattle.leaf_order.proofs.order.LeafOrder.remove.Goals as goal

pub invariant_of-self : goal.invariant_of-self
invariant_of-self c = ordered-from_sorted c.remove.new.self.keys c.remove.ensures.ordered

pub returns-clause-taken : goal.returns-clause-taken
returns-clause-taken c =
    subst (λ (leaves : List OpenLeaf). IsTakenOut (Some c.args.leaf) leaves c.remove.new.self.keys) c.self.view_is
    (taken-out c.self.inside.leaves c.remove.new.self c.args.leaf c.remove.ensures.updates.0)

pub returns-clause-ordered : goal.returns-clause-ordered
returns-clause-ordered c = ordered-from_sorted c.remove.new.self.keys c.remove.ensures.ordered

use Rattle.std.proofs.Common.{Option, sym, subst}
use Rattle.leaf_order.specs.Order.{IsTakenOut}
use Rattle.leaf_order.specs.declared.leaf.OpenLeaf.{OpenLeaf}
use Rattle.leaf_order.proofs.order.LeafOrder.take_out.Goals as goal

pub returns-in-Some : goal.returns-in-Some
returns-in-Some c = subst (λ (o : Option OpenLeaf). IsTakenOut o c.args.self.now c.remove.new.self) (sym c.in-Some.is) c.remove.ensures.taken

use Rattle.std.proofs.Common.{List, Option, Some, sym, subst}
use Rattle.leaf_order.specs.Order.{IsPut}
use Rattle.leaf_order.specs.declared.leaf.OpenLeaf.{OpenLeaf}
use Rattle.leaf_order.proofs.Sets.{ordered-from_sorted, put-in}
use Rattle.leaf_order.proofs.order.LeafOrder.put_one.Goals as goal

pub invariant_of-self-in-Some : goal.invariant_of-self-in-Some
invariant_of-self-in-Some c = ordered-from_sorted c.insert.new.self.keys c.insert.ensures.ordered

pub returns-after-is_new-clause-put : goal.returns-after-is_new-clause-put
returns-after-is_new-clause-put c =
    subst (λ (o : Option OpenLeaf). IsPut o c.args.self.now c.insert.new.self.keys) (sym c.in-Some.is)
    (subst (λ (leaves : List OpenLeaf). IsPut (Some c.in-Some.leaf) leaves c.insert.new.self.keys) c.self.view_is
    (put-in c.self.inside.leaves c.insert.new.self c.in-Some.leaf c.in_ok-is_new-in-Some.ensures.updates.0))

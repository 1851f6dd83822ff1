use Rattle.std.proofs.Common.{[], List, Option, None, subst}
use Rattle.leaf_order.specs.Order.{ArePut}
use Rattle.leaf_order.specs.declared.leaf.OpenLeaf.{OpenLeaf}
use Rattle.box_tree.proofs.Indexing.{first-indexed}
use Rattle.box_tree.proofs.leaves.root_alone.Goals as goal

pub returns : goal.returns
returns c =
    first-indexed c.args.bound c.put.new.self
    (subst (λ (o : Option OpenLeaf). ArePut o None [] c.put.new.self) c.open_leaf.ensures
    (subst (λ (leaves : List OpenLeaf). ArePut c.open_leaf.result None leaves c.put.new.self) c.new-order.ensures c.in_ok-put.ensures.put))

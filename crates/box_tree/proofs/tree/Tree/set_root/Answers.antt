use Rattle.std.proofs.Common.{◌≡◌, List, get_or, set, length, false, Option, Some, None, ℤ, arith, ap, sym, subst, rules, ◌∙◌}
use Rattle.leaf_order.specs.Order.{IsReplaced}
use Rattle.leaf_order.specs.declared.leaf.OpenLeaf.{OpenLeaf}
use Rattle.row_model.specs.Trees.{is_cut}
use Rattle.box_tree.specs.Kept.{Held, AreSized}
use Rattle.box_tree.specs.Open.{open_leaf}
use Rattle.box_tree.proofs.Indexing.{root-indexed}
use Rattle.box_tree.proofs.tree.Tree.set_root.Goals as goal

pub invariant_of-self-2 : goal.invariant_of-self-2
invariant_of-self-2 c =
    let t = c.self.inside in
    let sized : AreSized (length t.splits.list) (length (set t.proofs.items 0 (Some c.args.proof))) (length (set t.bounds.items 0 c.args.bound)) = search rules in
    let uncut = subst (λ (h : Held). is_cut h.kept.splits.list 0 ≡ false) (sym c.self.view_is) c.requires in
    let known : c.open_leaf-known.result ≡ open_leaf 0 (get_or t.bounds.items 0 None) = c.open_leaf-known.ensures
    ∙ ap (λ (xs : List (Option ℤ)). open_leaf 0 (get_or xs 0 None)) c.as_slice.ensures.value in
    let replaced : IsReplaced (open_leaf 0 (get_or t.bounds.items 0 None)) (open_leaf 0 c.args.bound) t.order c.replace.new.self =
    subst (λ (o : Option OpenLeaf). IsReplaced o (open_leaf 0 c.args.bound) t.order c.replace.new.self) known
    (subst (λ (o : Option OpenLeaf). IsReplaced c.open_leaf-known.result o t.order c.replace.new.self) c.open_leaf.ensures c.in_ok-replace.ensures.replaced) in
    (sized, root-indexed t.splits.list t.bounds.items c.args.bound t.order c.replace.new.self uncut (omega (arith, c.self.invariant.0.bounded)) c.self.invariant.1 replaced)

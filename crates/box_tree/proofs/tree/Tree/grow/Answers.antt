use Rattle.std.proofs.Common.{◌≡◌, ℕ, ◌+◌, ◌*◌, ◌<◌, ◌≤◌, List, [], ◌∷◌, ◌++◌, length, get_or, Option, None, ℤ, false, arith, ap, sym, subst, rules, ◌∙◌, length-append}
use Rattle.std.specs.List.{Contains}
use Rattle.std.specs.Option.{ForSome}
use Rattle.std.proofs.lemmas.Grind.{common_steps}
use Rattle.leaf_order.specs.Order.{ArePut, IsTakenOut}
use Rattle.leaf_order.specs.declared.leaf.OpenLeaf.{OpenLeaf}
use Rattle.box_space.specs.Views.{shown_split}
use Rattle.linear_program.specs.declared.multipliers.Proof.{Proof}
use Rattle.row_model.specs.Trees.{left_node, right_node, nodes, most_splits, is_cut}
use Rattle.split_tree.specs.Splits.{Splits}
use Rattle.box_tree.specs.Kept.{Held, AreSized}
use Rattle.box_tree.specs.Open.{open_leaf, AreIndexed}
use Rattle.box_tree.proofs.Indexing.{fresh-leaf, same-indexed, grown-indexed}
use Rattle.box_tree.proofs.tree.Tree.grow.Goals as goal

pub push_split-requires-clause-left : goal.push_split-requires-clause-left
push_split-requires-clause-left c =
    let t = c.self.inside in
    subst (λ (o : Option OpenLeaf). ForSome o (λ leaf. ¬ Contains t.order leaf)) (sym c.open_leaf-left_leaf.ensures)
    (fresh-leaf t.splits.list t.bounds.items t.order (2 * c.len.result + 1) c.args.left.bound c.self.invariant.1 (omega (arith, c.self.invariant.0.bounded, c.len.ensures)))

pub push_split-requires-clause-right : goal.push_split-requires-clause-right
push_split-requires-clause-right c =
    let t = c.self.inside in
    subst (λ (o : Option OpenLeaf). ForSome o (λ leaf. ¬ Contains t.order leaf)) (sym c.open_leaf-right_leaf.ensures)
    (fresh-leaf t.splits.list t.bounds.items t.order (2 * c.len.result + 1 + 1) c.args.right.bound c.self.invariant.1 (omega (arith, c.self.invariant.0.bounded, c.len.ensures)))

pub invariant_of-self-in_err-push_split : goal.invariant_of-self-in_err-push_split
invariant_of-self-in_err-push_split c =
    let t = c.self.inside in
    let sized : AreSized (length c.push_split.new.splits.list) (length c.reserve.new.self.items) (length c.reserve-2.new.self.items) = search rules in
    let indexed = same-indexed t.splits.list t.bounds.items t.order c.push_split.new.order c.self.invariant.1 c.in_err-push_split.ensures.same_leaves in
    let bounds : c.reserve-2.new.self.items ≡ t.bounds.items = search rules in (
      sized,
      subst (λ (s : Splits). AreIndexed s.list c.reserve-2.new.self.items c.push_split.new.order) (sym c.in_err-push_split.ensures.same_splits)
          (subst (λ (xs : List (Option ℤ)). AreIndexed t.splits.list xs c.push_split.new.order) (sym bounds) indexed),
    )

pub invariant_of-self-2 : goal.invariant_of-self-2
invariant_of-self-2 c =
    let t = c.self.inside in
    let s = shown_split c.args.split in
    let more : length c.push_split.new.splits.list ≡ length t.splits.list + 1 = ap (λ (z : Splits). length z.list) c.in_ok-push_split.ensures.pushed ∙ length-append t.splits.list (s ∷ []) in
    let few = subst (λ (h : Held). length h.kept.splits.list < most_splits) (sym c.self.view_is) c.requires.few in
    let proofs : c.push_reserved-2.new.self.items ≡ t.proofs.items ++ c.args.left.proof ∷ c.args.right.proof ∷ [] = grind (arith, common_steps) in
    let bounds : c.push_reserved-4.new.self.items ≡ t.bounds.items ++ c.args.left.bound ∷ c.args.right.bound ∷ [] = grind (arith, common_steps) in
    let sized : AreSized (length c.push_split.new.splits.list) (length c.push_reserved-2.new.self.items) (length c.push_reserved-4.new.self.items) = record {
      few = omega (arith, more, few);
      proved = omega (arith, more, c.self.invariant.0.proved, ap (λ (xs : List (Option Proof)). length xs) proofs, length-append t.proofs.items (c.args.left.proof ∷ c.args.right.proof ∷ []));
      bounded = omega (arith, more, c.self.invariant.0.bounded, ap (λ (xs : List (Option ℤ)). length xs) bounds, length-append t.bounds.items (c.args.left.bound ∷ c.args.right.bound ∷ []));
    } in
    let there = subst (λ (h : Held). s.leaf < nodes h.kept.splits.list) (sym c.self.view_is) c.requires.leaf in
    let past = subst (λ (h : Held). (node : ℕ) → nodes h.kept.splits.list ≤ node → is_cut h.kept.splits.list node ≡ false) (sym c.self.view_is) c.requires.uncut in
    let left : c.open_leaf-left_leaf.result ≡ open_leaf (left_node (length t.splits.list)) c.args.left.bound =
    c.open_leaf-left_leaf.ensures ∙ ap (λ (m : ℕ). open_leaf m c.args.left.bound) (omega (arith, c.len.ensures)) in
    let right : c.open_leaf-right_leaf.result ≡ open_leaf (right_node (length t.splits.list)) c.args.right.bound =
    c.open_leaf-right_leaf.ensures ∙ ap (λ (m : ℕ). open_leaf m c.args.right.bound) (omega (arith, c.len.ensures)) in
    let parent : c.open_leaf-parent.result ≡ open_leaf s.leaf (get_or t.bounds.items s.leaf None) =
    c.open_leaf-parent.ensures ∙ ap (λ (xs : List (Option ℤ)). open_leaf s.leaf (get_or xs s.leaf None)) (c.as_slice.ensures.value ∙ c.reserve-2.ensures.items) in
    let put = subst (λ (o : Option OpenLeaf). ArePut o (open_leaf (right_node (length t.splits.list)) c.args.right.bound) t.order c.push_split.new.order) left
    (subst (λ (o : Option OpenLeaf). ArePut c.open_leaf-left_leaf.result o t.order c.push_split.new.order) right c.in_ok-push_split.ensures.put) in
    let taken = subst (λ (o : Option OpenLeaf). IsTakenOut o c.push_split.new.order c.take_out.new.self) parent c.take_out.ensures in
    let indexed = grown-indexed t.splits.list t.bounds.items s c.args.left.bound c.args.right.bound t.order c.push_split.new.order c.take_out.new.self
    c.self.invariant.0.bounded there past c.self.invariant.1 put taken in (
      sized,
      subst (λ (z : Splits). AreIndexed z.list c.push_reserved-4.new.self.items c.take_out.new.self) (sym c.in_ok-push_split.ensures.pushed)
          (subst (λ (xs : List (Option ℤ)). AreIndexed (t.splits.list ++ s ∷ []) xs c.take_out.new.self) (sym bounds) indexed),
    )

-- The bound of a tree is at least the reach bound.
use Rattle.std.proofs.Common.{◌≡◌, ℕ, zero, suc, ◌<◌, inl, inr, ◌==◌, ◌||◌, if◌then◌else◌, length, Bool, true, false, Option, Some, None, ℤ, ◌≤ℤ◌, arith, refl, sym, ap, subst, ◌∙◌}
use Rattle.std.specs.Int.{int_min}
use Rattle.std.specs.Option.{ForSome}
use Rattle.std.proofs.lemmas.Int.{clamps}
use Rattle.std.proofs.lemmas.Option.{none-some}
use Rattle.integers.proofs.Ring.{additive}
use Rattle.integers.proofs.AtKey.{same_or_other}
use Rattle.pool_model.specs.Network.{Net}
use Rattle.pool_model.specs.Starting.{lesser, least_below, reach_bound}
use Rattle.row_model.specs.Multipliers.{Shown, bound, no_plan}
use Rattle.row_model.specs.Trees.{Tree, split_at, left_node, right_node, nodes, is_cut, raised, own, bound_after, node_bound, leaf_bound, tree_bound}

abbrev IsAbove : ℤ → Option ℤ → Type 0
IsAbove low None = Unit {0}
IsAbove low (Some z) = low ≤ℤ z

above-raised : (low : ℤ) (o : Option ℤ) (s : Option Shown) → IsAbove low o → IsAbove low (raised o s)
above-raised low None s h = tt
above-raised low (Some z) None h = h
above-raised low (Some z) (Some (bound y)) h = omega (arith, additive, clamps)
above-raised low (Some z) (Some no_plan) h = tt

above-lesser : (low : ℤ) (a b : Option ℤ) → IsAbove low a → IsAbove low b → IsAbove low (lesser a b)
above-lesser low None b h k = k
above-lesser low (Some a) None h k = h
above-lesser low (Some a) (Some b) h k = omega (arith, additive, clamps)

above-least : (low : ℤ) (f : ℕ → Option ℤ) (n : ℕ) → ((i : ℕ) → IsAbove low (f i)) → IsAbove low (least_below f n)
above-least low f zero h = tt
above-least low f (suc n) h = above-lesser low (least_below f n) (f n) (above-least low f n h) (h n)

above-if : (low : ℤ) (b : Bool) (x y : Option ℤ) → IsAbove low x → IsAbove low y → IsAbove low (if b then x else y)
above-if low true x y h k = h
above-if low false x y h k = k

above-after : (n : Net) (tree : Tree) (t node : ℕ) → IsAbove (reach_bound n) (bound_after n tree t node)
above-after n tree zero node = above-raised (reach_bound n) (Some (reach_bound n)) (own n tree node) (omega (arith, additive))
above-after n tree (suc t) node =
    above-if (reach_bound n) ((node == left_node t) || (node == right_node t)) (raised (bound_after n tree t (split_at tree.splits t).leaf) (own n tree node)) (bound_after n tree t node)
    (above-raised (reach_bound n) (bound_after n tree t (split_at tree.splits t).leaf) (own n tree node) (above-after n tree t (split_at tree.splits t).leaf))
    (above-after n tree t node)

pub tree-reached : (n : Net) (tree : Tree) → ForSome (tree_bound n tree) (λ z. reach_bound n ≤ℤ z)
tree-reached n tree z e =
    subst (IsAbove (reach_bound n)) e
    (above-least (reach_bound n) (leaf_bound n tree) (nodes tree.splits)
    (λ i. above-if (reach_bound n) (is_cut tree.splits i) None (node_bound n tree i) tt (above-after n tree (length tree.splits) i)))

-- ---- where a tree has no bound

lesser-none : (a b : Option ℤ) → lesser a b ≡ None → (a ≡ None) × (b ≡ None)
lesser-none None b e = (refl, e)
lesser-none (Some a) None e = absurd (none-some a (sym e))
lesser-none (Some a) (Some b) e = absurd (none-some (int_min a b) (sym e))

pub least-none : (f : ℕ → Option ℤ) (n i : ℕ) → least_below f n ≡ None → i < n → f i ≡ None
least-none f zero i e h = absurd (omega arith)
least-none f (suc n) i e h = elim (same_or_other i n) [
  | inl a ↦ ap (λ (j : ℕ). f j) a ∙ (lesser-none (least_below f n) (f n) e).1
  | inr d ↦ least-none f n i (lesser-none (least_below f n) (f n) e).0 (omega arith)
]

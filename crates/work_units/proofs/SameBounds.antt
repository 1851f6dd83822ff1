-- Trees that have the same leaves have the same bound.
use Rattle.std.proofs.Common.{◌≡◌, ℕ, zero, suc, ◌<◌, ◌⊎◌, inl, inr, ◌+◌, if◌then◌else◌, Bool, true, false, Option, Some, None, ℤ, arith, refl, sym, ap, subst, ◌∙◌}
use Rattle.std.specs.Int.{int_min}
use Rattle.std.proofs.lemmas.Int.{clamps}
use Rattle.std.proofs.lemmas.Bool.{cases_lt}
use Rattle.std.proofs.lemmas.Option.{none-some}
use borrow.Author.Differences.{up, down}
use Rattle.integers.proofs.Ring.{additive}
use Rattle.pool_model.specs.Network.{Net}
use Rattle.pool_model.specs.Starting.{lesser, least_below}
use Rattle.pool_model.proofs.Reach.{Reaches, Reaches-least_below}
use Rattle.row_model.specs.Boxes.{Box}
use Rattle.row_model.specs.Trees.{Tree, nodes, is_cut, node_bound, leaf_bound, box_of, tree_bound}
use Rattle.work_units.specs.Leaves.{HasLeaf, HaveSameLeaves}

min-either : (a b : ℤ) → (int_min a b ≡ a) ⊎ (int_min a b ≡ b)
min-either a b = elim (cases_lt (up a + down b) (up b + down a)) [ inl h ↦ inl (omega (arith, additive, clamps)) | inr h ↦ inr (omega (arith, additive, clamps)) ]

lesser-either : (a b : Option ℤ) (z : ℤ) → lesser a b ≡ Some z → (a ≡ Some z) ⊎ (b ≡ Some z)
lesser-either None b z e = inr e
lesser-either (Some a) None z e = inl e
lesser-either (Some a) (Some b) z e = elim (min-either a b) [
  | inl m ↦ inl (ap (λ (x : ℤ). Some x) (sym m) ∙ e)
  | inr m ↦ inr (ap (λ (x : ℤ). Some x) (sym m) ∙ e)
]

-- the least of some numbers is one of them
least-is : (f : ℕ → Option ℤ) (n : ℕ) (z : ℤ) → least_below f n ≡ Some z → (i : ℕ) × (i < n) × (f i ≡ Some z)
least-is f zero z e = absurd (none-some z e)
least-is f (suc n) z e = elim (lesser-either (least_below f n) (f n) z e) [
  | inl h ↦ let w = least-is f n z h in (w.0, omega (arith, w.1), w.2)
  | inr h ↦ (n, omega arith, h)
]

uncut-bound : (b : Bool) (o : Option ℤ) (z : ℤ) → (if b then None else o) ≡ Some z → (b ≡ false) × (o ≡ Some z)
uncut-bound false o z e = (refl, e)
uncut-bound true o z e = absurd (none-some z e)

-- a tree's bound is that of some leaf
bound-leaf : (n : Net) (t : Tree) (z : ℤ) → tree_bound n t ≡ Some z → (b : Box) × HasLeaf n t b (Some z)
bound-leaf n t z e =
    let w = least-is (leaf_bound n t) (nodes t.splits) z e in
    let parts = uncut-bound (is_cut t.splits w.0) (node_bound n t w.0) z w.2 in
    (box_of n t.splits w.0, record { node = w.0; leaf = record { there = w.1; uncut = parts.0 }; box = refl; bounded = parts.1 })

-- and no leaf has less
leaf-reaches : (n : Net) (t : Tree) (b : Box) (z : ℤ) → HasLeaf n t b (Some z) → Reaches (tree_bound n t) z
leaf-reaches n t b z h =
    let bound : leaf_bound n t h.node ≡ Some z = cc (h.leaf.uncut, h.bounded) in
    Reaches-least_below (leaf_bound n t) (nodes t.splits) h.node z h.leaf.there (subst (λ (o : Option ℤ). Reaches o z) (sym bound) (omega (arith, additive)))

same-when-reached : (a b : Option ℤ) → ((z : ℤ) → a ≡ Some z → Reaches b z) → ((z : ℤ) → b ≡ Some z → Reaches a z) → a ≡ b
same-when-reached None None h k = refl
same-when-reached None (Some y) h k = absurd (k y refl)
same-when-reached (Some x) None h k = absurd (h x refl)
same-when-reached (Some x) (Some y) h k =
    let below = h x refl in
    let above = k y refl in
    ap (λ (z : ℤ). Some z) (omega (arith, additive, below, above))

pub same-bound : (n : Net) (t u : Tree) → HaveSameLeaves n t u → tree_bound n t ≡ tree_bound n u
same-bound n t u same = same-when-reached (tree_bound n t) (tree_bound n u)
    (λ z e. let w = bound-leaf n t z e in leaf-reaches n u w.0 z ((same w.0 (Some z)).0 w.1))
    (λ z e. let w = bound-leaf n u z e in leaf-reaches n t w.0 z ((same w.0 (Some z)).1 w.1))

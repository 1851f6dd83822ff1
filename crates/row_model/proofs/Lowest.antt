-- Bounds are never below the reach bound, nor above the cost of a plan.
use Rattle.std.proofs.Common.{ℕ, zero, suc, ◌==◌, ◌||◌, if◌then◌else◌, length, Bool, true, false, Option, None, Some, ℤ, ◌≤ℤ◌, arith}
use Rattle.std.proofs.lemmas.Int.{clamps}
use Rattle.integers.proofs.Ring.{additive}
use Rattle.pool_model.specs.Network.{Net}
use Rattle.pool_model.specs.Starting.{lesser, least_below, reach_bound}
use Rattle.row_model.specs.Multipliers.{Shown, bound, no_plan}
use Rattle.row_model.specs.Trees.{Tree, split_at, left_node, right_node, nodes, is_cut, raised, own, bound_after, node_bound, leaf_bound, tree_bound}

-- a bound, where there is one, is at least that
abbrev pub AtLeast : ℤ → Option ℤ → Type 0
AtLeast low None = Unit {0}
AtLeast low (Some z) = low ≤ℤ z

raised_above : (low : ℤ) (o : Option ℤ) (s : Option Shown) → AtLeast low o → AtLeast low (raised o s)
raised_above low None s h = h
raised_above low (Some z) None h = h
raised_above low (Some z) (Some (bound y)) h = omega (arith, additive, clamps, h)
raised_above low (Some z) (Some no_plan) h = tt

either_above : (low : ℤ) (t : Bool) (a b : Option ℤ) → AtLeast low a → AtLeast low b → AtLeast low (if t then a else b)
either_above low true a b h k = h
either_above low false a b h k = k

bound_above : (n : Net) (tree : Tree) (t node : ℕ) → AtLeast (reach_bound n) (bound_after n tree t node)
bound_above n tree zero node = raised_above (reach_bound n) (Some (reach_bound n)) (own n tree node) (omega (arith, additive))
bound_above n tree (suc t) node =
    either_above (reach_bound n) ((node == left_node t) || (node == right_node t))
    (raised (bound_after n tree t (split_at tree.splits t).leaf) (own n tree node)) (bound_after n tree t node)
    (raised_above (reach_bound n) (bound_after n tree t (split_at tree.splits t).leaf) (own n tree node) (bound_above n tree t (split_at tree.splits t).leaf))
    (bound_above n tree t node)

lesser_above : (low : ℤ) (a b : Option ℤ) → AtLeast low a → AtLeast low b → AtLeast low (lesser a b)
lesser_above low None b h k = k
lesser_above low (Some a) None h k = h
lesser_above low (Some a) (Some b) h k = omega (arith, additive, clamps, h, k)

least_above : (low : ℤ) (f : ℕ → Option ℤ) (n : ℕ) → ((i : ℕ) → AtLeast low (f i)) → AtLeast low (least_below f n)
least_above low f zero h = tt
least_above low f (suc n) h = lesser_above low (least_below f n) (f n) (least_above low f n h) (h n)

pub tree-above : (n : Net) (tree : Tree) → AtLeast (reach_bound n) (tree_bound n tree)
tree-above n tree = least_above (reach_bound n) (leaf_bound n tree) (nodes tree.splits)
    (λ node. either_above (reach_bound n) (is_cut tree.splits node) None (node_bound n tree node) tt (bound_above n tree (length tree.splits) node))

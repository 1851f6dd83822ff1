-- The order of the widest rows.
use Rattle.std.proofs.Common.{ℕ, ℤ, pos, ◌*ℤ◌, ◌≤ℤ◌, ◌<ℤ◌, ◌-ℤ◌, ◌+ℤ◌, List, arith}
use Rattle.std.proofs.lemmas.Int.{ints}
use Rattle.integers.proofs.Ring.{sorted, additive}
use Rattle.integers.proofs.Order.{le-mul, lt-mul, lt-cancel}
use Rattle.branching.specs.declared.view.CoordRow.{CoordRow}
use Rattle.branching.specs.Rows.{row_at, width_of, IsOpenAt, AreRows}
use Rattle.branching.specs.Known.{IsNarrower}
use Rattle.branching.proofs.Greatest.{IsWeakOrder}

-- a/x is at most b/y, and that is below c/z
pub le_then_lt : (a x b y c z : ℤ) → pos 0 <ℤ x → pos 0 <ℤ y → pos 0 <ℤ z → (a *ℤ y) ≤ℤ (b *ℤ x) → (b *ℤ z) <ℤ (c *ℤ y) → (a *ℤ z) <ℤ (c *ℤ x)
le_then_lt a x b y c z p q r h k =
    lt-cancel y (a *ℤ z) (c *ℤ x) q (simp sorted (omega (arith, additive, simp sorted at (le-mul z (a *ℤ y) (b *ℤ x) (omega (arith, ints)) h), simp sorted at (lt-mul x (b *ℤ z) (c *ℤ y) p k))))

not_lt : (a b : ℤ) → ¬ (a <ℤ b) → b ≤ℤ a
not_lt a b h = grind (arith, ints)

wide : (low high root : ℤ) → (low +ℤ pos 2) ≤ℤ high → (high -ℤ low) ≤ℤ root → pos 0 <ℤ root
wide low high root h k = omega (arith, ints)

-- an open row has a width in the root box
pub root_wide : (rows : List CoordRow) (i : ℕ) → AreRows rows → IsOpenAt rows i → pos 0 <ℤ (row_at rows i).root_width
root_wide rows i are here = wide _ _ _ here.is_open (are.each i here.there).within

pub narrower_is : (rows : List CoordRow) → AreRows rows → IsWeakOrder IsNarrower rows
narrower_is rows are = record {
  asymmetric = λ i j here there less more. omega (arith, ints);
  trans = λ i j k at_i at_j at_k most less.
      le_then_lt (width_of (row_at rows i)) (row_at rows i).root_width (width_of (row_at rows j)) (row_at rows j).root_width (width_of (row_at rows k)) (row_at rows k).root_width
      (root_wide rows i are at_i) (root_wide rows j are at_j) (root_wide rows k are at_k) (not_lt _ _ most) less;
}

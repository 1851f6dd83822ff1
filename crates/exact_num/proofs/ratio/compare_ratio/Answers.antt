use Rattle.std.proofs.Common.{◌≡◌, ℕ, ℤ, pos, ◌<ℤ◌, ◌*ℤ◌, unsigned_abs, Ordering, SFits, to_z, of_z}
use Rattle.std.proofs.lemmas.Int.{to_z-of_z}
use Rattle.std.specs.Ordering.{int_cmp}
use Rattle.exact_num.proofs.Signs.{positive_is}
use Rattle.exact_num.proofs.ratio.compare_ratio.Goals as goal
use mir.Syntax.{w128}

-- the order of the products by sizes is that of the products
by_sizes : (a b c d : ℤ) (m n : ℕ) (r : Ordering) → pos 0 <ℤ b → pos 0 <ℤ d → SFits w128 a → SFits w128 b → SFits w128 c → SFits w128 d
    → m ≡ unsigned_abs (to_z w128 (of_z w128 b)) → n ≡ unsigned_abs (to_z w128 (of_z w128 d))
    → r ≡ int_cmp (to_z w128 (of_z w128 a) *ℤ pos n) (to_z w128 (of_z w128 c) *ℤ pos m) → r ≡ int_cmp (a *ℤ d) (c *ℤ b)
by_sizes a b c d m n r pb pd fa fb fc fd eb ed h =
    let order = simp to_z-of_z at h in
    let left = simp to_z-of_z at eb in
    let right = simp to_z-of_z at ed in rw (left, right, positive_is b pb, positive_is d pd) at order

pub returns-in_default : goal.returns-in_default
returns-in_default c =
    by_sizes c.args.a c.args.b c.args.c c.args.d _ _ _ c.requires.left c.requires.right c.ranges.a c.ranges.b c.ranges.c c.ranges.d
    c.unsigned_abs-in_default.ensures.value c.unsigned_abs.ensures.value c.compare_signed.ensures

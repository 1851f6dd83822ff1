-- Tests of orders, in the words of what is tested.
use Rattle.std.proofs.Common.{ℕ, ◌<◌, ℤ, pos, ◌+ℤ◌, ◌*ℤ◌, ◌≤ℤ◌, ◌<ℤ◌, arith}
use Rattle.std.specs.Prelude.{Result, Ok, Err, OnErr}
use Rattle.integers.proofs.Ring.{additive}
use Rattle.integers.proofs.Order.{le-mul_pos, lt-cancel}
use Rattle.integers.proofs.Ring.{mul_comm_ℤ}

-- a number rounded down is at most a bound exactly where the number is below the next one
pub below-next : (floor cost bound : ℤ) (base : ℕ) → 0 < base → (floor *ℤ pos base) ≤ℤ cost → cost <ℤ ((floor +ℤ pos 1) *ℤ pos base)
    → (floor ≤ℤ bound → cost <ℤ ((bound +ℤ pos 1) *ℤ pos base)) × (cost <ℤ ((bound +ℤ pos 1) *ℤ pos base) → floor ≤ℤ bound)
below-next floor cost bound base some low high = (
  λ le. omega (arith, additive, high, le-mul_pos base (floor +ℤ pos 1) (bound +ℤ pos 1) (omega (arith, additive))),
  λ lt.
      let apart : (pos base *ℤ floor) <ℤ (pos base *ℤ (bound +ℤ pos 1)) = omega (arith, additive, low, lt, mul_comm_ℤ (pos base) floor, mul_comm_ℤ (pos base) (bound +ℤ pos 1)) in
      let less : floor <ℤ (bound +ℤ pos 1) = lt-cancel (pos base) floor (bound +ℤ pos 1) (omega (arith, additive)) apart in omega (arith, additive, less),
)

-- what does not depend on the error
pub on_err : {T E P : Type 0} (r : Result T E) → P → OnErr r P
on_err (Ok x) p = tt
on_err (Err e) p = p

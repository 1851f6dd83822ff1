use Rattle.std.proofs.Common.{◌≡◌, ℕ, ◌+◌, ◌%◌}
use Rattle.std.specs.Int.{IsGcd}
use Rattle.exact_num.proofs.gcd.odd_gcd.Given as goal

-- x is odd, and the greatest common divisor stays
abbrev pub invariant-loop-y : goal.invariant-loop-y
invariant-loop-y l = record { odd : l.x % 2 ≡ 1; kept : (g : ℕ) → IsGcd l.x l.y g → IsGcd l.fn.x l.fn.y g }

abbrev pub decreases-loop-y : goal.decreases-loop-y
decreases-loop-y l = l.x + l.y

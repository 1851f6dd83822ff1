-- A node's bound that rounding raised is at least what the price proof shows.
use Rattle.std.proofs.Common.{Option, None, Some, option_map, ℤ, ◌≤ℤ◌, arith}
use Rattle.std.specs.Int.{int_max}
use Rattle.std.proofs.lemmas.Int.{ints, clamps}
use Rattle.pool_model.specs.Network.{Net}
use Rattle.row_model.specs.Boxes.{Box}
use Rattle.row_model.specs.Multipliers.{Proof, Shown, bound, no_plan, shown_by}
use Rattle.row_model.specs.Trees.{raised}
use Rattle.dual_rounding.specs.Answers.{IsAtMost, known_by}
use Rattle.dual_rounding.specs.Price.{IsPriced, price_bound, price_proof}

greater : (z low high : ℤ) → z ≤ℤ high → z ≤ℤ int_max low high
greater z low high h = omega (arith, ints, clamps)

by_shown : (n : Net) (b : Box) (least : ℤ) (s : Shown) → IsAtMost (bound (price_bound n b)) s → IsPriced n b (raised (Some least) (Some s))
by_shown n b least (bound z) h = greater (price_bound n b) least z h
by_shown n b least no_plan h = tt

pub priced-raised : (n : Net) (b : Box) (least : ℤ) (o : Option Proof) → IsAtMost (shown_by n b (price_proof n)) (known_by n b (bound least) o)
    → IsPriced n b (raised (Some least) (option_map (shown_by n b) o))
priced-raised n b least None h = h
priced-raised n b least (Some p) h = by_shown n b least (shown_by n b p) h

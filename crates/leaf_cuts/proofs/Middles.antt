-- The middle of a box's ends lies strictly inside, where they are at least 2 apart.
use Rattle.std.proofs.Common.{ℕ, ℤ, pos, ◌+ℤ◌, ◌-ℤ◌, ◌≤ℤ◌, ◌<ℤ◌, arith}
use Rattle.std.specs.Int.RustNames.{int_div}
use Rattle.std.proofs.lemmas.Int.{ints}
use lib.IntN.{negsuc}
use Rattle.row_model.specs.Boxes.{Box}
use Rattle.leaf_cuts.specs.Halvings.{middle_at}

half-inside : (w : ℤ) → pos 2 ≤ℤ w → (pos 0 <ℤ int_div w (pos 2)) × (int_div w (pos 2) <ℤ w)
half-inside (pos a) h = (omega (arith, ints), omega (arith, ints))
half-inside (negsuc a) h = absurd (omega (arith, ints))

apart : (low high : ℤ) → (low +ℤ pos 2) ≤ℤ high → pos 2 ≤ℤ (high -ℤ low)
apart low high h = omega (arith, ints)

above : (low half : ℤ) → pos 0 <ℤ half → low <ℤ (low +ℤ half)
above low half h = omega (arith, ints)

below : (low high half : ℤ) → half <ℤ (high -ℤ low) → (low +ℤ half) <ℤ high
below low high half h = omega (arith, ints)

pub middle-above : (b : Box) (c : ℕ) → (b.low c +ℤ pos 2) ≤ℤ b.high c → b.low c <ℤ middle_at b c
middle-above b c h = above (b.low c) (int_div (b.high c -ℤ b.low c) (pos 2)) (half-inside (b.high c -ℤ b.low c) (apart (b.low c) (b.high c) h)).0

pub middle-below : (b : Box) (c : ℕ) → (b.low c +ℤ pos 2) ≤ℤ b.high c → middle_at b c <ℤ b.high c
middle-below b c h = below (b.low c) (b.high c) (int_div (b.high c -ℤ b.low c) (pos 2)) (half-inside (b.high c -ℤ b.low c) (apart (b.low c) (b.high c) h)).1

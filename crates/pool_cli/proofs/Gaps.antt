-- The gap that words ask for is one that a search takes.
use Rattle.std.proofs.Common.{◌≡◌, ◌^◌, List, Option, Some, None, ℤ, pos, ◌*ℤ◌, ◌≤ℤ◌, arith}
use Rattle.std.proofs.lemmas.Int.{ints}
use Rattle.integers.proofs.Ring.{linear}
use Rattle.cli_words.specs.Items.{Text}
use Rattle.cli_words.specs.Asks.{Asks, IsGap}
use Rattle.cli_words.specs.Requests.{Asked, Solving, solve}
use Rattle.solve_command.specs.Gaps.{IsGapAsked}
use Rattle.pool_cli.specs.Ends.{HasFairGap}

low : (z q : ℤ) → z ≡ q *ℤ pos (10 ^ 6) → pos 0 ≤ℤ q → pos 0 ≤ℤ z
low z q e h = omega (arith, linear)

high : (z q : ℤ) → z ≡ q *ℤ pos (10 ^ 6) → q ≤ℤ pos (10 ^ 12) → z ≤ℤ pos (10 ^ 18)
high z q e h = omega (arith, linear)

of_option : (o : Option Text) (z : ℤ) → IsGap o z → IsGapAsked z
of_option None z e = record { least = omega (arith, ints); most = omega (arith, ints) }
of_option (Some text) z m = record { least = low z m.quantity m.amount m.low; most = high z m.quantity m.amount m.high }

gap-asked : (words : List Text) (s : Solving) → Asks words (solve s) → IsGapAsked s.gap
gap-asked words s asks = of_option _ s.gap asks.says.gap

pub fair-gap : (words : List Text) (asked : Asked) → Asks words asked → HasFairGap asked
fair-gap words (solve s) asks = gap-asked words s asks
fair-gap words asked asks = tt

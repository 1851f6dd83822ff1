use Rattle.std.proofs.Common.{arith}
use Rattle.exact_pivots.proofs.Entries.{factor-above}
use Rattle.exact_pivots.proofs.start.first_cost.Goals as goal

pub returns : goal.returns
returns c = record {
  variables = λ v lt. c.loop-number.invariant.1 v (omega (arith, c.loop-number-test.false, c.len-number-end.ensures));
  others = λ j le. factor-above c.loop-number.cost.entries.items c.loop-number.number j c.loop-number.invariant.0
      (omega (arith, c.loop-number.auto.number-end, c.len-number-end.ensures));
}

use Rattle.std.proofs.Common.{arith}
use Rattle.quantity.proofs.Digits.{fits_in, digit_at}
use Rattle.quantity.proofs.read.number_of.Goals as goal

pub overflow_mul-n : goal.overflow_mul-n
overflow_mul-n c = omega (arith, fits_in _ _ 14 c.loop-d.invariant.1 (omega arith))

pub overflow_add-n : goal.overflow_add-n
overflow_add-n c = omega (arith, c.from.ensures, fits_in _ _ 14 c.loop-d.invariant.1 (omega arith), digit_at c.args.digits.now c.loop-d.d-index c.requires.digits c.loop-d-test.true)

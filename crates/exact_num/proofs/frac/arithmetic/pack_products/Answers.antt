use Rattle.std.proofs.Common.{◌*◌, arith, refl}
use Rattle.exact_num.proofs.Signs.{LeavesRange-signed}
use Rattle.exact_num.proofs.frac.arithmetic.pack_products.Goals as goal

pub pack-requires-clause-lowest : goal.pack-requires-clause-lowest
pack-requires-clause-lowest c = rw (c.in-Some-Some.ensures.1, c.in-Some-Some.ensures'.1) c.requires.lowest

pub returns-in_default-clause-wide : goal.returns-in_default-clause-wide
returns-in_default-clause-wide c = (
  refl,
  LeavesRange-signed c.args.negative (c.args.a * c.args.b) (c.args.c * c.args.d) c.requires.lowest
      (λ p q. c.in_default.ensures' (omega arith)),
)

pub returns-in_default-2-clause-wide : goal.returns-in_default-2-clause-wide
returns-in_default-2-clause-wide c = (
  refl,
  LeavesRange-signed c.args.negative (c.args.a * c.args.b) (c.args.c * c.args.d) c.requires.lowest
      (λ p q. (rw c.in_default.is-0 at c.checked_mul.ensures) (omega arith)),
)

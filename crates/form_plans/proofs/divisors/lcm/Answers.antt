use Rattle.std.proofs.Common.{arith}
use Rattle.integers.proofs.Divides.{positive-gcd}
use Rattle.form_plans.proofs.Multiples.{lcm-from_gcd, lcm-le}
use Rattle.form_plans.proofs.divisors.lcm.Goals as goal

pub nonzero_div-result : goal.nonzero_div-result
nonzero_div-result c = let positive = positive-gcd c.args.a c.args.b c.gcd.result c.requires.second c.gcd.ensures in omega arith

pub overflow_mul-result : goal.overflow_mul-result
overflow_mul-result c = let le = lcm-le c.args.a c.args.b c.gcd.result c.requires.second c.gcd.ensures in omega arith

pub returns-clause-least : goal.returns-clause-least
returns-clause-least c = lcm-from_gcd c.args.a c.args.b c.gcd.result c.requires.first c.requires.second c.gcd.ensures

pub returns-clause-small : goal.returns-clause-small
returns-clause-small c = lcm-le c.args.a c.args.b c.gcd.result c.requires.second c.gcd.ensures

use Rattle.std.specs.Int.{w128}
use Rattle.integers.proofs.Twos.{without_zeros, IsGcd-without_zeros}
use Rattle.exact_num.proofs.gcd.halved_gcd.Goals as goal

pub odd_gcd-requires : goal.odd_gcd-requires
odd_gcd-requires c = (without_zeros w128 c.args.x c.requires.positive c.ranges.x.fits).0

pub returns : goal.returns
returns c =
    IsGcd-without_zeros w128 c.args.x c.args.y _ c.requires.positive c.ranges.x.fits c.requires.positive_also c.ranges.y.fits c.requires.even c.odd_gcd.ensures

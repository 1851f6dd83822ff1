use Rattle.std.proofs.Common.{◌/◌, sym}
use Rattle.integers.proofs.Divides.{IsCoprime-quotients, positive-gcd}
use Rattle.exact_num.specs.Signed.{signed_fraction}
use Rattle.exact_num.proofs.Signs.{signed_fraction-divided, positive-quotient}
use Rattle.exact_num.proofs.Results.{given_as, refused_as}
use Rattle.exact_num.proofs.frac.making.divided.Goals as goal

pub pack-requires-clause-positive : goal.pack-requires-clause-positive
pack-requires-clause-positive c = positive-quotient _ _ _ c.requires.positive c.requires.greatest

pub pack-requires-clause-lowest : goal.pack-requires-clause-lowest
pack-requires-clause-lowest c = IsCoprime-quotients _ _ _ (positive-gcd _ _ _ c.requires.positive c.requires.greatest) c.requires.greatest

pub returns-clause-same : goal.returns-clause-same
returns-clause-same c =
    given_as c.pack.result (signed_fraction c.args.negative (c.args.num / c.args.common) (c.args.den / c.args.common)) (signed_fraction c.args.negative c.args.num c.args.den)
    (signed_fraction-divided c.args.negative c.args.num c.args.den c.args.common c.requires.greatest) c.pack.ensures.same

pub returns-clause-wide : goal.returns-clause-wide
returns-clause-wide c =
    refused_as c.pack.result (signed_fraction c.args.negative (c.args.num / c.args.common) (c.args.den / c.args.common)) (signed_fraction c.args.negative c.args.num c.args.den)
    c.requires.positive (sym (signed_fraction-divided c.args.negative c.args.num c.args.den c.args.common c.requires.greatest)) c.pack.ensures.wide

use Rattle.std.proofs.Common.{arith}
use Rattle.pool_model.specs.Network.{net_of}
use Rattle.point_checks.proofs.qual_checks.keeps_quality.Goals as goal

pub quality_into-taken-requires-clause-small : goal.quality_into-taken-requires-clause-small
quality_into-taken-requires-clause-small c = omega (arith, c.requires.small.fed c.args.pool c.requires.pool)

use Rattle.std.proofs.Common.{get_or}
use Rattle.pool_model.specs.Network.{net_of}
use Rattle.point_checks.proofs.Tests.{maximum_as_read}
use Rattle.point_checks.proofs.maxima.out_keeps.Goals as goal

pub returns : goal.returns
returns c =
    maximum_as_read ((net_of c.args.net.now).out_max c.args.out) c.out_max.result c.args.base (get_or c.args.flows.now c.args.out 0) c.keeps.result c.out_max.ensures.value c.keeps.ensures

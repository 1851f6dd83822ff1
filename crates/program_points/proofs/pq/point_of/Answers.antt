use Rattle.pool_model.specs.Network.{net_of}
use Rattle.program_points.proofs.Lists.{held-further}
use Rattle.program_points.proofs.pq.point_of.Goals as goal

pub returns-clause-point : goal.returns-clause-point
returns-clause-point c = held-further (net_of c.args.net.now) c.point_of.result c.point_of.ensures.limited c.point_of.ensures.point

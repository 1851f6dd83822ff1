use Rattle.std.proofs.Common.{arith}
use Rattle.pool_model.specs.Network.{net_of}
use Rattle.row_model.specs.Boxes.{root}
use Rattle.row_book.proofs.Placing.{placed-network, placed-p, placed-q, placed-further}
use Rattle.row_book.proofs.catalogue.place_of.Goals as goal

pub returns-then-id-network-clause-placed : goal.returns-then-id-network-clause-placed
returns-then-id-network-clause-placed c = placed-network (net_of c.args.net.now) c.args.id (omega (arith, c.count-network.ensures.count))

pub returns-then-id-by_quality-clause-placed : goal.returns-then-id-by_quality-clause-placed
returns-then-id-by_quality-clause-placed c =
    let n = net_of c.args.net.now in
    placed-p n c.args.id c.count-network.result c.count-network.ensures.count (omega arith) (omega (arith, c.count-by_quality.ensures.count (root n)))

pub returns-then-id-by_proportion-clause-placed : goal.returns-then-id-by_proportion-clause-placed
returns-then-id-by_proportion-clause-placed c =
    let n = net_of c.args.net.now in
    placed-q n c.args.id c.count-network.result c.count-by_quality.result c.count-network.ensures.count (c.count-by_quality.ensures.count (root n))
    (omega arith) (omega arith) (omega (arith, c.count-by_proportion.ensures.count (root n)))

pub returns-clause-placed : goal.returns-clause-placed
returns-clause-placed c =
    let n = net_of c.args.net.now in
    placed-further n c.args.id c.count-network.result c.count-by_quality.result c.count-by_proportion.result c.count-network.ensures.count
    (c.count-by_quality.ensures.count (root n)) (c.count-by_proportion.ensures.count (root n))
    (omega arith) (omega arith) (omega arith) c.requires

use Rattle.std.proofs.Common.{arith}
use Rattle.pool_model.specs.Network.{net_of}
use Rattle.row_model.specs.Boxes.{root}
use Rattle.row_book.proofs.Placing.{rows_is}
use Rattle.row_book.proofs.exact.further.Goals as goal

pub returns-clause-first : goal.returns-clause-first
returns-clause-first c = let n = net_of c.args.net.now in omega (arith, c.count.ensures.count, c.count-2.ensures.count (root n), c.count-3.ensures.count (root n))

pub returns-clause-fits : goal.returns-clause-fits
returns-clause-fits c =
    let n = net_of c.args.net.now in
    omega (arith, rows_is n, c.count.ensures.count, c.count-2.ensures.count (root n), c.count-3.ensures.count (root n), c.count-4.ensures.count)

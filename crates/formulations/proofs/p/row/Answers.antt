use Rattle.std.proofs.Common.{arith, sym}
use Rattle.pool_model.specs.Network.{net_of}
use Rattle.box_space.specs.Views.{shown_box}
use Rattle.box_space.proofs.Writing.{line-same}
use Rattle.formulations.proofs.FamiliesOfP.{at_envelope}
use Rattle.formulations.proofs.p.row.Goals as goal

pub returns-then-n-first : goal.returns-then-n-first
returns-then-n-first c = line-same (net_of c.args.net.now) _ _ c.write.new.self c.write.result (c.table_at-table.ensures.row (shown_box c.args.v.now)) c.write.ensures

pub returns : goal.returns
returns c =
    let n = net_of c.args.net.now in
    line-same n _ _ c.write-2.new.row c.write-2.result
    (sym (at_envelope n (shown_box c.args.v.now) c.args.n c.exact_rows-first.result c.exact_rows-first.ensures.count (omega (arith, c.if-n-first.false))
    (omega (arith, c.exact_rows-first.ensures.count, c.requires.among))))
    c.write-2.ensures

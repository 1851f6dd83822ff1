use Rattle.std.proofs.Common.{arith, sym, ◌∙◌}
use Rattle.pool_model.specs.Network.{net_of}
use Rattle.formulations.proofs.FamiliesOfPq.{at_out}
use Rattle.formulations.proofs.pq.table_at.Goals as goal

pub returns-then-n-counts-clause-row : goal.returns-then-n-counts-clause-row
returns-then-n-counts-clause-row c =
    let n = net_of c.args.net.now in
    c.out_row.ensures.row n ∙ sym (at_out n c.args.n (omega (arith, c.sizes-counts.ensures.counts.outs)))
